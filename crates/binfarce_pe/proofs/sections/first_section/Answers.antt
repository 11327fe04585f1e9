use Rattle.std.proofs.Common.{Some, None, refl, arith}
use Rattle.binfarce_bytes.specs.Refusal.{unexpected_eof}
use Rattle.binfarce_pe.specs.PeParts.{headers_view, table_walk}
use Rattle.binfarce_pe.specs.PeViews.{section_view}
use Rattle.binfarce_pe.specs.machine.RawPe.{walk_from}
use Rattle.binfarce_bytes.proofs.Searches.{reaches_all, none_accepted, may_be_asked, accepted, reaches_next, refused_by, some_is, none_is}
use Rattle.binfarce_pe.proofs.SectionsLeft.{all_left}
use Rattle.binfarce_pe.proofs.sections.first_section.Goals as goal

pub loop-callback-init : goal.loop-callback-init
loop-callback-init g c =
    let table = headers_view c.args.table in
    (omega arith, reaches_all section_view (goal.F-post g c.args.callback) (table_walk table) (walk_from table (Some 0)) (all_left table))

pub returns-in_err-section : goal.returns-in_err-section
returns-in_err-section g c =
    let table = headers_view c.args.table in
    refused_by unexpected_eof section_view _ _ c.from_residual.result c.from_residual.ensures.0
    (none_accepted section_view (goal.F-post g c.args.callback) (table_walk table) (walk_from table (Some c.loop-callback.next)) c.loop-callback.invariant.1 (Some unexpected_eof) c.in_err-section.ensures)

pub is_accepted-requires : goal.is_accepted-requires
is_accepted-requires g c κs =
    let table = headers_view c.args.table in
    let found = some_is c.in_ok-section.field-0 (c.in-Some.section, c.in-Some.after) _ _ c.in-Some.is c.in_ok-section.ensures in (
      (refl, tt),
      may_be_asked section_view (goal.F-post g c.args.callback) (table_walk table) (walk_from table (Some c.loop-callback.next)) c.loop-callback.invariant.1
          c.in-Some.section (walk_from table (Some c.in-Some.after)) found.1 _ c.requires,
    )

pub returns-then-is_accepted : goal.returns-then-is_accepted
returns-then-is_accepted g c =
    let table = headers_view c.args.table in
    let found = some_is c.in_ok-section.field-0 (c.in-Some.section, c.in-Some.after) _ _ c.in-Some.is c.in_ok-section.ensures in
    accepted section_view (goal.F-post g c.args.callback) (table_walk table) (walk_from table (Some c.loop-callback.next)) c.loop-callback.invariant.1
    c.in-Some.section (walk_from table (Some c.in-Some.after)) found.1 c.if-is_accepted.ensures

pub loop-callback-preserved : goal.loop-callback-preserved
loop-callback-preserved g c =
    let table = headers_view c.args.table in
    let found = some_is c.in_ok-section.field-0 (c.in-Some.section, c.in-Some.after) _ _ c.in-Some.is c.in_ok-section.ensures in (
      found.0,
      reaches_next section_view (goal.F-post g c.args.callback) (table_walk table) (walk_from table (Some c.loop-callback.next)) c.loop-callback.invariant.1
          c.in-Some.section (walk_from table (Some c.in-Some.after)) found.1 c.if-is_accepted.ensures,
    )

pub returns : goal.returns
returns g c =
    let table = headers_view c.args.table in
    none_accepted section_view (goal.F-post g c.args.callback) (table_walk table) (walk_from table (Some c.loop-callback.next)) c.loop-callback.invariant.1 None
    (none_is c.in_ok-section.field-0 _ _ c.in_default.is c.in_ok-section.ensures)
