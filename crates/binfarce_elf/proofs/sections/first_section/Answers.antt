use Rattle.std.proofs.Common.{◌+◌, Some, None, arith}
use Rattle.binfarce_bytes.specs.Refusal.{unexpected_eof}
use Rattle.binfarce_elf.specs.Elf.{walk}
use Rattle.binfarce_elf.specs.ElfViews.{section_view}
use Rattle.binfarce_elf.specs.machine.RawElf.{table_view, walk_from}
use Rattle.binfarce_bytes.proofs.Searches.{reaches_all, none_accepted, may_be_asked, accepted, reaches_next, refused_by, some_is, none_is}
use Rattle.binfarce_elf.proofs.SectionsLeft.{all_left}
use Rattle.binfarce_elf.proofs.sections.first_section.Goals as goal

pub loop-callback-init : goal.loop-callback-init
loop-callback-init g c =
    let class = g.C.Class.table in
    let t = table_view c.args.table in
    (omega arith, reaches_all (section_view g.C.Class.number_of) (goal.F-post g c.args.callback) (walk class t) (walk_from class t (Some 0)) (all_left class t))

pub returns-in_err-section : goal.returns-in_err-section
returns-in_err-section g c =
    let class = g.C.Class.table in
    let t = table_view c.args.table in
    refused_by unexpected_eof (section_view g.C.Class.number_of) _ _ c.from_residual.result c.from_residual.ensures.0
    (none_accepted (section_view g.C.Class.number_of) (goal.F-post g c.args.callback) (walk class t) (walk_from class t (Some c.loop-callback.index)) c.loop-callback.invariant.1 (Some unexpected_eof) c.in_err-section.ensures)

pub callback-requires : goal.callback-requires
callback-requires g c =
    let class = g.C.Class.table in
    let t = table_view c.args.table in
    let found = some_is c.in_ok-section.field-0 c.in-Some.section _ _ c.in-Some.is c.in_ok-section.ensures in
    may_be_asked (section_view g.C.Class.number_of) (goal.F-post g c.args.callback) (walk class t) (walk_from class t (Some c.loop-callback.index)) c.loop-callback.invariant.1
    c.in-Some.section (walk_from class t (Some (c.loop-callback.index + 1))) found.1 _ c.requires

pub returns-then-callback : goal.returns-then-callback
returns-then-callback g c =
    let class = g.C.Class.table in
    let t = table_view c.args.table in
    let found = some_is c.in_ok-section.field-0 c.in-Some.section _ _ c.in-Some.is c.in_ok-section.ensures in
    accepted (section_view g.C.Class.number_of) (goal.F-post g c.args.callback) (walk class t) (walk_from class t (Some c.loop-callback.index)) c.loop-callback.invariant.1
    c.in-Some.section (walk_from class t (Some (c.loop-callback.index + 1))) found.1 c.if-callback.ensures

pub loop-callback-preserved : goal.loop-callback-preserved
loop-callback-preserved g c =
    let class = g.C.Class.table in
    let t = table_view c.args.table in
    let found = some_is c.in_ok-section.field-0 c.in-Some.section _ _ c.in-Some.is c.in_ok-section.ensures in (
      omega (arith, found.0),
      reaches_next (section_view g.C.Class.number_of) (goal.F-post g c.args.callback) (walk class t) (walk_from class t (Some c.loop-callback.index)) c.loop-callback.invariant.1
          c.in-Some.section (walk_from class t (Some (c.loop-callback.index + 1))) found.1 c.if-callback.ensures,
    )

pub returns : goal.returns
returns g c =
    let class = g.C.Class.table in
    let t = table_view c.args.table in
    none_accepted (section_view g.C.Class.number_of) (goal.F-post g c.args.callback) (walk class t) (walk_from class t (Some c.loop-callback.index)) c.loop-callback.invariant.1 None
    (none_is c.in_ok-section.field-0 _ _ c.in_default.is c.in_ok-section.ensures)
