use Rattle.std.proofs.Common.{Some, None, ap, length, arith}
use Rattle.binfarce_bytes.specs.Walk.{Walk}
use Rattle.binfarce_macho.specs.Macho.{Section, walk}
use Rattle.binfarce_macho.specs.MachoViews.{section_view}
use Rattle.binfarce_macho.specs.machine.RawMacho.{damage_refusal, sections_left}
use Rattle.binfarce_macho.proofs.CommandWalks.{yields_ok, yields_err}
use Rattle.binfarce_bytes.proofs.Searches.{reaches_all, none_accepted, may_be_asked, accepted, reaches_next, refused_with}
use Rattle.binfarce_macho.proofs.sections.first_section.Goals as goal

pub loop-item-init : goal.loop-item-init
loop-item-init g c =
    (c.all_left-left.ensures.within, reaches_all section_view (goal.F-post g c.args.callback) (walk c.args.file.now) (sections_left c.all_left-left.result) c.all_left-left.ensures.all)

pub returns-in_err-section : goal.returns-in_err-section
returns-in_err-section g c =
    let before = sections_left c.loop-item.left in
    let after = sections_left c.next_section.new.left in
    let damage = c.in_err-section.field-0.0 in
    refused_with damage_refusal section_view (goal.F-post g c.args.callback) (walk c.args.file.now) damage c.from_residual.result c.from_residual.ensures.1
    (none_accepted section_view (goal.F-post g c.args.callback) (walk c.args.file.now) before c.loop-item.invariant.1 (Some (damage_refusal damage))
    (yields_err damage_refusal section_view before after c.in-Some.item damage c.in_err-section.was c.in-Some.ensures.steps))

pub callback-requires : goal.callback-requires
callback-requires g c =
    let before = sections_left c.loop-item.left in
    let after = sections_left c.next_section.new.left in
    let is = yields_ok damage_refusal section_view before after c.in-Some.item c.in_ok-section.section c.in_ok-section.was c.in-Some.ensures.steps in
    may_be_asked section_view (goal.F-post g c.args.callback) (walk c.args.file.now) before c.loop-item.invariant.1 c.in_ok-section.section after is _ c.requires.asked

pub returns-then-callback : goal.returns-then-callback
returns-then-callback g c =
    let before = sections_left c.loop-item.left in
    let after = sections_left c.next_section.new.left in
    let is = yields_ok damage_refusal section_view before after c.in-Some.item c.in_ok-section.section c.in_ok-section.was c.in-Some.ensures.steps in
    accepted section_view (goal.F-post g c.args.callback) (walk c.args.file.now) before c.loop-item.invariant.1 c.in_ok-section.section after is c.if-callback.ensures

pub loop-item-preserved : goal.loop-item-preserved
loop-item-preserved g c =
    let before = sections_left c.loop-item.left in
    let after = sections_left c.next_section.new.left in
    let is = yields_ok damage_refusal section_view before after c.in-Some.item c.in_ok-section.section c.in_ok-section.was c.in-Some.ensures.steps in
    (c.in-Some.ensures.within, reaches_next section_view (goal.F-post g c.args.callback) (walk c.args.file.now) before c.loop-item.invariant.1 c.in_ok-section.section after is c.if-callback.ensures)

pub loop-item-smaller : goal.loop-item-smaller
loop-item-smaller g c =
    let before = sections_left c.loop-item.left in
    let after = sections_left c.next_section.new.left in
    let is = yields_ok damage_refusal section_view before after c.in-Some.item c.in_ok-section.section c.in_ok-section.was c.in-Some.ensures.steps in
    omega (arith, ap (λ (w : Walk Section). length w.items) is)

pub returns : goal.returns
returns g c = none_accepted section_view (goal.F-post g c.args.callback) (walk c.args.file.now) (sections_left c.loop-item.left) c.loop-item.invariant.1 None c.in_default.ensures.steps.0
