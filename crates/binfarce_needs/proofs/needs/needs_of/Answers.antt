use Rattle.std.proofs.Common.{◌≡◌, List, ℕ, refl, ◌∙◌}
use Rattle.binfarce_elf.specs.Classes.{class_of}
use Rattle.binfarce_needs.specs.FileNeeds.{tables_view}
use Rattle.binfarce_needs.specs.NeededVersions.{needed_versions}
use Rattle.binfarce_needs.specs.Needs.{needs_of}
use Rattle.binfarce_needs.proofs.needs.needs_of.Goals as goal

pub returns : goal.returns
returns c =
    let t = tables_view c.args.tables.now in
    let order = c.args.byte_order in
    let class = class_of c.args.width in
    let needed = needed_versions order c.deref.result.now in
    let is : (strings rows versions : List ℕ) → strings ≡ t.strings → rows ≡ t.rows → versions ≡ t.versions → needs_of class order (record { rows = rows; strings = strings; versions = versions; needed = c.deref.result.now }) ≡ needs_of class order t =
    λ strings rows versions a b d. rw (a, b, d, c.deref.ensures.value) refl in
    c.in_ok-needs.ensures needed c.in_ok-offsets.ensures ∙ is c.deref-2.result.now c.deref-3.result.now c.deref-4.result.now c.deref-2.ensures.value c.deref-3.ensures.value c.deref-4.ensures.value
