use Rattle.std.proofs.Common.{◌≡◌, ◌-◌, ◌+◌, ◌*◌, ◌/◌, ℕ, length, true, false, Option, Some, None, refl, ap, sym, ◌∙◌, arith}
use Rattle.std.specs.Option.{is_some, option_map}
use Rattle.binfarce_identity.specs.declared.pe.Place as code
use Rattle.binfarce_identity.specs.PeIdentity.{data_from, data_in}
use Rattle.binfarce_identity.specs.machine.Views.{place_view}
use Rattle.binfarce_identity.proofs.PeSteps.{no_entry, this_entry, later_entry}
use Rattle.binfarce_identity.proofs.pe.codeview_data.Goals as goal

viewed : (o : Option code.Place) → is_some (option_map place_view o) ≡ is_some o
viewed (Some x) = refl
viewed None = refl

pub returns-then-is_some : goal.returns-then-is_some
returns-then-is_some c =
    let entries = c.args.entries.now in
    let found : is_some (data_in entries (c.loop-index.index * 28)) ≡ true = ap is_some (sym c.data_in-found.ensures) ∙ viewed c.data_in-found.result ∙ sym c.is_some.ensures ∙ c.if-is_some.true in
    c.data_in-found.ensures ∙ sym (this_entry entries (length entries / 28 - c.loop-index.index) c.loop-index.index (omega (arith, c.loop-index-test.true)) found) ∙ c.loop-index.invariant

pub loop-index-preserved : goal.loop-index-preserved
loop-index-preserved c =
    let entries = c.args.entries.now in
    let none : is_some (data_in entries (c.loop-index.index * 28)) ≡ false = ap is_some (sym c.data_in-found.ensures) ∙ viewed c.data_in-found.result ∙ sym c.is_some.ensures ∙ c.if-is_some.false in
    let left : length entries / 28 - (c.loop-index.index + 1) ≡ (length entries / 28 - c.loop-index.index) - 1 = omega arith in
    ap (λ (n : ℕ). data_from entries n (c.loop-index.index + 1)) left
    ∙ sym (later_entry entries (length entries / 28 - c.loop-index.index) c.loop-index.index (omega (arith, c.loop-index-test.true)) none) ∙ c.loop-index.invariant

pub returns : goal.returns
returns c =
    let entries = c.args.entries.now in
    sym (no_entry entries (length entries / 28 - c.loop-index.index) c.loop-index.index (omega (arith, c.loop-index-test.false))) ∙ c.loop-index.invariant
