use Rattle.std.proofs.Common.{◌≡◌, ◌∙◌, ℕ, List, get_or, sym, subst, arith}
use Rattle.std.proofs.lemmas.List.{take_all}
use Rattle.binfarce.specs.Symbol.{Entry}
use Rattle.binfarce_addresses.specs.Counts.{AreCountsOf, answers_at, is_held}
use Rattle.binfarce_addresses.specs.Lines.{AreLinesOf, IsLineAt}
use Rattle.binfarce_addresses.specs.declared.lookup.Lookup.{Lookup}
use Rattle.binfarce_addresses.proofs.AddressLines.{err_outcome, err_takes, one_counted, one_line}
use Rattle.binfarce_addresses.proofs.at.write_lines.Goals as goal

pub loop-address-preserved : goal.loop-address-preserved
loop-address-preserved g c =
    let entries = c.args.places.now in
    let lookup = c.args.lookup in
    let addresses = c.args.addresses.now in
    let k = c.loop-address.address-index in
    let named = c.loop-address.invariant.named in
    let line = c.in_ok-held.ensures.line in
    let held = c.in_ok-held.held in
    record {
      named = c.in_ok-held.ensures.same ∙ named;
      lines = one_line entries lookup addresses k line.0 c.loop-address.text.items c.push_address_line.new.text.items c.loop-address-test.true c.loop-address.invariant.lines
          (subst (λ (s : List Entry × Lookup). IsLineAt s.0 s.1 (get_or addresses k 0) line.0) named line.1) line.2;
      counts = one_counted entries lookup addresses k held c.loop-address.counts c.add.new.self c.loop-address-test.true c.loop-address.invariant.counts
          (subst (λ (s : List Entry × Lookup). held ≡ is_held s.0 s.1 (get_or addresses k 0)) named c.in_ok-held.ensures.held) c.add.ensures;
    }

pub returns-in_err-write_whole-clause-outcome : goal.returns-in_err-write_whole-clause-outcome
returns-in_err-write_whole-clause-outcome g c = λ listed made.
    err_outcome (λ _. ⊥) listed c.as_slice.result.now _ _ c.in_err-write_whole.field-0.0 c.from_residual-in_err-write_whole.result c.in_err-write_whole.ensures.takes c.from_residual-in_err-write_whole.ensures.1

pub returns-in_err-write_whole-clause-takes : goal.returns-in_err-write_whole-clause-takes
returns-in_err-write_whole-clause-takes g c = λ listed made.
    let addresses = c.args.addresses.now in
    let written = subst (λ (xs : List ℕ). AreLinesOf c.args.places.now c.args.lookup xs c.loop-address.text.items) (take_all c.loop-address.address-index addresses (omega arith)) c.loop-address.invariant.lines in
    let text = subst (AreLinesOf c.args.places.now c.args.lookup addresses) (sym c.as_slice.ensures.value) written in
    err_takes c.args.lookup addresses listed c.as_slice.result.now _ _ c.in_err-write_whole.field-0.0 c.from_residual-in_err-write_whole.result
    (subst (λ (entries : List Entry). AreLinesOf entries c.args.lookup addresses c.as_slice.result.now) made text) c.in_err-write_whole.ensures.takes c.from_residual-in_err-write_whole.ensures.1

pub returns-clause-takes : goal.returns-clause-takes
returns-clause-takes g c = λ listed made.
    let addresses = c.args.addresses.now in
    let written = subst (λ (xs : List ℕ). AreLinesOf c.args.places.now c.args.lookup xs c.loop-address.text.items) (take_all c.loop-address.address-index addresses (omega arith)) c.loop-address.invariant.lines in
    let text = subst (AreLinesOf c.args.places.now c.args.lookup addresses) (sym c.as_slice.ensures.value) written in
    (c.as_slice.result.now, subst (λ (entries : List Entry). AreLinesOf entries c.args.lookup addresses c.as_slice.result.now) made text, c.in_ok-write_whole.ensures.takes)

pub returns-clause-counts : goal.returns-clause-counts
returns-clause-counts g c =
    let addresses = c.args.addresses.now in
    subst (λ (xs : List ℕ). AreCountsOf (answers_at c.args.places.now c.args.lookup xs) c.loop-address.counts) (take_all c.loop-address.address-index addresses (omega arith)) c.loop-address.invariant.counts
