use Rattle.std.proofs.Common.{ℕ, Option, ◌++◌, if◌then◌else◌, ap, sym, subst, refl, ◌∙◌}
use Rattle.std.specs.String.{string_bytes}
use Rattle.binfarce_text.specs.Suffixes.{without_llvm}
use Rattle.binfarce_v0.specs.Mangling.{HasRest}
use Rattle.binfarce_v0.specs.machine.Outcome.{IsCandidate, IsOutcomeOf}
use Rattle.binfarce_v0_state.specs.machine.Counted.{is_whole}
use Rattle.binfarce_v0_state.specs.machine.Outcome.{outcome_of}
use Rattle.binfarce_v0_state.specs.machine.Printing.{Printing}
use Rattle.binfarce_names.proofs.Trimmed.{IsOther, tree_grows, unchanged_grows}
use Rattle.binfarce_names.proofs.demangle.Demangler.push_candidate.Goals as goal

pub returns-in_default-clause-grown : goal.returns-in_default-clause-grown
returns-in_default-clause-grown c =
    let other : IsOther c.args.name.now (without_llvm c.args.name.now) = record { stripped = refl; not_legacy = c.requires.not_legacy } in
    let old = string_bytes c.args.text.now in
    let new = string_bytes c.push_str.new.self in
    let begun = subst (λ x. IsCandidate (without_llvm c.args.name.now) x) (sym (ap (λ (p : Printing). p.part) c.new-printer.ensures)) c.requires.candidate in
    let none = rw c.in_default.is at (c.in_ok-rest.ensures (without_llvm c.args.name.now) begun) in
    unchanged_grows c.args.full c.args.most c.args.name.now (without_llvm c.args.name.now) old new other none c.in_ok-push_str.ensures.bytes

pub returns-clause-grown : goal.returns-clause-grown
returns-clause-grown c =
    let name = c.args.name.now in
    let stripped = without_llvm name in
    let other : IsOther name stripped = record { stripped = refl; not_legacy = c.requires.not_legacy } in
    let old = string_bytes c.args.text.now in
    let new = string_bytes c.push_text-pushed.new.out in
    let printed : Printing = c.print_mangling.new.printer in
    let text = printed.state.text in
    let begun = subst (λ x. IsCandidate stripped x) (sym (ap (λ (p : Printing). p.part) c.new-printer.ensures)) c.requires.candidate in
    let rest = c.in-Some.rest.now in
    let found = rw c.in-Some.is at (c.in_ok-rest.ensures stripped begun) in
    let is = subst (λ (p : Printing). HasRest stripped p.part rest × IsOutcomeOf p printed) c.new-printer.ensures found in
    tree_grows c.args.full c.args.most name stripped c.args.part.now rest (outcome_of printed.state) old new other is.0 is.1.2
    (c.in_ok-pushed.ensures.grown ∙ ap (λ (m : Option ℕ). old ++ (if is_whole m text then text else name)) is.1.3)
