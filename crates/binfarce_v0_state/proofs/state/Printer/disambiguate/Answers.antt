use Rattle.std.proofs.Common.{◌≡◌, ◌++◌, [], true, sym, ◌∙◌, append-nil, rules}
use Rattle.std.specs.String.{string_bytes}
use Rattle.binfarce_v0_state.specs.LeafTexts.{disambiguator_text}
use Rattle.binfarce_v0_state.proofs.Counting.{counted_apart, counted_moved}
use Rattle.binfarce_v0_state.proofs.KeptLemmas.{grown_apart}
use Rattle.binfarce_v0_state.proofs.Sound.{true_not_false}
use Rattle.binfarce_v0_state.proofs.state.Printer.disambiguate.Goals as goal

pub invariant_of-self-in-Continue-branch-2 : goal.invariant_of-self-in-Continue-branch-2
invariant_of-self-in-Continue-branch-2 c =
    let before = c.self.inside in
    let full : before.full ≡ true = rw (← c.self.view_is) at c.requires in
    let complete : string_bytes c.push-written.new.out ≡ (string_bytes before.complete ++ string_bytes before.text) ++ disambiguator_text true c.args.disambiguator = search rules in
    let trimmed : string_bytes c.share-shared.new.trimmed ≡ string_bytes before.trimmed ++ string_bytes before.text = search rules in
    let text : string_bytes c.share-shared.new.text ≡ [] = search rules in
    let same : c.or_forget-then-not-self.new.kept.items ≡ before.kept.fragments.items = search rules in
    (c.self.invariant.0, c.self.invariant.1, rw same (grown_apart before.part.now before.full (string_bytes before.complete) (string_bytes before.trimmed) (string_bytes before.text) _ _ _ _ [] before.kept.fragments.items complete (trimmed ∙ sym (append-nil _)) text c.self.invariant.2), λ not_full. true_not_false (sym full ∙ not_full))

pub returns-in_ok-or_forget-2 : goal.returns-in_ok-or_forget-2
returns-in_ok-or_forget-2 c =
    let before = c.self.inside in
    let full : before.full ≡ true = rw (← c.self.view_is) at c.requires in
    let complete : string_bytes c.push-written.new.out ≡ (string_bytes before.complete ++ string_bytes before.text) ++ disambiguator_text true c.args.disambiguator = search rules in
    let trimmed : string_bytes c.share-shared.new.trimmed ≡ string_bytes before.trimmed ++ string_bytes before.text = search rules in
    let text : string_bytes c.share-shared.new.text ≡ [] = search rules in
    let written = counted_apart before.most (string_bytes before.complete) (string_bytes before.text) (string_bytes c.push-written.new.out) (string_bytes c.share-shared.new.text) (disambiguator_text true c.args.disambiguator) complete text in
    let stays = counted_moved before.most (string_bytes before.trimmed) (string_bytes before.text) (string_bytes c.share-shared.new.trimmed) (string_bytes c.share-shared.new.text) trimmed text in
    search (rules, written, stays, full)
