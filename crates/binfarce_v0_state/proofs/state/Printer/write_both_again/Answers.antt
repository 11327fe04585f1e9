use Rattle.std.proofs.Common.{◌≡◌, ◌++◌, [], true, sym, ◌∙◌, rules}
use Rattle.std.specs.String.{string_bytes}
use Rattle.std.specs.Prelude.{slice_range}
use Rattle.std.proofs.lemmas.Bool.{and_parts}
use Rattle.binfarce_v0_state.specs.machine.Counted.{counted, is_whole}
use Rattle.binfarce_v0_state.proofs.KeptLemmas.{both_again, grown_apart}
use Rattle.binfarce_v0_state.proofs.Sound.{true_not_false}
use Rattle.binfarce_v0_state.proofs.state.Printer.write_both_again.Goals as goal

pub invariant_of-self-2 : goal.invariant_of-self-2
invariant_of-self-2 c =
    let before = c.self.inside in
    let full : before.full ≡ true = rw (← c.self.view_is) at c.requires.full in
    let complete : string_bytes c.push_str-written.new.self ≡ (string_bytes before.complete ++ string_bytes before.text) ++ string_bytes c.push_str-copied.new.self = search rules in
    let trimmed : string_bytes c.push_str-written-2.new.self ≡ (string_bytes before.trimmed ++ string_bytes before.text) ++ string_bytes c.push_str-copied-2.new.self = search rules in
    let text : string_bytes c.clear-2.new.self ≡ [] = search rules in
    let same : c.or_forget-5.new.kept.items ≡ before.kept.fragments.items = search rules in
    (c.self.invariant.0, c.self.invariant.1, rw same (grown_apart before.part.now before.full (string_bytes before.complete) (string_bytes before.trimmed) (string_bytes before.text) _ _ _ _ _ before.kept.fragments.items complete trimmed text c.self.invariant.2), λ not_full. true_not_false (sym full ∙ not_full))

pub returns : goal.returns
returns c =
    let before = c.self.inside in
    let f = c.args.fragment in
    let complete = string_bytes before.complete in
    let trimmed = string_bytes before.trimmed in
    let text = string_bytes before.text in
    let new_text = string_bytes c.clear-2.new.self in
    let room = rw (← c.self.view_is) at c.requires.room in
    let whole = and_parts (is_whole before.most (counted before.most (complete ++ text))) (is_whole before.most (counted before.most (trimmed ++ text))) room in
    let more : string_bytes c.push_str-written.new.self ≡ (complete ++ text) ++ string_bytes c.push_str-copied.new.self = search rules in
    let more_too : string_bytes c.push_str-written-2.new.self ≡ (trimmed ++ text) ++ string_bytes c.push_str-copied-2.new.self = search rules in
    let none : new_text ≡ [] = search rules in
    let copied : string_bytes c.push_str-copied.new.self ≡ slice_range (complete ++ text) f.start f.end = search rules in
    let copied_too : string_bytes c.push_str-copied-2.new.self ≡ slice_range (trimmed ++ text) f.trimmed_start f.trimmed_end = search rules in
    let written = both_again before.most complete text (string_bytes c.push_str-written.new.self) new_text (string_bytes c.push_str-copied.new.self) f.start f.end whole.0 more none copied in
    let written_too = both_again before.most trimmed text (string_bytes c.push_str-written-2.new.self) new_text (string_bytes c.push_str-copied-2.new.self) f.trimmed_start f.trimmed_end whole.1 more_too none copied_too in
    search (rules, written, written_too)
