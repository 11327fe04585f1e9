use Rattle.std.proofs.Common.{◌≡◌, ◌++◌, false, rules}
use Rattle.std.specs.Prelude.{slice_range}
use Rattle.std.specs.String.{string_bytes}
use Rattle.binfarce_v0_state.specs.machine.Counted.{counted, is_whole}
use Rattle.std.proofs.lemmas.Bool.{and_parts}
use Rattle.binfarce_v0_state.proofs.KeptLemmas.{grown_both, written_again}
use Rattle.binfarce_v0_state.proofs.state.Printer.write_again.Goals as goal

pub invariant_of-self-2 : goal.invariant_of-self-2
invariant_of-self-2 c =
    let before = c.self.inside in
    let more : string_bytes c.push_str-2.new.self ≡ string_bytes before.text ++ string_bytes c.push_str.new.self = search rules in
    (c.self.invariant.0, c.self.invariant.1, grown_both before.part.now before.full (string_bytes before.complete) (string_bytes before.trimmed) (string_bytes before.text) _ _ before.kept.fragments.items more c.self.invariant.2, c.self.invariant.3)

pub returns : goal.returns
returns c =
    let before = c.self.inside in
    let f = c.args.fragment in
    let complete = string_bytes before.complete in
    let trimmed = string_bytes before.trimmed in
    let text = string_bytes before.text in
    let new = string_bytes c.push_str-2.new.self in
    let copy = string_bytes c.push_str.new.self in
    let not_full : before.full ≡ false = search rules in
    let none = c.self.invariant.3 not_full in
    let room = rw (← c.self.view_is) at c.requires in
    let whole = and_parts (is_whole before.most (counted before.most (complete ++ text))) (is_whole before.most (counted before.most (trimmed ++ text))) room in
    let more : new ≡ text ++ copy = search rules in
    let copied : copy ≡ slice_range text f.start f.end = search rules in
    let copied_too : copy ≡ slice_range text f.trimmed_start f.trimmed_end = search rules in
    let written = written_again before.most complete text new copy f.start f.end whole.0 none.0 more copied in
    let written_too = written_again before.most trimmed text new copy f.trimmed_start f.trimmed_end whole.1 none.1 more copied_too in
    search (rules, written, written_too)
