use Rattle.std.proofs.Common.{◌≡◌, take}
use Rattle.binfarce_addresses.specs.Counts.{answers_to, AddsUp}
use Rattle.binfarce_addresses.proofs.AddressLines.{AreBehind}
use Rattle.binfarce_addresses.proofs.names.Names.push_answers.Given as goal

-- the lines of the addresses so far; the entries are the same
abbrev pub invariant-loop-answer : goal.invariant-loop-answer
invariant-loop-answer l = record {
  lines : AreBehind l.fn.self.0 l.fn.self.1 (take l.answer-index l.addresses.items) l.fn.text.items l.text.items;
  counts : AddsUp l.fn.counts l.counts (answers_to l.fn.self.0 l.fn.self.1 (take l.answer-index l.addresses.items));
  same : l.self ≡ l.fn.self;
}
