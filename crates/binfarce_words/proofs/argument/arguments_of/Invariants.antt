use Rattle.std.proofs.Common.{◌≡◌, ◌++◌, suc, drop, map, length}
use Rattle.std.specs.Option.{option_map}
use Rattle.std.specs.String.{string_bytes}
use Rattle.binfarce_words.specs.Words.{arguments_from}
use Rattle.binfarce_words.specs.WordViews.{argument_view}
use Rattle.binfarce_words.proofs.argument.arguments_of.Given as goal

-- the arguments so far, and those of the texts that are left, are all
abbrev pub invariant-loop-text : goal.invariant-loop-text
invariant-loop-text l = record {
  all : map argument_view l.arguments.items ++ arguments_from (suc l.text-index) (map (option_map string_bytes) (drop l.text-index l.texts)) ≡ arguments_from 1 (map (option_map string_bytes) l.texts);
  so_many : length l.arguments.items ≡ l.text-index;
}
