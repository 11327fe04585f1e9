use Rattle.std.proofs.Common.{◌≡◌, drop}
use Rattle.std.specs.List.{filter, slice_get}
use Rattle.std.specs.Str.{bytes_eq}
use Rattle.binfarce_words.specs.Words.{flag_name}
use Rattle.binfarce_words.proofs.given.nth_given.Given as goal

-- so many of this name come before it among those that are left
abbrev pub invariant-loop-option : goal.invariant-loop-option
invariant-loop-option l = slice_get (filter (λ it. bytes_eq (flag_name it.0) l.name) (drop l.option-index l.options)) l.left ≡ slice_get (filter (λ it. bytes_eq (flag_name it.0) l.name) l.options) l.fn.place
