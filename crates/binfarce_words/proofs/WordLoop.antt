-- What arguments give, argument after argument.
use Rattle.std.proofs.Common.{◌≡◌, inl, inr, ◌∙◌, ℕ, ◌+◌, ◌<◌, ◌≤◌, List, map, length, drop, get_or, Ok, Err, refl, ap, add-one, drop-cons}
use Rattle.std.proofs.Math.ListN.{drop_of_length-le}
use Rattle.binfarce_words.specs.declared.argument.Argument.{Argument}
use Rattle.binfarce_words.specs.declared.command.Command.{Command}
use Rattle.binfarce_words.specs.declared.wrong.Wrong as code
use Rattle.binfarce_words.specs.WordViews.{IsWrong, argument_view, wrong_view}
use Rattle.binfarce_words.specs.Words as words
use Rattle.binfarce_words.specs.Words.{Reading, Wrong, after_argument, finished, given_after, given_of, go_on}

-- the views of the arguments that are left
abbrev pub left : List Argument → ℕ → List words.Argument
left arguments i = map argument_view (drop i arguments)

-- the arguments so far gave this reading
abbrev pub HasRead : Command → List Argument → ℕ → Reading → Type 0
HasRead command arguments i reading = given_of command (map argument_view arguments) ≡ given_after command reading (left arguments i)

-- no argument is left
pub all_read : (command : Command) (arguments : List Argument) (i : ℕ) (reading : Reading) → length arguments ≤ i → HasRead command arguments i reading
    → given_of command (map argument_view arguments) ≡ finished reading.given reading.waiting
unfolding given_after
all_read command arguments i reading le read = read ∙ ap (λ (xs : List Argument). given_after command reading (map argument_view xs)) (drop_of_length-le arguments le)

module _ (command : Command) (arguments : List Argument) (i : ℕ) (d : Argument) (reading : Reading) (lt : i < length arguments) (read : HasRead command arguments i reading) where
  -- the argument at this place
  abbrev pub here : words.Argument
  here = argument_view (get_or arguments i d)

  at_argument : given_of command (map argument_view arguments) ≡ go_on (λ next. given_after command next (left arguments (i + 1))) (after_argument command reading here)
  unfolding given_after
  at_argument = read ∙ rw (add-one, drop-cons arguments i d) refl

  -- an argument is taken
  pub goes_on : (next : Reading) → after_argument command reading here ≡ Ok next → HasRead command arguments (i + 1) next
  goes_on next is = at_argument ∙ ap (go_on (λ next. given_after command next (left arguments (i + 1)))) is

  -- an argument is wrong
  pub stops : (wrong : Wrong) → after_argument command reading here ≡ Err wrong → given_of command (map argument_view arguments) ≡ Err wrong
  stops wrong is = at_argument ∙ ap (go_on (λ next. given_after command next (left arguments (i + 1)))) is

  -- the same, of why it is wrong
  pub ends : (e : code.Wrong) → IsWrong (after_argument command reading here) e → IsWrong (given_of command (map argument_view arguments)) e
  ends e (inl is) = inl is
  ends e (inr (is, nearest)) = inr (stops (wrong_view e) is, nearest)
