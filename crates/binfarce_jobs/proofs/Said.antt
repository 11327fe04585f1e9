-- What is said of a file where a hint may not be had.
use Rattle.std.proofs.Common.{◌≡◌, inl, inr, ℕ, List, Option, None, Result, Ok, Err, IfOk, refl}
use Rattle.std.specs.Result.{result_unwrap_or}
use Rattle.binfarce_jobs.specs.Hints.{IsOrNone, words_of}
use Rattle.binfarce_io.specs.declared.fault.Fault.{Fault}
use Rattle.binfarce_jobs.specs.declared.hint.Hint.{Hint}

pub said_or_none : (due : List (List ℕ)) (hint : Result (Option Hint) Fault) → IfOk hint (λ h. words_of h ≡ due) → IsOrNone due (words_of (result_unwrap_or hint None))
said_or_none due (Ok h) is = inl is
said_or_none due (Err e) is = inr refl
