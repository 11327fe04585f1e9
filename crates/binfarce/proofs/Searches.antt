-- A search that ends without a section that is accepted.
use Rattle.std.proofs.Common.{◌≡◌, Bool, Option, Some, Result, Ok, Err, subst}
use Rattle.std.specs.Result.{IsErrAnd}
use Rattle.binfarce_bytes.specs.Refusal.{refusal_of, unexpected_eof}
use Rattle.binfarce_bytes.specs.Walk.{Walk, NoneAccepted, FirstAccepted}
use Rattle.binfarce_bytes.specs.declared.error.ParseError.{ParseError}
use Rattle.binfarce_bytes.specs.declared.error.ParseError.TheVariants as errors

-- its refusal, as `?` passes it on
pub refused : {T S : Type 0} (seen : T → S) (post : T → Bool → Type 0) (sections same : Walk S) (r : Result (Option T) ParseError)
    → sections ≡ same → IsErrAnd r (λ e. e ≡ errors.UnexpectedEof) → NoneAccepted seen post sections (Some unexpected_eof) → FirstAccepted refusal_of seen post same r
refused seen post sections same (Ok found) e is none = absurd is
refused {T} {S} seen post sections same (Err x) e is none = rw is (subst (λ (w : Walk S). NoneAccepted seen post w (Some unexpected_eof)) e none)
