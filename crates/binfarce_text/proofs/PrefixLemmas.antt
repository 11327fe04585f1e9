-- What is left of a text without a prefix.
use Rattle.std.proofs.Common.{◌≡◌, ℕ, List, length, drop, nat_eq, Option, Some, None, MatchOption, Bor, Bool, true, false, if◌then◌else◌, ap, ◌∙◌, sym, subst}
use Rattle.std.specs.Option.{option_copied}
use Rattle.std.specs.List.{starts_with}
use Rattle.std.specs.Str.Pattern.{FindsTextPrefix, StripsPrefix}
use Rattle.std.proofs.lemmas.Str.Pattern.{starts_text}
use Rattle.std.specs.Str.{IsCharBoundary}

abbrev rest_or_none : List ℕ → List ℕ → Bool → Option (List ℕ)
rest_or_none t p b = if b then Some (drop (length p) t) else None

-- the rest where the text begins with p, as `strip_prefix` finds it
pub stripped : (t p : List ℕ) (found : Option (Bor (List ℕ)))
    → MatchOption found (FindsTextPrefix p t None) (λ x. StripsPrefix (FindsTextPrefix p) t x.now)
    → option_copied found ≡ if starts_with nat_eq t p then Some (drop (length p) t) else None
stripped t p None h = ap (rest_or_none t p) (starts_text false p t h)
stripped t p (Some x) (n, (k, is, at), rest, len) =
    ap Some (rest ∙ ap (λ i. drop i t) k) ∙ ap (rest_or_none t p) (starts_text true p t (n, (k, is, at), subst (λ i. IsCharBoundary t i) (sym k) at))
