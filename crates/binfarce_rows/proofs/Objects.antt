-- Texts that are appended part by part.
use Rattle.std.proofs.Common.{◌≡◌, ℕ, List, [], ◌∷◌, ◌++◌, append_assoc, append-nil, sym, ap, ◌∙◌}
use Rattle.std.specs.List.{concat}

concat-push : (parts : List (List ℕ)) (part : List ℕ) → concat (parts ++ part ∷ []) ≡ concat parts ++ part
concat-push [] part = append-nil part
concat-push (first ∷ parts) part = ap (λ (t : List ℕ). first ++ t) (concat-push parts part) ∙ sym (append_assoc first (concat parts) part)

-- the first part
pub one : (old new part : List ℕ) → new ≡ old ++ part → new ≡ old ++ concat (part ∷ [])
one old new part is = is ∙ ap (λ (t : List ℕ). old ++ t) (sym (append-nil part))

-- one part more
pub more : (old mid new : List ℕ) (parts : List (List ℕ)) (part : List ℕ) → mid ≡ old ++ concat parts → new ≡ mid ++ part → new ≡ old ++ concat (parts ++ part ∷ [])
more old mid new parts part first next =
    next ∙ ap (λ (t : List ℕ). t ++ part) first ∙ append_assoc old (concat parts) part ∙ ap (λ (t : List ℕ). old ++ t) (sym (concat-push parts part))
