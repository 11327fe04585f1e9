-- The lines of names, name after name.
use Rattle.std.proofs.Common.{◌≡◌, ◌∙◌, ℕ, suc, ◌+◌, ◌<◌, List, [], ◌∷◌, ◌++◌, map, length, drop, get_or, sym, ap, add-one, append_assoc, drop-cons, Bor}
use Rattle.binfarce_calls.specs.Filter.{lines_of}

-- with the lines of the names that are left, the text is the lines of all
abbrev pub HasLines : List (Bor (List ℕ)) → ℕ → List ℕ → Type 0
HasLines names i text = text ++ lines_of (map (λ name. name.now) (drop i names)) ≡ lines_of (map (λ name. name.now) names)

pub one_line : (names : List (Bor (List ℕ))) (i : ℕ) (name : Bor (List ℕ)) (text more new : List ℕ) → i < length names → name ≡ get_or names i name
    → more ≡ text ++ name.now → new ≡ more ++ 10 ∷ [] → HasLines names i text → HasLines names (i + 1) new
one_line names i name text more new lt here first second lines =
    let line = name.now ++ 10 ∷ [] in
    let left = lines_of (map (λ (n : Bor (List ℕ)). n.now) (drop (i + 1) names)) in
    let whole : new ≡ text ++ line = second ∙ ap (λ (x : List ℕ). x ++ 10 ∷ []) first ∙ append_assoc text name.now (10 ∷ []) in
    let next : lines_of (map (λ (n : Bor (List ℕ)). n.now) (drop i names)) ≡ line ++ left =
    rw (add-one, drop-cons names i name) (ap (λ (n : Bor (List ℕ)). (n.now ++ 10 ∷ []) ++ lines_of (map (λ (n : Bor (List ℕ)). n.now) (drop (suc i) names))) (sym here)) in
    ap (λ (x : List ℕ). x ++ left) whole ∙ append_assoc text line left ∙ ap (λ (x : List ℕ). text ++ x) (sym next) ∙ lines
