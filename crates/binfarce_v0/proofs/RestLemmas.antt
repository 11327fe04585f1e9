-- A text is one v0 mangling.
use Rattle.std.proofs.Common.{◌≡◌, ℕ, List, Option, Some, true, false, drop, sym, ◌∙◌, subst}
use Rattle.binfarce_text.specs.Suffixes.{is_allowed_rest}
use Rattle.binfarce_v0.specs.Mangling.{IsMangling, ReadsPaths}
use Rattle.binfarce_v0.specs.Mangling.{IsV0}
use Rattle.binfarce_v0.proofs.Manglings.{read_paths_at}
use Rattle.binfarce_text.proofs.TextLemmas.{some_same}

same_end : (a b : ℕ) → ◌≡◌ {A = Option ℕ} (Some a) (Some b) → a ≡ b
same_end a b e = cc

-- a text is one v0 mangling
pub one_part : (text p q : List ℕ) (a b : ℕ) → IsMangling text p a → IsMangling text q b → p ≡ q
one_part text p q a b m n = some_same p q (sym m.prefix ∙ n.prefix)

one_end : (text p q : List ℕ) (a b : ℕ) → IsMangling text p a → IsMangling text q b → a ≡ b
one_end text p q a b m n =
    let paths = subst (λ x. ReadsPaths x b) (sym (one_part text p q a b m n)) n.paths in
    same_end a b (sym (read_paths_at p a m.paths) ∙ read_paths_at p b paths)

-- a mangling with another rest is no v0 name
pub rest_not_allowed : (text p : List ℕ) (a : ℕ) → IsMangling text p a → is_allowed_rest (drop a p) ≡ false → (part : List ℕ) → IsV0 text part → ⊥
rest_not_allowed text p a m e part v =
    let same = one_part text p part a v.after m v.mangling in
    let end = one_end text p part a v.after m v.mangling in
    let allowed : is_allowed_rest (drop a p) ≡ true = rw (end, same) v.rest in
    let both : true ≡ false = sym allowed ∙ e in cc
