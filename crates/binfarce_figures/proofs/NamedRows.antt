-- Rows with the texts of their names, of which long ones are kept once.
use Rattle.std.proofs.Common.{◌≡◌, ◌∙◌, ◌⊎◌, ℕ, zero, suc, ◌<◌, Bool, true, false, cond, List, [], ◌∷◌, ◌++◌, Option, Some, None, String, BTreeMap, inl, inr, ap, arith, get_or, length, map, refl, string_bytes, subst, sym}
use Rattle.std.proofs.lemmas.List.{get_or_append_left, get_or_push, length-append}
use Rattle.std.proofs.lemmas.List.Elements.{All-map}
use Rattle.std.proofs.lemmas.Simd.{map-map}
use Rattle.std.specs.BTreeMap.{get_by_text}
use Rattle.std.specs.Cmp.Lexicographic.{bytes_decides}
use Rattle.std.specs.Global.{Global}
use Rattle.std.specs.List.{All, AllZip}
use Rattle.std.specs.Map.{update}
use Rattle.std.specs.Str.{bytes_eq}
use Rattle.binfarce_figures.specs.Order.{AreNamed, Named}
use Rattle.binfarce_figures.specs.Rows.{IsNameText}
use Rattle.binfarce_bytes.specs.declared.functions.SectionFunction.{SectionFunction}
use Rattle.binfarce_figures.specs.declared.order.Row.{Row}
use Rattle.binfarce_figures.specs.declared.rows.Naming.{Naming}
use Rattle.binfarce_figures.specs.declared.rows.Texts.{Texts}
use Rattle.binfarce_figures.specs.machine.Listings.{AreTexts, HasName, IsShownBy, IsTextAt, Notes, entry_of, name_of}
use Rattle.binfarce_figures.proofs.Ordered.{named_of}

-- what is found after an index was noted
pub noted : (old new : BTreeMap (String Global) ℕ) (name : List ℕ) (index : ℕ) → ((other : List ℕ) → get_by_text new other ≡ update bytes_eq (get_by_text old) name (Some index) other) → Notes old name index new
noted old new name index is stored i found = by_test (bytes_eq name stored) refl
  where
    by_test : (b : Bool) → bytes_eq name stored ≡ b → ((stored ≡ name) × (i ≡ index)) ⊎ (get_by_text old stored ≡ Some i)
    by_test true e = inl (
      sym ((bytes_decides name stored).0 e),
      let same : Some i ≡ Some index = sym found ∙ is stored ∙ ap (λ (b : Bool). cond b (Some index) (get_by_text old stored)) e in cc,
    )
    by_test false e = inr (sym (is stored ∙ ap (λ (b : Bool). cond b (Some index) (get_by_text old stored)) e) ∙ found)

-- a text is where it was when others follow
pub still_at : (naming : Naming) (texts more : List (String Global)) (stored : List ℕ) (index : ℕ) → IsTextAt naming texts stored index → IsTextAt naming (texts ++ more) stored index
still_at naming texts more stored index at = record {
  below = omega (arith, at.below, length-append texts more);
  is = λ d. subst (λ (t : String Global). IsNameText naming stored (string_bytes t)) (sym (get_or_append_left texts more d index at.below)) (at.is d);
}

-- the last text
pub last_at : (naming : Naming) (texts : List (String Global)) (text : String Global) (stored : List ℕ) (index : ℕ) → index ≡ length texts → IsNameText naming stored (string_bytes text) → IsTextAt naming (texts ++ text ∷ []) stored index
last_at naming texts text stored index is has = record {
  below = omega (arith, is, length-append texts (text ∷ []));
  is = λ d. subst (λ (t : String Global). IsNameText naming stored (string_bytes t)) (sym (ap (λ (i : ℕ). get_or (texts ++ text ∷ []) i d) is ∙ get_or_push texts text d (length texts) refl)) has;
}

-- the texts with one more, whose index was noted if it is long
pub texts_more : (naming : Naming) (old new : Texts) (name : List ℕ) (index : ℕ) (text : String Global) → AreTexts naming old → Notes old.long name index new.long → new.texts.items ≡ old.texts.items ++ text ∷ [] → IsTextAt naming new.texts.items name index
    → AreTexts naming new
texts_more naming old new name index text are notes grown at stored i found = by_place (notes stored i found)
  where
    by_place : ((stored ≡ name) × (i ≡ index)) ⊎ (get_by_text old.long stored ≡ Some i) → IsTextAt naming new.texts.items stored i
    by_place (inl (same, is)) = subst (λ (s : List ℕ). IsTextAt naming new.texts.items s i) (sym same) (subst (λ (j : ℕ). IsTextAt naming new.texts.items name j) (sym is) at)
    by_place (inr before) = subst (λ (ts : List (String Global)). IsTextAt naming ts stored i) (sym grown) (still_at naming old.texts.items (text ∷ []) stored i (are stored i before))

-- all texts are where they were
pub all_still_shown : (naming : Naming) (texts more : List (String Global)) (names : List (List ℕ)) (indices : List (Option ℕ)) → AllZip (IsShownBy naming texts) names indices → AllZip (IsShownBy naming (texts ++ more)) names indices
all_still_shown naming texts more [] [] at = tt
all_still_shown naming texts more [] (i ∷ indices) at = absurd at
all_still_shown naming texts more (n ∷ names) [] at = absurd at
all_still_shown naming texts more (n ∷ names) (Some i ∷ indices) at = (still_at naming texts more n i at.0, all_still_shown naming texts more names indices at.1)
all_still_shown naming texts more (n ∷ names) (None ∷ indices) at = (at.0, all_still_shown naming texts more names indices at.1)

-- rows that have their names, as entries with these names
pub are_named : (naming : Naming) (rows : List Row) → All (HasName naming) rows → AreNamed naming (map entry_of rows) (map named_of rows)
are_named naming rows has = (map-map (λ (n : Named). n.0) named_of rows, All-map (λ (n : Named). IsNameText naming n.0.entry.name n.1) named_of rows has)

-- each function symbol has an index
pub index_below : {A B : Type 0} (R : A → B → Type 0) {X : Type 0} (f : X → A) (xs : List X) (ys : List B) (i : ℕ) → AllZip R (map f xs) ys → i < length xs → i < length ys
index_below R f [] ys i are lt = absurd (omega (arith, lt))
index_below R f (x ∷ xs) [] i are lt = absurd are
index_below R f (x ∷ xs) (y ∷ ys) zero are lt = omega arith
index_below R f (x ∷ xs) (y ∷ ys) (suc i) are lt = let next = index_below R f xs ys i are.1 (omega (arith, lt)) in omega (arith, next)

-- what is shown of a function symbol's name, by its index
pub shown_at : (naming : Naming) (texts : List (String Global)) (functions : List SectionFunction) (indices : List (Option ℕ)) (i : ℕ) (d : SectionFunction) (e : Option ℕ) → AllZip (IsShownBy naming texts) (map name_of functions) indices → i < length functions
    → IsShownBy naming texts (name_of (get_or functions i d)) (get_or indices i e)
shown_at naming texts [] indices i d e at lt = absurd (omega (arith, lt))
shown_at naming texts (f ∷ functions) [] i d e at lt = absurd at
shown_at naming texts (f ∷ functions) (index ∷ indices) zero d e at lt = at.0
shown_at naming texts (f ∷ functions) (index ∷ indices) (suc i) d e at lt = shown_at naming texts functions indices i d e at.1 (omega (arith, lt))
