-- What the printer's state is when a tree was shown onto it.
use Rattle.std.proofs.Common.{◌≡◌, ℕ, suc, ◌+◌, ◌-◌, ◌≤◌, Bool, true, false, List, [], ◌++◌, Option, Some, None, max, min, refl, ap, sym, ◌∙◌, arith}
use Rattle.std.specs.Prelude.{codes}
use Rattle.binfarce_v0_grammar.specs.Identifiers.{UndisambiguatedIdentifier}
use Rattle.std.specs.Option.{option_or}
use Rattle.binfarce_v0_state.specs.LeafTexts.{disambiguator_text}
use Rattle.binfarce_v0_state.specs.machine.Counted.{grown}
use Rattle.binfarce_v0_state.proofs.Counting.{grown_none, grown_twice}
use Rattle.binfarce_v0_state.specs.machine.Printing.{State, heard, write, disambiguate, seek, after_invalid_syntax, take, entered, rooted, kept_root, into, back_to, set_muted}

-- a tree of a text (with the disambiguators of crates or without), a root, a height and steps was shown with some levels left, and the position after it is `after`
abbrev pub shown : (Bool → List ℕ) → Option UndisambiguatedIdentifier → ℕ → ℕ → Option ℕ → ℕ → State → State
shown text root height steps after levels_left s =
    record s { at = after; steps_left = s.steps_left - steps; least_levels_left = min s.least_levels_left (levels_left - height); text = grown s.most s.text (heard s.muted (text s.full)); trimmed = grown s.most s.trimmed (heard s.muted (text false)); root = kept_root s.in_back_reference s.root root }

made : (s : State) {at at' : Option ℕ} {steps_left room' least_levels_left least' : ℕ} {text text' trimmed trimmed' : List ℕ} {root root' : Option UndisambiguatedIdentifier} → at ≡ at' → steps_left ≡ room' → least_levels_left ≡ least' → text ≡ text' → trimmed ≡ trimmed' → root ≡ root' → (record s { at = at; steps_left = steps_left; least_levels_left = least_levels_left; text = text; trimmed = trimmed; root = root }) ≡ (record s { at = at'; steps_left = room'; least_levels_left = least'; text = text'; trimmed = trimmed'; root = root' })
made s a b c d t e = λ i. record { at = a i; steps_left = b i; least_levels_left = c i; limit_exceeded = s.limit_exceeded; text = d i; trimmed = t i; muted = s.muted; full = s.full; in_back_reference = s.in_back_reference; root = e i; most = s.most }

heard0 : (most : Option ℕ) (m : Bool) (t : List ℕ) → t ≡ grown most t (heard m [])
heard0 most true t = sym (grown_none most t)
heard0 most false t = sym (grown_none most t)

heard2 : (n : Option ℕ) (m : Bool) (t a b : List ℕ) → grown n (grown n t (heard m a)) (heard m b) ≡ grown n t (heard m (a ++ b))
heard2 n true t a b = grown_none n (grown n t [])
heard2 n false t a b = grown_twice n t a b

heard3 : (n : Option ℕ) (m : Bool) (t a b c : List ℕ) → grown n (grown n (grown n t (heard m a)) (heard m b)) (heard m c) ≡ grown n t (heard m (a ++ (b ++ c)))
heard3 n m t a b c = heard2 n m (grown n t (heard m a)) b c ∙ heard2 n m t a (b ++ c)

heard4 : (n : Option ℕ) (m : Bool) (t a b c d : List ℕ) → grown n (grown n (grown n (grown n t (heard m a)) (heard m b)) (heard m c)) (heard m d) ≡ grown n t (heard m (a ++ (b ++ (c ++ d))))
heard4 n m t a b c d = heard3 n m (grown n t (heard m a)) b c d ∙ heard2 n m t a (b ++ (c ++ d))

heard5 : (n : Option ℕ) (m : Bool) (t a b c d e : List ℕ) → grown n (grown n (grown n (grown n (grown n t (heard m a)) (heard m b)) (heard m c)) (heard m d)) (heard m e) ≡ grown n t (heard m (a ++ (b ++ (c ++ (d ++ e)))))
heard5 n m t a b c d e = heard4 n m (grown n t (heard m a)) b c d e ∙ heard2 n m t a (b ++ (c ++ (d ++ e)))

heard6 : (n : Option ℕ) (m : Bool) (t a b c d e f : List ℕ) → grown n (grown n (grown n (grown n (grown n (grown n t (heard m a)) (heard m b)) (heard m c)) (heard m d)) (heard m e)) (heard m f) ≡ grown n t (heard m (a ++ (b ++ (c ++ (d ++ (e ++ f))))))
heard6 n m t a b c d e f = heard5 n m (grown n t (heard m a)) b c d e f ∙ heard2 n m t a (b ++ (c ++ (d ++ (e ++ f))))

root0 : (o : Bool) (r : Option UndisambiguatedIdentifier) → r ≡ kept_root o r None
root0 true r = refl
root0 false None = refl
root0 false (Some i) = refl

root2 : (o : Bool) (r x y : Option UndisambiguatedIdentifier) → kept_root o (kept_root o r x) y ≡ kept_root o r (option_or x y)
root2 true r x y = refl
root2 false None x y = refl
root2 false (Some i) x y = refl

root3 : (o : Bool) (r x y z : Option UndisambiguatedIdentifier) → kept_root o (kept_root o (kept_root o r x) y) z ≡ kept_root o r (option_or (option_or x y) z)
root3 o r x y z = ap (λ w. kept_root o w z) (root2 o r x y) ∙ root2 o r (option_or x y) z

least1 : (a l h : ℕ) → min (min a (l - 1)) (l - 1 - h) ≡ min a (l - suc h)
least1 a l h = omega arith

least2 : (a l h k : ℕ) → min (min (min a (l - 1)) (l - 1 - h)) (l - 1 - k) ≡ min a (l - suc (max h k))
least2 a l h k = omega arith

least_next : (a l h k : ℕ) → min (min a (l - suc h)) (l - 1 - k) ≡ min a (l - suc (max h k))
least_next a l h k = omega arith

max_three : (h k j : ℕ) → max (max h k) j ≡ max h (max k j)
max_three h k j = omega arith

least3 : (a l h k j : ℕ) → min (min (min (min a (l - 1)) (l - 1 - h)) (l - 1 - k)) (l - 1 - j) ≡ min a (l - suc (max h (max k j)))
least3 a l h k j =
    ap (λ x. min x (l - 1 - j)) (least2 a l h k) ∙ least_next a l (max h k) j ∙ ap (λ x. min a (l - suc x)) (max_three h k j)

-- without a level
least_both : (a l h k : ℕ) → min (min a (l - h)) (l - k) ≡ min a (l - max h k)
least_both a l h k = omega arith

least_none : (a l : ℕ) → a ≤ l → a ≡ min a (l - 0)
least_none a l h = omega arith

-- Leaves

pub shown_leaf : (s : State) (l : ℕ) (at : Option ℕ) (a : List ℕ) → write a (seek at (entered (l - 1) s)) ≡ shown (λ full. a) None 1 1 at l s
shown_leaf s l at a = made s refl refl refl refl refl (root0 s.in_back_reference s.root)

pub shown_three : (s : State) (l : ℕ) (at : Option ℕ) (a b c : List ℕ) → write c (write b (write a (seek at (entered (l - 1) s)))) ≡ shown (λ full. a ++ (b ++ c)) None 1 1 at l s
shown_three s l at a b c = made s refl refl refl (heard3 s.most s.muted s.text a b c) (heard3 s.most s.muted s.trimmed a b c) (root0 s.in_back_reference s.root)

pub shown_crate : (s : State) (l : ℕ) (at : Option ℕ) (part : UndisambiguatedIdentifier) (a : List ℕ) (n : ℕ) → disambiguate n (write a (rooted part (seek at (entered (l - 1) s)))) ≡ shown (λ full. a ++ disambiguator_text full n) (Some part) 1 1 at l s
shown_crate s l at part a n =
    made s refl refl refl (heard2 s.most s.muted s.text a (disambiguator_text s.full n)) (heard0 s.most s.muted (grown s.most s.trimmed (heard s.muted a)) ∙ heard2 s.most s.muted s.trimmed a []) refl

pub shown_steps : (s : State) (l n : ℕ) (a : List ℕ) → write a (seek None (take n (entered (l - 1) s))) ≡ shown (λ full. a) None 1 (suc n) None l s
shown_steps s l n a = made s refl (omega arith) refl refl refl (root0 s.in_back_reference s.root)

pub shown_steps_invalid : (s : State) (l n : ℕ) (a : List ℕ) → after_invalid_syntax (write a (take n (entered (l - 1) s))) ≡ shown (λ full. a ++ codes "?") None 1 (suc n) None l s
shown_steps_invalid s l n a =
    made s refl (omega arith) refl (heard2 s.most s.muted s.text a (codes "?")) (heard2 s.most s.muted s.trimmed a (codes "?")) (root0 s.in_back_reference s.root)

-- One part

pub shown_named : (s : State) (l : ℕ) (after : Option ℕ) (a : Bool → List ℕ) (r : Option UndisambiguatedIdentifier) (h n : ℕ) → shown a r h n after (l - 1) (entered (l - 1) s) ≡ shown a r (suc h) (suc n) after l s
shown_named s l after a r h n = made s refl (omega arith) (least1 s.least_levels_left l h) refl refl refl

pub shown_back : (s : State) (l target q : ℕ) (end : Option ℕ) (a : Bool → List ℕ) (r : Option UndisambiguatedIdentifier) (h n : ℕ) → s.limit_exceeded ≡ false → back_to q s.in_back_reference (shown a r h n end (l - 1) (into target (entered (l - 1) s))) ≡ shown a None (suc h) (suc n) (Some q) l s
shown_back s l target q end a r h n o =
    made s (rw o refl) (omega arith) (least1 s.least_levels_left l h) refl refl (root0 s.in_back_reference s.root)

pub shown_then : (s : State) (l : ℕ) (at mid after : Option ℕ) (a : Bool → List ℕ) (b : List ℕ) (r : Option UndisambiguatedIdentifier) (h n : ℕ) → write b (seek after (shown a r h n mid (l - 1) (seek at (entered (l - 1) s)))) ≡ shown (λ full. a full ++ b) r (suc h) (suc n) after l s
shown_then s l at mid after a b r h n =
    made s refl (omega arith) (least1 s.least_levels_left l h) (heard2 s.most s.muted s.text (a s.full) b) (heard2 s.most s.muted s.trimmed (a false) b) refl

pub shown_after : (s : State) (l : ℕ) (at after : Option ℕ) (a : List ℕ) (b : Bool → List ℕ) (r : Option UndisambiguatedIdentifier) (h n : ℕ) → shown b r h n after (l - 1) (write a (seek at (entered (l - 1) s))) ≡ shown (λ full. a ++ b full) r (suc h) (suc n) after l s
shown_after s l at after a b r h n =
    made s refl (omega arith) (least1 s.least_levels_left l h) (heard2 s.most s.muted s.text a (b s.full)) (heard2 s.most s.muted s.trimmed a (b false)) refl

pub shown_between : (s : State) (l : ℕ) (at after : Option ℕ) (a : List ℕ) (b : Bool → List ℕ) (c : List ℕ) (r : Option UndisambiguatedIdentifier) (h n : ℕ) → write c (shown b r h n after (l - 1) (write a (seek at (entered (l - 1) s)))) ≡ shown (λ full. a ++ (b full ++ c)) r (suc h) (suc n) after l s
shown_between s l at after a b c r h n =
    made s refl (omega arith) (least1 s.least_levels_left l h) (heard3 s.most s.muted s.text a (b s.full) c) (heard3 s.most s.muted s.trimmed a (b false) c) refl

pub shown_tuple : (s : State) (l : ℕ) (at after : Option ℕ) (a : List ℕ) (b : Bool → List ℕ) (c d : List ℕ) (r : Option UndisambiguatedIdentifier) (h n : ℕ) → write d (write c (shown b r h n after (l - 1) (write a (seek at (entered (l - 1) s))))) ≡ shown (λ full. a ++ (b full ++ (c ++ d))) r (suc h) (suc n) after l s
shown_tuple s l at after a b c d r h n =
    made s refl (omega arith) (least1 s.least_levels_left l h) (heard4 s.most s.muted s.text a (b s.full) c d) (heard4 s.most s.muted s.trimmed a (b false) c d) refl

pub shown_reference : (s : State) (l m : ℕ) (at after : Option ℕ) (a b c : List ℕ) (d : Bool → List ℕ) (r : Option UndisambiguatedIdentifier) (h n : ℕ) → shown d r h n after (l - 1) (write c (write b (write a (seek at (take m (entered (l - 1) s)))))) ≡ shown (λ full. a ++ (b ++ (c ++ d full))) r (suc h) (suc (m + n)) after l s
shown_reference s l m at after a b c d r h n =
    made s refl (omega arith) (least1 s.least_levels_left l h) (heard4 s.most s.muted s.text a b c (d s.full)) (heard4 s.most s.muted s.trimmed a b c (d false)) refl

pub shown_function : (s : State) (l m : ℕ) (at end after : Option ℕ) (a b : List ℕ) (c : Bool → List ℕ) (d : List ℕ) (r : Option UndisambiguatedIdentifier) (h n : ℕ) → seek after (write d (shown c r h n end (l - 1) (write b (write a (seek at (take m (entered (l - 1) s))))))) ≡ shown (λ full. a ++ (b ++ (c full ++ d))) r (suc h) (suc (m + n)) after l s
shown_function s l m at end after a b c d r h n =
    made s refl (omega arith) (least1 s.least_levels_left l h) (heard4 s.most s.muted s.text a b (c s.full) d) (heard4 s.most s.muted s.trimmed a b (c false) d) refl

pub shown_dyn : (s : State) (l m k : ℕ) (at end after : Option ℕ) (a b : List ℕ) (c : Bool → List ℕ) (d : List ℕ) (r : Option UndisambiguatedIdentifier) (h n : ℕ) → write d (seek after (take k (shown c r h n end (l - 1) (write b (write a (seek at (take m (entered (l - 1) s)))))))) ≡ shown (λ full. a ++ (b ++ (c full ++ d))) r (suc h) (suc (m + n + k)) after l s
shown_dyn s l m k at end after a b c d r h n =
    made s refl (omega arith) (least1 s.least_levels_left l h) (heard4 s.most s.muted s.text a b (c s.full) d) (heard4 s.most s.muted s.trimmed a b (c false) d) refl

-- Two parts and three

pub shown_array : (s : State) (l : ℕ) (at mid after : Option ℕ) (a : List ℕ) (b : Bool → List ℕ) (c : List ℕ) (d : Bool → List ℕ) (e : List ℕ) (r : Option UndisambiguatedIdentifier) (h n k m : ℕ) → write e (shown d None k m after (l - 1) (write c (shown b r h n mid (l - 1) (write a (seek at (entered (l - 1) s)))))) ≡ shown (λ full. a ++ (b full ++ (c ++ (d full ++ e)))) r (suc (max h k)) (suc (n + m)) after l s
shown_array s l at mid after a b c d e r h n k m =
    made s refl (omega arith) (least2 s.least_levels_left l h k) (heard5 s.most s.muted s.text a (b s.full) c (d s.full) e) (heard5 s.most s.muted s.trimmed a (b false) c (d false) e) (sym (root0 s.in_back_reference (kept_root s.in_back_reference s.root r)))

pub shown_function_to : (s : State) (l j : ℕ) (at end after : Option ℕ) (a b : List ℕ) (c : Bool → List ℕ) (d e : List ℕ) (f : Bool → List ℕ) (r q : Option UndisambiguatedIdentifier) (h n k m : ℕ) → shown f q k m after (l - 1) (write e (write d (shown c r h n end (l - 1) (write b (write a (seek at (take j (entered (l - 1) s)))))))) ≡ shown (λ full. a ++ (b ++ (c full ++ (d ++ (e ++ f full))))) (option_or r q) (suc (max h k)) (suc (j + n + m)) after l s
shown_function_to s l j at end after a b c d e f r q h n k m =
    made s refl (omega arith) (least2 s.least_levels_left l h k) (heard6 s.most s.muted s.text a b (c s.full) d e (f s.full)) (heard6 s.most s.muted s.trimmed a b (c false) d e (f false)) (root2 s.in_back_reference s.root r q)

pub shown_of_type : (s : State) (l : ℕ) (at mid after : Option ℕ) (p : Bool → List ℕ) (a : List ℕ) (b : Bool → List ℕ) (c : List ℕ) (r q : Option UndisambiguatedIdentifier) (h n k m : ℕ) → write c (shown b q k m after (l - 1) (write a (set_muted s.muted (shown p r h n mid (l - 1) (set_muted true (seek at (entered (l - 1) s))))))) ≡ shown (λ full. a ++ (b full ++ c)) (option_or r q) (suc (max h k)) (suc (n + m)) after l s
shown_of_type s l at mid after p a b c r q h n k m =
    made s refl (omega arith) (least2 s.least_levels_left l h k) (rw (grown_none s.most s.text) (heard3 s.most s.muted s.text a (b s.full) c)) (rw (grown_none s.most s.trimmed) (heard3 s.most s.muted s.trimmed a (b false) c)) (root2 s.in_back_reference s.root r q)

pub shown_of_impl : (s : State) (l : ℕ) (at mid end after : Option ℕ) (p : Bool → List ℕ) (a : List ℕ) (b : Bool → List ℕ) (c : List ℕ) (d : Bool → List ℕ) (e : List ℕ) (r q z : Option UndisambiguatedIdentifier) (h n k m j i : ℕ) → write e (shown d z j i after (l - 1) (write c (shown b q k m end (l - 1) (write a (set_muted s.muted (shown p r h n mid (l - 1) (set_muted true (seek at (entered (l - 1) s))))))))) ≡ shown (λ full. a ++ (b full ++ (c ++ (d full ++ e)))) (option_or (option_or r q) z) (suc (max h (max k j))) (suc (n + m + i)) after l s
shown_of_impl s l at mid end after p a b c d e r q z h n k m j i =
    made s refl (omega arith) (least3 s.least_levels_left l h k j) (rw (grown_none s.most s.text) (heard5 s.most s.muted s.text a (b s.full) c (d s.full) e)) (rw (grown_none s.most s.trimmed) (heard5 s.most s.muted s.trimmed a (b false) c (d false) e)) (root3 s.in_back_reference s.root r q z)

pub shown_of_trait : (s : State) (l : ℕ) (at mid after : Option ℕ) (a : List ℕ) (b : Bool → List ℕ) (c : List ℕ) (d : Bool → List ℕ) (e : List ℕ) (r q : Option UndisambiguatedIdentifier) (h n k m : ℕ) → write e (shown d q k m after (l - 1) (write c (shown b r h n mid (l - 1) (write a (seek at (entered (l - 1) s)))))) ≡ shown (λ full. a ++ (b full ++ (c ++ (d full ++ e)))) (option_or r q) (suc (max h k)) (suc (n + m)) after l s
shown_of_trait s l at mid after a b c d e r q h n k m =
    made s refl (omega arith) (least2 s.least_levels_left l h k) (heard5 s.most s.muted s.text a (b s.full) c (d s.full) e) (heard5 s.most s.muted s.trimmed a (b false) c (d false) e) (root2 s.in_back_reference s.root r q)

pub shown_generic : (s : State) (l : ℕ) (at mid after : Option ℕ) (a : Bool → List ℕ) (b c : List ℕ) (d : Bool → List ℕ) (e : List ℕ) (r q : Option UndisambiguatedIdentifier) (h n k m : ℕ) → write e (shown d q k m after (l - 1) (write c (write b (shown a r h n mid (l - 1) (seek at (entered (l - 1) s)))))) ≡ shown (λ full. a full ++ (b ++ (c ++ (d full ++ e)))) (option_or r q) (suc (max h k)) (suc (n + m)) after l s
shown_generic s l at mid after a b c d e r q h n k m =
    made s refl (omega arith) (least2 s.least_levels_left l h k) (heard5 s.most s.muted s.text (a s.full) b c (d s.full) e) (heard5 s.most s.muted s.trimmed (a false) b c (d false) e) (root2 s.in_back_reference s.root r q)

-- Lists

pub shown_end : (s : State) (l : ℕ) (after : Option ℕ) → s.least_levels_left ≤ l → seek after s ≡ shown (λ full. []) None 0 0 after l s
shown_end s l after h =
    made s refl (omega arith) (least_none s.least_levels_left l h) (heard0 s.most s.muted s.text) (heard0 s.most s.muted s.trimmed) (root0 s.in_back_reference s.root)

pub shown_items : (s : State) (l : ℕ) (mid after : Option ℕ) (a : List ℕ) (b c : Bool → List ℕ) (r q : Option UndisambiguatedIdentifier) (h n k m : ℕ) → shown c q k m after l (shown b r h n mid l (write a s)) ≡ shown (λ full. a ++ (b full ++ c full)) (option_or r q) (max h k) (n + m) after l s
shown_items s l mid after a b c r q h n k m =
    made s refl (omega arith) (least_both s.least_levels_left l h k) (heard3 s.most s.muted s.text a (b s.full) (c s.full)) (heard3 s.most s.muted s.trimmed a (b false) (c false)) (root2 s.in_back_reference s.root r q)

pub shown_lifetime : (s : State) (l n : ℕ) (after : Option ℕ) (a : List ℕ) → s.least_levels_left ≤ l → n ≡ 1 → write a (seek after (take 1 s)) ≡ shown (λ full. a) None 0 n after l s
shown_lifetime s l n after a h e =
    made s refl (ap (λ k. s.steps_left - k) (sym e)) (least_none s.least_levels_left l h) refl refl (root0 s.in_back_reference s.root)

pub shown_trait : (s : State) (l : ℕ) (mid after : Option ℕ) (a b : Bool → List ℕ) (r q : Option UndisambiguatedIdentifier) (h n k m : ℕ) → shown b q k m after l (shown a r h n mid l s) ≡ shown (λ full. a full ++ b full) (option_or r q) (max h k) (n + m) after l s
shown_trait s l mid after a b r q h n k m =
    made s refl (omega arith) (least_both s.least_levels_left l h k) (heard2 s.most s.muted s.text (a s.full) (b s.full)) (heard2 s.most s.muted s.trimmed (a false) (b false)) (root2 s.in_back_reference s.root r q)

pub shown_bindings_end : (s : State) (l : ℕ) (a : List ℕ) → s.least_levels_left ≤ l → write a s ≡ shown (λ full. a) None 0 0 s.at l s
shown_bindings_end s l a h =
    made s refl (omega arith) (least_none s.least_levels_left l h) refl refl (root0 s.in_back_reference s.root)

pub shown_bindings_invalid : (s : State) (l : ℕ) (a : List ℕ) → s.least_levels_left ≤ l → after_invalid_syntax (write a s) ≡ shown (λ full. a ++ codes "?") None 0 0 None l s
shown_bindings_invalid s l a h =
    made s refl (omega arith) (least_none s.least_levels_left l h) (heard2 s.most s.muted s.text a (codes "?")) (heard2 s.most s.muted s.trimmed a (codes "?")) (root0 s.in_back_reference s.root)

pub shown_binding : (s : State) (l : ℕ) (at mid after : Option ℕ) (a b c : List ℕ) (d e : Bool → List ℕ) (r q : Option UndisambiguatedIdentifier) (h n k m : ℕ) → shown e q k m after l (shown d r h n mid l (write c (write b (seek at (write a s))))) ≡ shown (λ full. a ++ (b ++ (c ++ (d full ++ e full)))) (option_or r q) (max h k) (n + m) after l s
shown_binding s l at mid after a b c d e r q h n k m =
    made s refl (omega arith) (least_both s.least_levels_left l h k) (heard5 s.most s.muted s.text a b c (d s.full) (e s.full)) (heard5 s.most s.muted s.trimmed a b c (d false) (e false)) (root2 s.in_back_reference s.root r q)
