-- Lists that grow by one, side by side.
use Rattle.std.proofs.Common.{◌≡◌, ◌∙◌, ℕ, ◌+◌, ◌<◌, List, [], ◌∷◌, ◌++◌, ap, drop, get_or, length, map, subst, sym, take}
use Rattle.std.proofs.lemmas.List.{drop-map, drop_more, map-append, map_more}
use Rattle.std.proofs.lemmas.Slice.Zip.{all_zipped_more}
use Rattle.std.specs.List.{AllZip}

-- one more of each list
pub zip_more : {X Y A : Type 0} (R : X → Y → Type 0) (f : A → X) (es : List A) (i : ℕ) (d : A) (ys new : List Y) (y : Y) → i < length es → new ≡ ys ++ y ∷ []
    → AllZip R (map f (take i es)) ys → R (f (get_or es i d)) y → AllZip R (map f (take (i + 1) es)) new
zip_more {X = X} {Y = Y} R f es i d ys new y lt grown h r =
    let P : List X → Type 0 = λ xs. AllZip R xs new in
    let Q : List Y → Type 0 = λ zs. AllZip R (map f (take i es) ++ f (get_or es i d) ∷ []) zs in
    subst P (sym (map_more f es i d lt)) (subst Q (sym grown) (all_zipped_more R (map f (take i es)) ys (f (get_or es i d)) y h r))

-- lists side by side whose values are the same
pub same_values : {X Y V : Type 0} (f : X → V) (g : Y → V) (xs : List X) (ys : List Y) → map g ys ≡ map f xs → AllZip (λ x y. g y ≡ f x) xs ys
same_values f g [] [] is = tt
same_values f g [] (y ∷ ys) is = absurd cc
same_values f g (x ∷ xs) [] is = absurd cc
same_values f g (x ∷ xs) (y ∷ ys) is = (cc, same_values f g xs ys cc)

-- what follows for the outer two of three lists
pub through : {X Y Z : Type 0} (R : X → Y → Type 0) (S : Y → Z → Type 0) (T : X → Z → Type 0) → ((x : X) (y : Y) (z : Z) → R x y → S y z → T x z) → (xs : List X) (ys : List Y) (zs : List Z) → AllZip R xs ys → AllZip S ys zs → AllZip T xs zs
through R S T step [] [] [] a b = tt
through R S T step [] [] (z ∷ zs) a b = absurd b
through R S T step [] (y ∷ ys) zs a b = absurd a
through R S T step (x ∷ xs) [] zs a b = absurd a
through R S T step (x ∷ xs) (y ∷ ys) [] a b = absurd b
through R S T step (x ∷ xs) (y ∷ ys) (z ∷ zs) a b = (step x y z a.0 b.0, through R S T step xs ys zs a.1 b.1)

-- the values of what is left of a list, the first and the others
pub mapped_split : {X Y : Type 0} (f : X → Y) (xs : List X) (i : ℕ) (d : X) → i < length xs → drop i (map f xs) ≡ f (get_or xs i d) ∷ drop (i + 1) (map f xs)
mapped_split {Y = Y} f xs i d lt = drop-map f i xs ∙ ap (map f) (drop_more xs i d lt) ∙ ap (λ (ys : List Y). f (get_or xs i d) ∷ ys) (sym (drop-map f (i + 1) xs))

-- the values of a list that grew by one
pub map_push : {X Y : Type 0} (f : X → Y) (xs new : List X) (x : X) (y : Y) → new ≡ xs ++ x ∷ [] → f x ≡ y → map f new ≡ map f xs ++ y ∷ []
map_push {Y = Y} f xs new x y grown is = ap (map f) grown ∙ map-append f xs (x ∷ []) ∙ ap (λ (z : Y). map f xs ++ z ∷ []) is

-- values of two lists, of which one grew by what the other has next
pub maps_more : {X Y A : Type 0} (f : X → Y) (g : A → Y) (xs new : List X) (x : X) (es : List A) (i : ℕ) (d : A) → i < length es → new ≡ xs ++ x ∷ [] → f x ≡ g (get_or es i d) → map f xs ≡ map g (take i es) → map f new ≡ map g (take (i + 1) es)
maps_more {Y = Y} f g xs new x es i d lt grown is same = map_push f xs new x (g (get_or es i d)) grown is ∙ ap (λ (ys : List Y). ys ++ g (get_or es i d) ∷ []) same ∙ sym (map_more g es i d lt)
