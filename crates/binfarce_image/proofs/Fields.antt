-- The fields of a structure after numbers were put into some.
use Rattle.std.proofs.Common.{◌≡◌, ℕ, ◌+◌, ◌-◌, ◌^◌, ◌<◌, ◌≤◌, Bool, true, false, cond, ◌&&◌, ◌||◌, leb, eqb, List, [], ◌∷◌, ◌++◌, length, take, drop, Option, Some, None, inl, inr, refl, sym, ap, ◌∙◌, append_assoc, arith}
use Rattle.std.specs.List.{list_all}
use Rattle.std.proofs.lemmas.Bool.{leb-true, eqb-true, and_parts, or_cases}
use Rattle.std.proofs.lemmas.List.{length-append, length-take-le, length-drop, take-append-le, drop-append-le, take-take, drop-take, drop-drop, drop_at, take_at}
use Rattle.binfarce.specs.declared.ByteOrder.{ByteOrder}
use Rattle.binfarce.specs.Field.{Field, value_at}
use Rattle.binfarce.specs.Number.{number, bytes_at}
use Rattle.binfarce_image.specs.machine.Views.{fits, all_fit}
use Rattle.binfarce_image.specs.Structure.{number_bytes, written_at, put, filled}
use Rattle.binfarce_image.proofs.Bytes.{length-number_bytes}
use Rattle.binfarce_image.proofs.Lengths.{within, length-put, length-filled}
use Rattle.binfarce_image.proofs.NumbersBack.{number_back}

-- what was written is there
there : (bytes others : List ℕ) (place : ℕ) → place ≤ length bytes → bytes_at (written_at bytes place others) place (length others) ≡ others
there bytes others place inside =
    let rest = drop (place + length others) bytes in
    ap (take (length others)) (drop_at (take place bytes) (others ++ rest) place (length-take-le place bytes inside)) ∙ take_at others rest (length others) refl

-- what ends before it stays
before : (bytes others : List ℕ) (place at width : ℕ) → place ≤ length bytes → at + width ≤ place → bytes_at (written_at bytes place others) at width ≡ bytes_at bytes at width
before bytes others place at width inside ends =
    let rest = others ++ drop (place + length others) bytes in
    let long : at + width ≤ length (take place bytes) = omega (arith, length-take-le place bytes inside) in
    let front : take (at + width) (take place bytes ++ rest) ≡ take (at + width) bytes =
    take-append-le (at + width) (take place bytes) rest long ∙ take-take (at + width) place bytes ends in
    sym (drop-take at width (take place bytes ++ rest)) ∙ ap (drop at) front ∙ drop-take at width bytes

-- what begins behind it stays
behind : (bytes others : List ℕ) (place at width : ℕ) → place ≤ length bytes → place + length others ≤ at → bytes_at (written_at bytes place others) at width ≡ bytes_at bytes at width
behind bytes others place at width inside begins =
    let end = place + length others in
    let k = at - end in
    let split : end + k ≡ at = omega arith in
    let written = take place bytes ++ (others ++ drop end bytes) in
    let long : length (take place bytes ++ others) ≡ end = length-append (take place bytes) others ∙ ap (λ (n : ℕ). n + length others) (length-take-le place bytes inside) in
    let back : drop end written ≡ drop end bytes =
    ap (drop end) (sym (append_assoc (take place bytes) others (drop end bytes))) ∙ drop_at (take place bytes ++ others) (drop end bytes) end long in
    let moved : drop at written ≡ drop at bytes =
    ap (λ (n : ℕ). drop n written) (sym split) ∙ sym (drop-drop k end written) ∙ ap (drop k) back ∙ drop-drop k end bytes ∙ ap (λ (n : ℕ). drop n bytes) split in
    ap (take width) moved

-- the fields share no byte
abbrev pub lies_apart : Field → Field → Bool
lies_apart f g = leb (f.offset + f.width) g.offset || leb (g.offset + g.width) f.offset

abbrev pub is_field : Field → Field → Bool
is_field f g = eqb f.offset g.offset && eqb f.width g.width

-- no number is put where the field is
abbrev pub untouched : Field → List (Field × ℕ) → Bool
untouched f numbers = list_all (λ number. lies_apart f number.0) numbers

-- the number that is put last into the field, if none is put over it
abbrev pub put_last : Field → List (Field × ℕ) → Option ℕ
put_last f [] = None
put_last f (x ∷ numbers) = cond (is_field f x.0 && untouched f numbers) (Some x.1) (put_last f numbers)

-- the number in a field
abbrev pub held : ByteOrder → List ℕ → Field → ℕ
held order bytes f = number order (bytes_at bytes f.offset f.width)

length_put : (order : ByteOrder) (bytes : List ℕ) (x : Field × ℕ) (len : ℕ) → length bytes ≡ len → fits len x.0 ≡ true → length (put order bytes x) ≡ len
length_put order bytes x len long inside = length-put order bytes x.0 x.1 (ap (λ (n : ℕ). fits n x.0) long ∙ inside) ∙ long

put_apart : (order : ByteOrder) (bytes : List ℕ) (f : Field) (x : Field × ℕ) (len : ℕ) → length bytes ≡ len → fits len x.0 ≡ true → lies_apart f x.0 ≡ true
    → held order (put order bytes x) f ≡ held order bytes f
unfolding put
put_apart order bytes f x len long inside apart =
    let others = number_bytes order x.0.width x.1 in
    let end : x.0.offset + x.0.width ≤ len = within len x.0 inside in
    let starts : x.0.offset ≤ length bytes = omega arith in
    ap (number order) (elim (or_cases (leb (f.offset + f.width) x.0.offset) (leb (x.0.offset + x.0.width) f.offset) apart) [
      | inl low ↦ before bytes others x.0.offset f.offset f.width starts (leb-true (f.offset + f.width) x.0.offset low)
      | inr high ↦ behind bytes others x.0.offset f.offset f.width starts (omega (arith, leb-true (x.0.offset + x.0.width) f.offset high, length-number_bytes order x.0.width x.1))
    ])

-- a field that nothing is put into holds what it held
untouched_back : (order : ByteOrder) (len : ℕ) (f : Field) (numbers : List (Field × ℕ)) (bytes : List ℕ) → length bytes ≡ len → all_fit len numbers ≡ true → untouched f numbers ≡ true
    → held order (filled order bytes numbers) f ≡ held order bytes f
untouched_back order len f [] bytes long inside none = refl
untouched_back order len f (x ∷ numbers) bytes long inside none =
    let i = and_parts (fits len x.0) (all_fit len numbers) inside in
    let n = and_parts (lies_apart f x.0) (untouched f numbers) none in
    untouched_back order len f numbers (put order bytes x) (length_put order bytes x len long i.0) i.1 n.1 ∙ put_apart order bytes f x len long i.0 n.0

put_there : (order : ByteOrder) (bytes : List ℕ) (f : Field) (x : Field × ℕ) (len : ℕ) → length bytes ≡ len → fits len x.0 ≡ true → is_field f x.0 ≡ true → x.1 < 256 ^ f.width
    → held order (put order bytes x) f ≡ x.1
unfolding put
put_there order bytes f x len long inside same small =
    let end : x.0.offset + x.0.width ≤ len = within len x.0 inside in
    let p = and_parts (eqb f.offset x.0.offset) (eqb f.width x.0.width) same in
    let at : f.offset ≡ x.0.offset = eqb-true f.offset x.0.offset p.0 in
    let wide : f.width ≡ x.0.width = eqb-true f.width x.0.width p.1 in
    let others = number_bytes order x.0.width x.1 in
    let width_is : f.width ≡ length others = wide ∙ sym (length-number_bytes order x.0.width x.1) in
    ap (number order) (ap (λ (k : ℕ). bytes_at (written_at bytes x.0.offset others) k f.width) at ∙ ap (λ (k : ℕ). bytes_at (written_at bytes x.0.offset others) x.0.offset k) width_is ∙ there bytes others x.0.offset (omega arith))
    ∙ ap (λ (k : ℕ). number order (number_bytes order k x.1)) (sym wide)
    ∙ number_back order f.width x.1 small

put_back_by : (order : ByteOrder) (len : ℕ) (f : Field) (n : ℕ) (x : Field × ℕ) (numbers : List (Field × ℕ)) (bytes : List ℕ) (here : Bool)
    → length bytes ≡ len → fits len x.0 ≡ true → all_fit len numbers ≡ true → n < 256 ^ f.width → (is_field f x.0 && untouched f numbers) ≡ here
    → cond here (Some x.1) (put_last f numbers) ≡ Some n
    → (put_last f numbers ≡ Some n → held order (filled order (put order bytes x) numbers) f ≡ n)
    → held order (filled order (put order bytes x) numbers) f ≡ n
put_back_by order len f n x numbers bytes true long inside others small h e later =
    let p = and_parts (is_field f x.0) (untouched f numbers) h in
    let value : x.1 ≡ n = cc in
    untouched_back order len f numbers (put order bytes x) (length_put order bytes x len long inside) others p.1
    ∙ put_there order bytes f x len long inside p.0 (omega arith)
    ∙ value
put_back_by order len f n x numbers bytes false long inside others small h e later = later e

-- a field holds the number that was put last into it
put_back : (order : ByteOrder) (len : ℕ) (f : Field) (n : ℕ) (numbers : List (Field × ℕ)) (bytes : List ℕ) → length bytes ≡ len → all_fit len numbers ≡ true → n < 256 ^ f.width
    → put_last f numbers ≡ Some n → held order (filled order bytes numbers) f ≡ n
put_back order len f n [] bytes long inside small last = absurd cc
put_back order len f n (x ∷ numbers) bytes long inside small last =
    let i = and_parts (fits len x.0) (all_fit len numbers) inside in
    put_back_by order len f n x numbers bytes (is_field f x.0 && untouched f numbers) long i.0 i.1 small refl last
    (λ e. put_back order len f n numbers (put order bytes x) (length_put order bytes x len long i.0) i.1 small e)

-- a structure's field is read where the structure is in a file
value_in : (order : ByteOrder) (front bytes behind : List ℕ) (f : Field) (start len : ℕ) → length front ≡ start → length bytes ≡ len → fits len f ≡ true
    → value_at order (front ++ (bytes ++ behind)) start f ≡ held order bytes f
value_in order front bytes behind f start len at long inside =
    let end : f.offset + f.width ≤ len = within len f inside in
    let file = front ++ (bytes ++ behind) in
    let there : drop (start + f.offset) file ≡ drop f.offset (bytes ++ behind) = sym (drop-drop f.offset start file) ∙ ap (drop f.offset) (drop_at front (bytes ++ behind) start at) in
    let cut : take f.width (drop f.offset (bytes ++ behind)) ≡ take f.width (drop f.offset bytes) =
    ap (take f.width) (drop-append-le f.offset bytes behind (omega arith)) ∙ take-append-le f.width (drop f.offset bytes) behind (omega (arith, length-drop f.offset bytes)) in
    ap (number order) (ap (take f.width) there ∙ cut)

-- the field, of a structure of this length, gets the number, and has room for all below the bound
pub record IsPut (len : ℕ) (f : Field) (numbers : List (Field × ℕ)) (n bound : ℕ) : Type 0 where
  pub last : put_last f numbers ≡ Some n
  pub room : (fits len f && leb bound (256 ^ f.width)) ≡ true

-- a number that was put into a structure's field is read where the structure is in a file
pub field_back : (order : ByteOrder) (front bytes behind : List ℕ) (f : Field) (numbers : List (Field × ℕ)) (start len n bound : ℕ) → length front ≡ start → length bytes ≡ len
    → all_fit len numbers ≡ true → n < bound → IsPut len f numbers n bound → value_at order (front ++ (filled order bytes numbers ++ behind)) start f ≡ n
field_back order front bytes behind f numbers start len n bound at long inside small is =
    let p = and_parts (fits len f) (leb bound (256 ^ f.width)) is.room in
    let room : n < 256 ^ f.width = omega (arith, leb-true bound (256 ^ f.width) p.1) in
    let whole : length (filled order bytes numbers) ≡ len = length-filled order bytes numbers (ap (λ (m : ℕ). all_fit m numbers) long ∙ inside) ∙ long in
    value_in order front (filled order bytes numbers) behind f start len at whole p.0 ∙ put_back order len f n numbers bytes long inside room is.last
