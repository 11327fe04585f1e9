-- Words that name a section: its name, or a segment's name, a comma and its name.
use Rattle.std.proofs.Common.{◌≡◌, ℕ, List, [], ◌∷◌, ◌++◌, Bool, true, false, ◌&&◌, Option, Some, None, length, take, drop, nat_eq, refl, sym, ap, ◌∙◌, true≢false}
use Rattle.std.specs.Str.{bytes_eq}
use Rattle.std.proofs.lemmas.Bool.Decides.{same_from_decides}
use Rattle.std.proofs.lemmas.Slice.Eq.{bytes_eq-Decides}
use Rattle.binfarce.specs.ElfSymbols as elf
use Rattle.binfarce_sections.specs.Named.{full_name, names}

equal_step : (b c d e : Bool) → (c ≡ true → d ≡ e) → (b && c) ≡ true → d ≡ (b && e)
equal_step true c d e f is = f is
equal_step false c d e f is = absurd (true≢false (sym is))

other_step : (b c e : Bool) → (c ≡ false → false ≡ e) → (b && c) ≡ false → false ≡ (b && e)
other_step true c e f is = f is
other_step false c e f is = refl

-- what follows a beginning that is equal decides
pub after_equal : (front word behind : List ℕ) → bytes_eq (take (length front) word) front ≡ true → bytes_eq (drop (length front) word) behind ≡ bytes_eq word (front ++ behind)
after_equal [] word behind is = refl
after_equal (x ∷ front) [] behind is = absurd (true≢false (sym is))
after_equal (x ∷ front) (w ∷ word) behind is =
    equal_step (nat_eq w x) (bytes_eq (take (length front) word) front) (bytes_eq (drop (length front) word) behind) (bytes_eq word (front ++ behind)) (after_equal front word behind) is

-- a beginning that differs decides
pub after_other : (front word behind : List ℕ) → bytes_eq (take (length front) word) front ≡ false → false ≡ bytes_eq word (front ++ behind)
after_other [] word behind is = absurd (true≢false is)
after_other (x ∷ front) [] behind is = refl
after_other (x ∷ front) (w ∷ word) behind is =
    other_step (nat_eq w x) (bytes_eq (take (length front) word) front) (bytes_eq word (front ++ behind)) (after_other front word behind) is

-- a full name whose segment begins the word: what follows decides
pub equal_front : (word segment name word' segment' name' rest : List ℕ) (result : Bool) → word' ≡ word → segment' ≡ segment → name' ≡ name
    → bytes_eq (take (length segment') word') segment' ≡ true → rest ≡ drop (length segment') word' → result ≡ bytes_eq rest (44 ∷ name') → result ≡ bytes_eq word (full_name segment name)
equal_front word segment name word' segment' name' rest result w s n is left decides =
    decides ∙ ap (λ (xs : List ℕ). bytes_eq xs (44 ∷ name')) left ∙ after_equal segment' word' (44 ∷ name') is
    ∙ ap (λ (xs : List ℕ). bytes_eq xs (full_name segment' name')) w ∙ ap (λ (xs : List ℕ). bytes_eq word (full_name xs name')) s ∙ ap (λ (xs : List ℕ). bytes_eq word (full_name segment xs)) n

pub other_front : (word segment name word' segment' : List ℕ) → word' ≡ word → segment' ≡ segment
    → bytes_eq (take (length segment') word') segment' ≡ false → false ≡ bytes_eq word (full_name segment name)
other_front word segment name word' segment' w s is =
    after_other segment' word' (44 ∷ name) is ∙ ap (λ (xs : List ℕ). bytes_eq xs (full_name segment' name)) w ∙ ap (λ (xs : List ℕ). bytes_eq word (full_name xs name)) s

-- the readers compare a name with a word, and not the word with the name
pub elf_names : (word : List ℕ) (name : Option (List ℕ)) → elf.is_named word name ≡ names word None name
elf_names word None = refl
elf_names word (Some name) =
    let d = bytes_eq-Decides name word in
    same_from_decides (bytes_eq name word) (bytes_eq word name) (λ e. sym (d.0 e), λ e. d.1 (sym e)) (bytes_eq-Decides word name)
