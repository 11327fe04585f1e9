-- The name that a text ends with, character after character.
use Rattle.std.proofs.Common.{◌≡◌, ℕ, Bool, true, false, List, [], ◌∷◌, ◌++◌, reverse, sym, ap, ◌∙◌, append-nil}
use Rattle.std.specs.Char.{encode_utf8}
use Rattle.std.specs.Prelude.{encode_utf8_all, if◌then◌else◌}
use Rattle.std.proofs.lemmas.List.{reverse-append}
use Rattle.std.proofs.lemmas.Str.{encodes-append}
use Rattle.binfarce_figures.specs.Generic.{is_of_name}
use Rattle.binfarce_figures.specs.Keys.{last_name, name_front}

one_more : (read : List ℕ) (c : ℕ) → last_name (read ++ c ∷ []) ≡ reverse (name_front (c ∷ reverse read))
one_more read c = ap (λ (xs : List ℕ). reverse (name_front xs)) (reverse-append read (c ∷ []))

-- a character of a name goes on with it
pub goes_on : (text new read : List ℕ) (c : ℕ) → is_of_name c ≡ true → text ≡ encode_utf8_all (last_name read) → new ≡ text ++ encode_utf8 c → new ≡ encode_utf8_all (last_name (read ++ c ∷ []))
goes_on text new read c is w grown =
    let more : last_name (read ++ c ∷ []) ≡ last_name read ++ c ∷ [] =
    one_more read c ∙ ap (λ (b : Bool). reverse (if b then c ∷ name_front (reverse read) else [])) is ∙ reverse-append (c ∷ []) (name_front (reverse read)) in
    grown ∙ ap (λ (t : List ℕ). text ++ t) (sym (append-nil (encode_utf8 c))) ∙ ap (λ (t : List ℕ). t ++ encode_utf8_all (c ∷ [])) w ∙ sym (encodes-append (last_name read) (c ∷ [])) ∙ ap encode_utf8_all (sym more)

-- any other ends it
pub ends : (new read : List ℕ) (c : ℕ) → is_of_name c ≡ false → new ≡ [] → new ≡ encode_utf8_all (last_name (read ++ c ∷ []))
ends new read c isnt empty =
    empty ∙ ap encode_utf8_all (sym (one_more read c ∙ ap (λ (b : Bool). reverse (if b then c ∷ name_front (reverse read) else [])) isnt))
