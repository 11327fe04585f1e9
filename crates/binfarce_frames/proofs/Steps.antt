-- A text with frames, byte by byte.
use Rattle.std.proofs.Common.{◌≡◌, ◌∙◌, ℕ, Bool, true, false, List, [], map, ◌∷◌, ◌++◌, append_assoc, if◌then◌else◌, nat_eq, refl, sym, ap}
use Rattle.std.proofs.lemmas.Bool.{ne_eqb}
use Rattle.binfarce_frames.specs.Frames.{framed, is_line_end, line_after, offset_in}
use Rattle.binfarce_frames.specs.Rest.{names_of, rest, text_with}
use Rattle.binfarce_frames.specs.declared.Frames.{Frames}

-- nothing follows no text
pub nothing : (names : List (List ℕ)) (line : List ℕ) → framed names line [] ≡ []
unfolding framed
nothing names line = refl

-- a byte that is no parenthesis stays
plain : (names : List (List ℕ)) (line : List ℕ) (b : ℕ) (text : List ℕ) → nat_eq b 41 ≡ false → framed names line (b ∷ text) ≡ (b ∷ []) ++ framed names (line_after line b) text
unfolding framed
plain names line b text is = ap (λ (c : Bool). (if c then offset_in names line (is_line_end text) else []) ++ b ∷ framed names (line_after line b) text) is

-- a parenthesis comes after its offset
closed : (names : List (List ℕ)) (line : List ℕ) (ends : Bool) (text : List ℕ) → is_line_end text ≡ ends → framed names line (41 ∷ text) ≡ (offset_in names line ends ++ 41 ∷ []) ++ framed names (line_after line 41) text
unfolding framed
closed names line ends text is =
    ap (λ (e : Bool). offset_in names line e ++ 41 ∷ framed names (line_after line 41) text) is ∙ sym (append_assoc (offset_in names line ends) (41 ∷ []) (framed names (line_after line 41) text))

-- what is left by a state that holds a parenthesis back, and by one that doesn't
by_state : (state : Frames) (held : Bool) (text : List ℕ) → state.is_held ≡ held → rest state text ≡ framed (names_of state) state.line.items (text_with held text)
by_state state held text is = ap (λ (h : Bool). framed (names_of state) state.line.items (text_with h text)) is

-- by one whose line is this
by_line : (old new : Frames) (line text : List ℕ) → new.is_held ≡ false → new.names ≡ old.names → new.line.items ≡ line → framed (names_of old) line text ≡ rest new text
by_line old new line text free named is = sym (by_state new false text free ∙ ap (λ (l : List ℕ). framed (names_of new) l text) is ∙ ap (λ (names : List (List ℕ)). framed names line text) (ap (λ names. map (λ name. name.now) names.now) named))

pub released : (old new : Frames) (ends : Bool) (text : List ℕ) → old.is_held ≡ true → new.is_held ≡ false → new.line.items ≡ line_after old.line.items 41 → new.names ≡ old.names → is_line_end text ≡ ends
    → rest old text ≡ (offset_in (names_of old) old.line.items ends ++ 41 ∷ []) ++ rest new text
released old new ends text held free is named end =
    by_state old true text held ∙ closed (names_of old) old.line.items ends text end
    ∙ ap (λ (t : List ℕ). (offset_in (names_of old) old.line.items ends ++ 41 ∷ []) ++ t) (by_line old new (line_after old.line.items 41) text free named is)

-- the next byte is no parenthesis
pub goes_on : (mid new : Frames) (b : ℕ) (text : List ℕ) → mid.is_held ≡ false → (b ≡ 41 → ⊥) → new.is_held ≡ false → new.line.items ≡ line_after mid.line.items b → new.names ≡ mid.names → rest mid (b ∷ text) ≡ (b ∷ []) ++ rest new text
goes_on mid new b text held other free is named =
    by_state mid false (b ∷ text) held ∙ plain (names_of mid) mid.line.items b text (ne_eqb b 41 other) ∙ ap (λ (t : List ℕ). (b ∷ []) ++ t) (by_line mid new (line_after mid.line.items b) text free named is)

-- the text ends
pub ended : (mid : Frames) → mid.is_held ≡ false → rest mid [] ≡ []
ended mid held = by_state mid false [] held ∙ nothing (names_of mid) mid.line.items
