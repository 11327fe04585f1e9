-- What the format codes of a line write.
use Rattle.std.proofs.Common.{◌≡◌, ℕ, ◌^◌, Bool, true, false, List, [], ◌∷◌, ◌++◌, ◌-◌, ◌==◌, ◌&&◌, replicate, refl, sym, ap, arith, append-nil}
use Rattle.std.proofs.lemmas.Bool.{eqb-true}
use Rattle.std.specs.Prelude.{if◌then◌else◌}
use Rattle.std.specs.Char.{encode_utf8}
use Rattle.std.specs.Fmt.{char_count, format_spec, padded, styled_text, take_chars}
use Rattle.std.specs.List.{repeat}
use Rattle.binfarce_rows.proofs.Pads.{blanks_are}

blanks_alone : (m n k : ℕ) (blank : List ℕ) → blank ≡ 32 ∷ [] → m ≡ n → k ≡ 0 → repeat m blank ++ repeat k blank ≡ replicate n 32
blanks_alone m n k blank is e none = rw (none, e, append-nil {A = ℕ} (repeat n blank), blanks_are n blank is) refl

by_test : (b : Bool) (width : ℕ) → (b ≡ true → width ≡ 0) → (if b && true then [] else padded (format_spec 32 3 0 width (2 ^ 64 - 1)) []) ≡ replicate width 32
unfolding padded char_count take_chars
by_test true width none = ap (λ (n : ℕ). replicate n 32) (sym (none refl))
by_test false width none = blanks_alone (width - 0) width (width - 0 - (width - 0)) (encode_utf8 32) (unfold encode_utf8 in refl) (omega arith) (omega arith)

-- `{:>width$}` of no text
pub blanks : (width : ℕ) → styled_text (format_spec 32 3 0 width (2 ^ 64 - 1)) [] ≡ replicate width 32
blanks width = by_test (width == 0) width (eqb-true width 0)
