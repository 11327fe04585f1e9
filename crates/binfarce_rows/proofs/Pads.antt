-- What the format codes of a line write.
use Rattle.std.proofs.Common.{◌≡◌, ℕ, zero, suc, ◌-◌, ◌^◌, List, [], ◌∷◌, ◌++◌, length, false, refl, arith, replicate, append-nil}
use Rattle.std.specs.List.{repeat}
use Rattle.std.specs.Char.{encode_utf8}
use Rattle.std.specs.Fmt.{format_spec, padded_integral, char_count}
use Rattle.binfarce_rows.specs.Columns.{pad_left}

zeros_before : (m n : ℕ) (ds : List ℕ) → m ≡ n → replicate m 48 ++ (ds ++ []) ≡ replicate n 48 ++ ds
zeros_before m n ds e = rw (e, append-nil ds) refl

-- `{:016x}`
pub address_padded : (ds : List ℕ) → padded_integral (format_spec 32 0 4 16 (2 ^ 64 - 1)) false [] ds ≡ pad_left 48 16 ds
unfolding padded_integral char_count
address_padded ds = zeros_before (16 - length ds - 0 - 0) (16 - length ds) ds (omega arith)

pub blanks_are : (n : ℕ) (blank : List ℕ) → blank ≡ 32 ∷ [] → repeat n blank ≡ replicate n 32
blanks_are zero blank is = refl
blanks_are (suc n) blank is = rw (is, blanks_are n (32 ∷ []) refl) refl

blanks_before : (m n k : ℕ) (blank ds : List ℕ) → blank ≡ 32 ∷ [] → m ≡ n → k ≡ 0 → (((repeat m blank ++ []) ++ []) ++ []) ++ (ds ++ repeat k blank) ≡ replicate n 32 ++ ds
blanks_before m n k blank ds is e none =
    rw (none, e, append-nil {A = ℕ} ds, append-nil {A = ℕ} (repeat n blank), append-nil {A = ℕ} (repeat n blank), append-nil {A = ℕ} (repeat n blank), blanks_are n blank is) refl

-- `{:>3}`, or another width
pub padded_to : (width : ℕ) (ds : List ℕ) → padded_integral (format_spec 32 3 0 width (2 ^ 64 - 1)) false [] ds ≡ pad_left 32 width ds
unfolding padded_integral char_count
padded_to width ds =
    blanks_before (width - length ds - 0 - 0) (width - length ds) (width - length ds - 0 - 0 - (width - length ds - 0 - 0)) (encode_utf8 32) ds (unfold encode_utf8 in refl) (omega arith) (omega arith)

-- `{:>10}`
pub size_padded : (ds : List ℕ) → padded_integral (format_spec 32 3 0 10 (2 ^ 64 - 1)) false [] ds ≡ pad_left 32 10 ds
size_padded ds = padded_to 10 ds
