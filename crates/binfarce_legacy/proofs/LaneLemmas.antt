-- Bytes that are compared side by side: those that denote themselves, and whether one is a mark.
use Rattle.std.proofs.Common.{◌≡◌, ℕ, suc, ◌+◌, Bool, true, false, not, ◌&&◌, ◌||◌, cond, eqb, nat_lt, List, [], ◌∷◌, length, refl, arith}
use Rattle.std.proofs.lemmas.Bool.Decides.{nat_tests}
use Rattle.std.specs.List.{list_any, prefix_len}
use Rattle.binfarce_text.specs.machine.Strides.{is_other}
use Rattle.binfarce_text.proofs.Lanes.{same_run}
use Rattle.binfarce_legacy.specs.machine.Reading.{is_mark, is_plain}

neither : (r s : Bool) → not (r || (s || s)) ≡ not r && not s
neither true s = refl
neither false true = refl
neither false false = refl

pub plain_run : (v : List ℕ) → prefix_len (is_other 46 36 36) v ≡ prefix_len is_plain v
plain_run v = same_run (is_other 46 36 36) is_plain v (λ x. neither (eqb x 46) (eqb x 36))

step : (m : Bool) (run len : ℕ) (more : Bool) → nat_lt run len ≡ more → nat_lt (cond (not m) (1 + run) 0) (suc len) ≡ m || more
step true run len more e = grind (arith, nat_tests)
step false run len more e = grind (arith, nat_tests)

-- a mark ends the run of other bytes before the end
pub any_mark : (v : List ℕ) → nat_lt (prefix_len (is_other 46 36 58) v) (length v) ≡ list_any is_mark v
any_mark [] = refl
any_mark (x ∷ xs) = step (is_mark x) (prefix_len (is_other 46 36 58) xs) (length xs) (list_any is_mark xs) (any_mark xs)
