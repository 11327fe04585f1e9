-- Entries that are sorted, inner ones before outer ones.
use Rattle.std.proofs.Common.{◌≡◌, ℕ, suc, subst, ◌+◌, ◌≤◌, Bool, true, false, List, get_or, nat_lt, refl, sym, ◌∙◌, arith}
use Rattle.std.specs.Ordering.{is_lt, nat_cmp}
use Rattle.std.specs.List.Sorted.{IsSorted}
use Rattle.std.specs.declared.cmp.Ordering.TheVariants.{Less}
use Rattle.std.proofs.lemmas.Bool.Decides.{nat_tests}
use Rattle.binfarce_figures.specs.Claims.{inner_cmp, place_of}
use Rattle.binfarce.specs.SectionEntries.{SectionEntry}
use Rattle.binfarce_figures.specs.machine.Falling.{Falls}

-- an entry that isn't sorted before another begins no later
no_later : (a b : SectionEntry) → is_lt (inner_cmp a b) ≡ false → place_of a ≤ place_of b
no_later a b isnt = by (nat_lt (place_of b) (place_of a)) refl
  where
    by : (s : Bool) → nat_lt (place_of b) (place_of a) ≡ s → place_of a ≤ place_of b
    by false e = grind (arith, nat_tests)
    by true e =
        let less : nat_cmp (place_of b) (place_of a) ≡ Less = rw e refl in
        let is : is_lt (inner_cmp a b) ≡ true = rw less refl in absurd (let both : true ≡ false = sym is ∙ isnt in cc)

pub falls : (rows : List SectionEntry) → IsSorted inner_cmp rows → Falls rows
falls rows sorted = λ k d lt.
    let next : k + 1 ≡ suc k = omega arith in
    subst (λ (n : ℕ). place_of (get_or rows n d) ≤ place_of (get_or rows k d)) next (no_later (get_or rows (k + 1) d) (get_or rows k d) (sorted k d (omega arith) (omega (arith, lt))))
