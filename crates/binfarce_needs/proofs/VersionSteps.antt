-- The offsets of needed versions, version by version of a file.
use Rattle.std.proofs.Common.{◌≡◌, ℕ, zero, suc, ◌+◌, ◌-◌, ◌<◌, Bool, true, false, cond, eqb, List, [], ◌∷◌, ◌++◌, take, Option, Some, None, refl, sym, subst, ap, ◌∙◌, arith}
use Rattle.std.specs.Prelude.{find}
use Rattle.std.specs.BTreeMap.{get}
use Rattle.std.specs.Option.{option_map, option_or}
use Rattle.std.specs.Ordering.{nat_cmp}
use Rattle.std.proofs.lemmas.Bool.{eq-eqb}
use Rattle.binfarce_bytes.specs.declared.ByteOrder.{ByteOrder}
use Rattle.binfarce_needs.specs.NeededVersions.{Version, VersionEntry, and_after, of_index, version_at, versions_from}
use Rattle.binfarce_needs.specs.declared.versions.Offsets.{Offsets}
use Rattle.binfarce_needs.specs.machine.Views.{AreFound, Found}

or_assoc : (a b c : Option ℕ) → option_or (option_or a b) c ≡ option_or a (option_or b c)
or_assoc None b c = refl
or_assoc (Some offset) b c = refl

-- the first of several versions
first_of : (part : Version → ℕ) (v : Version) (after : List Version) (i : ℕ) → of_index part (v ∷ after) i ≡ option_or (cond (eqb v.index i) (Some (part v)) None) (of_index part after i)
first_of part v after i = by_test (eqb v.index i)
  where
    by_test : (is : Bool) → option_map part (cond is (Some v) (find (λ (v : Version). eqb v.index i) after)) ≡ option_or (cond is (Some (part v)) None) (of_index part after i)
    by_test true = refl
    by_test false = refl

found_more : (now new : ℕ → Option ℕ) (part : Version → ℕ) (v : Version) (rest all : List Version) → AreFound now part (v ∷ rest) all
    → ((i : ℕ) → i < 32768 → new i ≡ option_or (now i) (cond (eqb v.index i) (Some (part v)) None)) → AreFound new part rest all
found_more now new part v rest all so_far is = λ i small.
    ap (λ (o : Option ℕ). option_or o (of_index part rest i)) (is i small)
    ∙ or_assoc (now i) (cond (eqb v.index i) (Some (part v)) None) (of_index part rest i)
    ∙ ap (option_or (now i)) (sym (first_of part v rest i))
    ∙ so_far i small

-- no more than there is room for
pub take_one : (n : ℕ) (v : Version) (rest : List Version) → 0 < n → take n (v ∷ rest) ≡ v ∷ take (n - 1) rest
take_one zero v rest some = absurd (omega arith)
take_one (suc m) v rest some = let less : suc m - 1 ≡ m = omega arith in rw less refl

pub take_none : (n : ℕ) → Path (List Version) (take n []) []
take_none zero = refl
take_none (suc m) = refl

module _ (order : ByteOrder) (bytes : List ℕ) (file : ℕ) where
  none_left : (n start : ℕ) → n ≡ 0 → versions_from order bytes file n start ≡ []
  unfolding versions_from
  none_left zero start none = refl
  none_left (suc m) start none = absurd (omega arith)

  by_count : (n start : ℕ) → 0 < n → versions_from order bytes file n start ≡ and_after file (version_at order bytes start) (λ next. versions_from order bytes file (n - 1) (start + next))
  unfolding versions_from
  by_count zero start some = absurd (omega arith)
  by_count (suc m) start some = let less : suc m - 1 ≡ m = omega arith in rw less refl

  module _ (n at left : ℕ) (now : Offsets) (others all : List Version) (so_far : Found now (take left (versions_from order bytes file n at ++ others)) all) where
    at_list : (xs : List Version) → versions_from order bytes file n at ≡ xs → Found now (take left (xs ++ others)) all
    at_list xs is = subst (λ (vs : List Version). Found now (take left (vs ++ others)) all) is so_far

    -- so many were read
    pub no_version : n ≡ 0 → Found now (take left others) all
    no_version none = at_list [] (none_left n at none)

    -- none is there
    pub not_there : 0 < n → version_at order bytes at ≡ None → Found now (take left others) all
    not_there some none = at_list [] (by_count n at some ∙ ap (λ (o : Option VersionEntry). and_after file o (λ next. versions_from order bytes file (n - 1) (at + next))) none)

    -- there is no room
    pub no_room : left ≡ 0 → Found now (take 0 others) all
    no_room none = subst (λ (l : ℕ). Found now (take l (versions_from order bytes file n at ++ others)) all) none so_far

    module _ (v : VersionEntry) (new : Offsets) (some : 0 < n) (room : 0 < left) (there : version_at order bytes at ≡ Some v)
        (names : (i : ℕ) → i < 32768 → get nat_cmp new.names i ≡ option_or (get nat_cmp now.names i) (cond (eqb v.index i) (Some v.name) None))
        (files : (i : ℕ) → i < 32768 → get nat_cmp new.files i ≡ option_or (get nat_cmp now.files i) (cond (eqb v.index i) (Some file) None)) where
      version : Version
      version = record { index = v.index; name = v.name; file = file }

      after : List Version
      after = cond (eqb v.next 0) [] (versions_from order bytes file (n - 1) (at + v.next))

      one_more : Found new (take (left - 1) (after ++ others)) all
      unfolding version after
      one_more =
          let before : Found now (take left (version ∷ (after ++ others))) all =
          at_list (version ∷ after) (by_count n at some ∙ ap (λ (o : Option VersionEntry). and_after file o (λ next. versions_from order bytes file (n - 1) (at + next))) there) in
          let first : Found now (version ∷ take (left - 1) (after ++ others)) all = subst (λ (vs : List Version). Found now vs all) (take_one left version (after ++ others) room) before in
          record {
            names = found_more (get nat_cmp now.names) (get nat_cmp new.names) (λ v. v.name) version (take (left - 1) (after ++ others)) all first.names names;
            files = found_more (get nat_cmp now.files) (get nat_cmp new.files) (λ v. v.file) version (take (left - 1) (after ++ others)) all first.files files;
          }

      -- it is the last one
      pub last : v.next ≡ 0 → Found new (take (left - 1) others) all
      unfolding after
      last ends = subst (λ (b : Bool). Found new (take (left - 1) (cond b [] (versions_from order bytes file (n - 1) (at + v.next)) ++ others)) all) (eq-eqb v.next 0 ends) one_more

      -- another may follow
      pub further : (fewer behind : ℕ) → fewer ≡ n - 1 → behind ≡ at + v.next → eqb v.next 0 ≡ false → Found new (take (left - 1) (versions_from order bytes file fewer behind ++ others)) all
      unfolding after
      further fewer behind less next goes =
          subst (λ (m : ℕ). Found new (take (left - 1) (versions_from order bytes file m behind ++ others)) all) (sym less)
          (subst (λ (m : ℕ). Found new (take (left - 1) (versions_from order bytes file (n - 1) m ++ others)) all) (sym next)
          (subst (λ (b : Bool). Found new (take (left - 1) (cond b [] (versions_from order bytes file (n - 1) (at + v.next)) ++ others)) all) goes one_more))
