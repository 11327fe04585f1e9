-- The offsets of needed versions, file by file.
use Rattle.std.proofs.Common.{◌≡◌, ℕ, zero, suc, ◌+◌, ◌-◌, ◌<◌, Bool, false, cond, eqb, List, [], ◌++◌, take, Option, Some, None, refl, subst, ap, ◌∙◌, arith}
use Rattle.std.proofs.lemmas.Bool.{eq-eqb}
use Rattle.binfarce_bytes.specs.declared.ByteOrder.{ByteOrder}
use Rattle.binfarce_needs.specs.NeededVersions.{FileEntry, Version, and_others, file_at, files_from, versions_from}
use Rattle.binfarce_needs.specs.declared.versions.Offsets.{Offsets}
use Rattle.binfarce_needs.specs.machine.Views.{Found}
use Rattle.binfarce_needs.proofs.VersionSteps.{take_none}

module _ (order : ByteOrder) (bytes : List ℕ) where
  none_left : (n start : ℕ) → n ≡ 0 → files_from order bytes n start ≡ []
  unfolding files_from
  none_left zero start none = refl
  none_left (suc m) start none = absurd (omega arith)

  by_count : (n start : ℕ) → 0 < n
      → files_from order bytes n start ≡ and_others (file_at order bytes start) (λ f. versions_from order bytes f.name f.count (start + f.versions)) (λ next. files_from order bytes (n - 1) (start + next))
  unfolding files_from
  by_count zero start some = absurd (omega arith)
  by_count (suc m) start some = let less : suc m - 1 ≡ m = omega arith in rw less refl

  module _ (n start room : ℕ) (now : Offsets) (all : List Version) (so_far : Found now (take room (files_from order bytes n start)) all) where
    at_list : (xs : List Version) → files_from order bytes n start ≡ xs → Found now (take room xs) all
    at_list xs is = subst (λ (vs : List Version). Found now (take room vs) all) is so_far

    -- so many were read
    pub no_file : n ≡ 0 → Found now [] all
    no_file none = subst (λ (vs : List Version). Found now vs all) (take_none room) (at_list [] (none_left n start none))

    -- none is there
    pub not_there : 0 < n → file_at order bytes start ≡ None → Found now [] all
    not_there some none = subst (λ (vs : List Version). Found now vs all) (take_none room)
        (at_list [] (by_count n start some ∙ ap (λ (o : Option FileEntry). and_others o (λ f. versions_from order bytes f.name f.count (start + f.versions)) (λ next. files_from order bytes (n - 1) (start + next))) none))

    module _ (f : FileEntry) (new : Offsets) (left : ℕ) (some : 0 < n) (there : file_at order bytes start ≡ Some f)
        (pushed : (others all : List Version) → Found now (take room (versions_from order bytes f.name f.count (start + f.versions) ++ others)) all → Found new (take left others) all) where
      after : List Version
      after = cond (eqb f.next 0) [] (files_from order bytes (n - 1) (start + f.next))

      one_more : Found new (take left after) all
      unfolding after
      one_more =
          pushed after all
          (at_list (versions_from order bytes f.name f.count (start + f.versions) ++ after)
          (by_count n start some ∙ ap (λ (o : Option FileEntry). and_others o (λ f. versions_from order bytes f.name f.count (start + f.versions)) (λ next. files_from order bytes (n - 1) (start + next))) there))

      -- it is the last one
      pub last : f.next ≡ 0 → Found new [] all
      unfolding after
      last ends = subst (λ (vs : List Version). Found new vs all) (take_none left)
          (subst (λ (b : Bool). Found new (take left (cond b [] (files_from order bytes (n - 1) (start + f.next)))) all) (eq-eqb f.next 0 ends) one_more)

      -- another may follow
      pub further : eqb f.next 0 ≡ false → Found new (take left (files_from order bytes (n - 1) (start + f.next))) all
      unfolding after
      further goes = subst (λ (b : Bool). Found new (take left (cond b [] (files_from order bytes (n - 1) (start + f.next)))) all) goes one_more
