-- The offsets of the names of versions, definition by definition.
use Rattle.std.proofs.Common.{◌≡◌, ℕ, zero, suc, ◌+◌, ◌-◌, ◌<◌, Bool, true, false, cond, eqb, List, [], ◌∷◌, Option, Some, None, refl, sym, ap, ◌∙◌, arith}
use Rattle.std.specs.Prelude.{find}
use Rattle.std.specs.Option.{option_map, option_or}
use Rattle.std.proofs.lemmas.Bool.{eq-eqb}
use Rattle.binfarce_bytes.specs.declared.ByteOrder.{ByteOrder}
use Rattle.binfarce_elf_memory.specs.Versions.{Definition, and_after, definition_at, definitions_from, name_offset}

or_none : (now : Option ℕ) → option_or now None ≡ now
or_none None = refl
or_none (Some offset) = refl

or_assoc : (a b c : Option ℕ) → option_or (option_or a b) c ≡ option_or a (option_or b c)
or_assoc None b c = refl
or_assoc (Some offset) b c = refl

-- the first of several definitions
first_defined : (d : Definition) (after : List Definition) (i : ℕ) → name_offset (d ∷ after) i ≡ option_or (cond (eqb d.index i) (Some d.name) None) (name_offset after i)
first_defined d after i = by_test (eqb d.index i)
  where
    by_test : (is : Bool) → option_map (λ (d : Definition). d.name) (cond is (Some d) (find (λ (d : Definition). eqb d.index i) after)) ≡ option_or (cond is (Some d.name) None) (name_offset after i)
    by_test true = refl
    by_test false = refl

-- the first of so many that are left, and those after it
by_count : (order : ByteOrder) (bytes : List ℕ) (n start : ℕ) → 0 < n → definitions_from order bytes n start ≡ and_after (definition_at order bytes start) (λ next. definitions_from order bytes (n - 1) (start + next))
unfolding definitions_from
by_count order bytes zero start some = absurd (omega arith)
by_count order bytes (suc m) start some = let less : suc m - 1 ≡ m = omega arith in rw less refl

module _ (order : ByteOrder) (bytes : List ℕ) (n start i : ℕ) (now all : Option ℕ) (some : 0 < n) (so_far : option_or now (name_offset (definitions_from order bytes n start) i) ≡ all) where
  from_is : definitions_from order bytes n start ≡ and_after (definition_at order bytes start) (λ next. definitions_from order bytes (n - 1) (start + next))
  from_is = by_count order bytes n start some

  -- if none is there, all are defined
  pub no_more : definition_at order bytes start ≡ None → now ≡ all
  no_more none =
      sym (or_none now)
      ∙ ap (λ (ds : List Definition). option_or now (name_offset ds i)) (sym (from_is ∙ ap (λ (o : Option Definition). and_after o (λ next. definitions_from order bytes (n - 1) (start + next))) none))
      ∙ so_far

  -- one more is defined
  module _ (d : Definition) (new : Option ℕ) (there : definition_at order bytes start ≡ Some d) (is : new ≡ option_or now (cond (eqb d.index i) (Some d.name) None)) where
    one_more : option_or new (name_offset (cond (eqb d.next 0) [] (definitions_from order bytes (n - 1) (start + d.next))) i) ≡ all
    one_more =
        let after = cond (eqb d.next 0) [] (definitions_from order bytes (n - 1) (start + d.next)) in
        let from : definitions_from order bytes n start ≡ d ∷ after = from_is ∙ ap (λ (o : Option Definition). and_after o (λ next. definitions_from order bytes (n - 1) (start + next))) there in
        ap (λ (o : Option ℕ). option_or o (name_offset after i)) is
        ∙ or_assoc now (cond (eqb d.index i) (Some d.name) None) (name_offset after i)
        ∙ ap (option_or now) (sym (first_defined d after i))
        ∙ ap (λ (ds : List Definition). option_or now (name_offset ds i)) (sym from)
        ∙ so_far

    -- it is the last one
    pub last : d.next ≡ 0 → new ≡ all
    last ends = sym (or_none new) ∙ ap (λ (b : Bool). option_or new (name_offset (cond b [] (definitions_from order bytes (n - 1) (start + d.next))) i)) (sym (eq-eqb d.next 0 ends)) ∙ one_more

    -- another may follow
    pub further : eqb d.next 0 ≡ false → option_or new (name_offset (definitions_from order bytes (n - 1) (start + d.next)) i) ≡ all
    further goes = ap (λ (b : Bool). option_or new (name_offset (cond b [] (definitions_from order bytes (n - 1) (start + d.next))) i)) (sym goes) ∙ one_more

-- no definitions are left
pub none_left : (order : ByteOrder) (bytes : List ℕ) (n start i : ℕ) (now all : Option ℕ) → n ≡ 0 → option_or now (name_offset (definitions_from order bytes n start) i) ≡ all → now ≡ all
unfolding definitions_from
none_left order bytes zero start i now all none so_far = sym (or_none now) ∙ so_far
none_left order bytes (suc m) start i now all none so_far = absurd (omega (arith, none))
