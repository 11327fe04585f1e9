-- Whether a text is a mangling, and so the answer of each text.
use Rattle.std.proofs.Common.{◌≡◌, ◌⊎◌, ℕ, zero, suc, ◌+◌, ◌<◌, ◌≤◌, true, false, List, [], ◌∷◌, length, drop, Option, Some, None, inl, inr, refl, sym, ◌∙◌, ap, subst, arith, length-drop}
use Rattle.std.proofs.lemmas.Bool.{cases_Bool, cases_eq, cases_lt, false≢true}
use Rattle.std.proofs.lemmas.List.{drop-drop}
use Rattle.std.proofs.lemmas.Str.Ascii.{IsAscii-cons, IsAscii-nil}
use Rattle.std.specs.Str.{IsAscii}
use Rattle.binfarce_text.specs.Suffixes.{is_allowed_rest, without_llvm}
use Rattle.binfarce_text.proofs.TextLemmas.{some_same}
use Rattle.binfarce_legacy.specs.Legacy as legacy_names
use Rattle.binfarce_legacy.specs.Legacy.{Element, IsLegacy, Reads}
use Rattle.binfarce_legacy.specs.machine.Reading.{HasElement, name_end, name_start}
use Rattle.binfarce_legacy.proofs.ElementLemmas.{first, reads_element, reads_end_from, reads_more, reads_nil, reads_one_way, reads_tail}
use Rattle.binfarce_v0.specs.Mangling.{IsMangling, IsV0, is_upper_at, part_after_prefix}
use Rattle.binfarce_v0.specs.machine.Mangling.{paths_end}
use Rattle.binfarce_v0.proofs.Manglings.{not_mangling, paths_read}
use Rattle.binfarce_v0.proofs.RestLemmas.{rest_not_allowed}
use Rattle.binfarce_names.specs.declared.demangle.Kind.TheVariants.{Legacy, Unknown, V0}
use Rattle.binfarce_names.specs.Laws.{HasAnAnswer}
use Rattle.binfarce_names.specs.Name.{Mangled}
use Rattle.binfarce_names.specs.Named.{IsMangled}
use Rattle.binfarce_names.proofs.NameLemmas.{has_answer}

ascii_or_not : (bytes : List ℕ) → IsAscii bytes ⊎ ¬ (IsAscii bytes)
ascii_or_not [] = inl IsAscii-nil
ascii_or_not (b ∷ bytes) = elim (cases_lt b 128) [
  | inl below ↦ elim (ascii_or_not bytes) [ inl is ↦ inl (IsAscii-cons b bytes below is) | inr not ↦ inr (λ is. not (λ i. is (suc i))) ]
  | inr past ↦ inr (λ is. omega (arith, past, is 0))
]

-- the text is elements and `E`, and then what is left of it from a position on
abbrev pub ReadsUpTo : List ℕ → Type 0
ReadsUpTo text = (elements : List Element) × (end : ℕ) × Reads text elements (drop end text)

abbrev pub ReadsNothing : List ℕ → Type 0
ReadsNothing text = (elements : List Element) (rest : List ℕ) → ¬ (Reads text elements rest)

element_or_not : (text : List ℕ) → HasElement text ⊎ ¬ (HasElement text)
element_or_not text = elim (cases_lt 0 (name_start text)) [
  | inl some ↦ elim (cases_lt (length text) (name_end text)) [ inl past ↦ inr (λ has. omega (arith, past, has.1)) | inr within ↦ inl (some, within) ]
  | inr none ↦ inr (λ has. omega (arith, none, has.0))
]

element_is_some : (text : List ℕ) → HasElement text → 0 < name_end text
unfolding name_end
element_is_some text has = omega (arith, has.0)

reads_within : (most : ℕ) (text : List ℕ) → length text ≤ most → ReadsUpTo text ⊎ ReadsNothing text
reads_within most [] short = inr reads_nil
reads_within zero (b ∷ text) short = absurd (omega (arith, short))
reads_within (suc most) (b ∷ text) short =
    let all : List ℕ = b ∷ text in
    elim (cases_eq b 69) [
      | inl end ↦ inl ([], 1, reads_end_from all end)
      | inr other ↦ elim (element_or_not all) [
        | inl has ↦
            let end : ℕ = name_end all in
            elim (reads_within most (drop end all) (omega (arith, short, length-drop end all, element_is_some all has))) [
              | inl reads ↦ inl (first all ∷ reads.0, end + reads.1, reads_more all reads.0 (drop (end + reads.1) all) has (subst (Reads (drop end all) reads.0) (drop-drop reads.1 end all) reads.2))
              | inr none ↦ inr (λ elements rest reads. let tail = reads_tail all elements rest other reads in none tail.0 rest tail.1)
            ]
        | inr none ↦ inr (λ elements rest reads. none (reads_element all elements rest other reads))
      ]
    ]

pub reads_or_not : (text : List ℕ) → ReadsUpTo text ⊎ ReadsNothing text
reads_or_not text = reads_within (length text) text (omega arith)

-- where a part follows a prefix, no other part does
no_other : (a : Option (List ℕ)) (part other : List ℕ) → a ≡ Some part → a ≡ Some other → part ≡ other
no_other a part other is also = some_same part other (sym is ∙ also)

abbrev IsSomeLegacy : List ℕ → Type 0
IsSomeLegacy text = (part : List ℕ) × (elements : List Element) × (rest : List ℕ) × IsLegacy text part elements rest

abbrev IsNoLegacy : List ℕ → Type 0
IsNoLegacy text = (part : List ℕ) (elements : List Element) (rest : List ℕ) → ¬ (IsLegacy text part elements rest)

legacy_or_not : (text : List ℕ) → IsSomeLegacy text ⊎ IsNoLegacy text
legacy_or_not text = by (legacy_names.part_after_prefix text) refl
  where
    same : (part other : List ℕ) (elements : List Element) (rest : List ℕ) → legacy_names.part_after_prefix text ≡ Some part → IsLegacy text other elements rest → other ≡ part
    same part other elements rest after is = no_other (legacy_names.part_after_prefix text) other part is.prefix after

    by : (after : Option (List ℕ)) → legacy_names.part_after_prefix text ≡ after → IsSomeLegacy text ⊎ IsNoLegacy text
    by None after = inr (λ other elements rest is. let both = sym after ∙ is.prefix in absurd cc)
    by (Some part) after = elim (ascii_or_not part) [
      | inl ascii ↦ elim (reads_or_not part) [
        | inl reads ↦ elim (cases_Bool (is_allowed_rest (drop reads.1 part))) [
          | inl allowed ↦ inl (part, reads.0, drop reads.1 part, record { prefix = after; ascii = ascii; reads = reads.2; allowed = allowed })
          | inr refused ↦ inr (λ other elements rest is.
              let here : Reads part elements rest = subst (λ x. Reads x elements rest) (same part other elements rest after is) is.reads in
              false≢true (sym refused ∙ ap is_allowed_rest (reads_one_way part reads.0 elements (drop reads.1 part) rest reads.2 here).1 ∙ is.allowed))
        ]
        | inr none ↦ inr (λ other elements rest is. none elements rest (subst (λ x. Reads x elements rest) (same part other elements rest after is) is.reads))
      ]
      | inr not ↦ inr (λ other elements rest is. not (subst IsAscii (same part other elements rest after is) is.ascii))
    ]

abbrev IsNoV0 : List ℕ → Type 0
IsNoV0 text = (part : List ℕ) → ¬ (IsV0 text part)

v0_or_not : (text : List ℕ) → ((part : List ℕ) × IsV0 text part) ⊎ IsNoV0 text
v0_or_not text = by (part_after_prefix text) refl
  where
    same : (part other : List ℕ) → part_after_prefix text ≡ Some part → IsV0 text other → other ≡ part
    same part other after is = no_other (part_after_prefix text) other part is.mangling.prefix after

    ends : (part : List ℕ) → part_after_prefix text ≡ Some part → is_upper_at part 0 ≡ true → IsAscii part → (end : Option ℕ) → paths_end part ≡ end → ((part : List ℕ) × IsV0 text part) ⊎ IsNoV0 text
    ends part after begins ascii None none = inr (λ other is. not_mangling text part after none other is.after is.mangling)
    ends part after begins ascii (Some end) reads =
        let mangling : IsMangling text part end = record { prefix = after; begins = begins; ascii = ascii; paths = paths_read part end reads } in
        elim (cases_Bool (is_allowed_rest (drop end part))) [
          | inl allowed ↦ inl (part, record { after = end; mangling = mangling; rest = allowed })
          | inr refused ↦ inr (rest_not_allowed text part end mangling refused)
        ]

    by : (after : Option (List ℕ)) → part_after_prefix text ≡ after → ((part : List ℕ) × IsV0 text part) ⊎ IsNoV0 text
    by None after = inr (λ other is. let both = sym after ∙ is.mangling.prefix in absurd cc)
    by (Some part) after = elim (cases_Bool (is_upper_at part 0)) [
      | inl begins ↦ elim (ascii_or_not part) [
        | inl ascii ↦ ends part after begins ascii (paths_end part) refl
        | inr not ↦ inr (λ other is. not (subst IsAscii (same part other after is) is.mangling.ascii))
      ]
      | inr not ↦ inr (λ other is. false≢true (sym not ∙ ap (λ x. is_upper_at x 0) (sym (same part other after is)) ∙ is.mangling.begins))
    ]

-- each text has an answer
pub answers : (text : List ℕ) → HasAnAnswer text
unfolding IsMangled
answers text = elim (legacy_or_not (without_llvm text)) [
  | inl is ↦
      has_answer text (let m : Mangled = record { part = is.0; kind = Legacy } in m) (inl (record { elements = is.1; rest = is.2; mangling = is.3; kind_is = refl }))
  | inr not ↦ elim (v0_or_not (without_llvm text)) [
    | inl is ↦ has_answer text (let m : Mangled = record { part = is.0; kind = V0 } in m) (inr (inl (record { mangling = is.1; kind_is = refl })))
    | inr neither ↦ has_answer text (let m : Mangled = record { part = text; kind = Unknown } in m) (inr (inr (record { not_legacy = not; not_v0 = neither; all = refl })))
  ]
]
