-- The code section, as a loop over the sections finds it.
use Rattle.std.proofs.Common.{◌≡◌, ℕ, ◌+◌, ◌<◌, ◌≤◌, Bool, true, false, cond, List, ◌∷◌, length, get_or, drop, map, Some, None, sym, ap, ◌∙◌}
use Rattle.std.proofs.lemmas.List.{drop_more, drop_all}
use Rattle.binfarce_macho.specs.MachoSections.{NumberedSection}
use Rattle.binfarce_macho.specs.MachoSelection.{code_among, is_code, numbered_view}
use Rattle.binfarce_macho.specs.declared.numbered.NumberedSection as code

module _ (sections : List code.NumberedSection) (k : ℕ) (section : code.NumberedSection) (lt : k < length sections) (is : section ≡ get_or sections k section) where
  abbrev others : List NumberedSection
  others = map numbered_view (drop (k + 1) sections)

  next : code_among k (map numbered_view (drop k sections)) ≡ code_among k (numbered_view section ∷ others)
  next =
      ap (λ (left : List code.NumberedSection). code_among k (map numbered_view left)) (drop_more sections k section lt)
      ∙ ap (λ (s : code.NumberedSection). code_among k (numbered_view s ∷ others)) (sym is)

  -- it is the next section
  pub code_here : is_code (numbered_view section).name ≡ true → code_among k (map numbered_view (drop k sections)) ≡ Some (record { index = k; size = section.extent.size })
  unfolding code_among
  code_here this = next ∙ ap (λ (b : Bool). cond b (Some (record { index = k; size = section.extent.size })) (code_among (k + 1) others)) this

  -- or it is another
  pub code_further : is_code (numbered_view section).name ≡ false → code_among (k + 1) (map numbered_view (drop (k + 1) sections)) ≡ code_among k (map numbered_view (drop k sections))
  unfolding code_among
  code_further other = sym (next ∙ ap (λ (b : Bool). cond b (Some (record { index = k; size = section.extent.size })) (code_among (k + 1) others)) other)

-- or there is none
pub none_left : (sections : List code.NumberedSection) (k : ℕ) → length sections ≤ k → code_among k (map numbered_view (drop k sections)) ≡ None
unfolding code_among
none_left sections k past = ap (λ (left : List code.NumberedSection). code_among k (map numbered_view left)) (drop_all k sections past)
