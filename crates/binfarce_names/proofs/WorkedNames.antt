-- What a text means, computed by the steps of the reading and of the printer, which find what the definitions say.
use Rattle.std.proofs.Common.{◌≡◌, ℕ, zero, suc, ◌≤◌, Bool, true, false, ◌&&◌, List, [], ◌∷◌, Some, None, drop, length, inl, inr, refl, sym, ◌∙◌, subst, arith}
use Rattle.std.specs.Prelude.{nat_lt}
use Rattle.std.specs.List.{list_all}
use Rattle.std.specs.Option.{option_map}
use Rattle.std.specs.Str.{IsAscii}
use Rattle.std.proofs.lemmas.Bool.Decides.{nat_tests}
use Rattle.std.specs.Fmt.{digits}
use Rattle.binfarce_names.specs.declared.demangle.Kind.TheVariants.{V0}
use Rattle.binfarce_v0_grammar.specs.Base62.{digit_62, base_62_number, optional_base_62_number, back_reference, hex_digits, hex_number}
use Rattle.binfarce_text.specs.Suffixes.{without_llvm, is_allowed_rest}
use Rattle.binfarce_v0_grammar.specs.Forms.{path_form, lifetime, basic_type, abi, type_form_by, type_form, const_type, has_sign, value_of, const_value, const_form}
use Rattle.binfarce_v0_grammar.specs.Identifiers.{length_at, identifier_of, identifier_bytes, undisambiguated_identifier, identifier}
use Rattle.binfarce_v0_state.specs.LeafTexts.{identifier_text}
use Rattle.binfarce_legacy.specs.Legacy as legacy_names
use Rattle.binfarce_v0.specs.Mangling.{part_after_prefix, is_upper_at, IsMangling, IsV0}
use Rattle.binfarce_names.specs.Name.{Name}
use Rattle.binfarce_names.specs.Named.{IsNotLegacy, IsNamed, unknown}
use Rattle.binfarce_v0_grammar.specs.Tree.{path_height, path_steps}
use Rattle.binfarce_v0_state.specs.LeafTexts.{lifetime_text, binder_text, nested_text, signature_text, number_text, character_text, value_text}
use Rattle.binfarce_v0_state.specs.TreeTexts.{InValue}
use Rattle.binfarce_v0_grammar.specs.Unfolding.{UnfoldsTo, bound_end}
use Rattle.binfarce_v0_grammar.specs.Punycode.{digit_of, weight, integer, scaled_bias, adapted_bias, decoder_after, text_of, punycode_decoded}
use Rattle.binfarce_names.specs.Laws.{Counts}
use Rattle.binfarce_v0_grammar.specs.machine.Ends.{const_end, bindings_end, item_end, items_end, type_end, path_end, ends}
use Rattle.binfarce_v0_grammar.specs.declared.limits.TheConstants.{MAX_LEVELS, MAX_STEPS}
use Rattle.binfarce_v0.specs.machine.Mangling.{paths_end}
use Rattle.binfarce_v0_state.specs.machine.Outcome.{outcome_of}
use Rattle.binfarce_v0_state.specs.machine.Printing.{first_state, const_rule, bindings_rule, item_rule, items_rule, type_rule, path_rule, readers}
use Rattle.binfarce_v0.proofs.Manglings.{printed, printed_is_outcome, printed_over, paths_read, not_mangling, are_texts}
use Rattle.binfarce_v0_state.proofs.SoundForms.{readers_sound}
use Rattle.binfarce_text.proofs.TextLemmas.{some_same}

-- all that a worked name computes with
unfoldable pub computing : ℕ
unfolding digits digit_62 base_62_number optional_base_62_number back_reference hex_digits hex_number without_llvm is_allowed_rest path_form lifetime basic_type abi type_form_by type_form const_type has_sign value_of const_value const_form length_at identifier_of identifier_bytes undisambiguated_identifier identifier identifier_text digit_of weight integer scaled_bias adapted_bias decoder_after text_of punycode_decoded legacy_names.part_after_prefix part_after_prefix path_height path_steps lifetime_text binder_text nested_text signature_text number_text character_text value_text bound_end const_end bindings_end item_end items_end type_end path_end ends const_rule bindings_rule item_rule items_rule type_rule path_rule readers lib.Utf8.encode
computing = 0

both : (a b : Bool) → (a && b) ≡ true → (a ≡ true) × (b ≡ true)
both true b e = (refl, e)
both false b e = cc

ascii : (text : List ℕ) → list_all (λ c. nat_lt c 128) text ≡ true → IsAscii text
ascii [] e i = omega arith
ascii (c ∷ text) e zero =
    let below = (both (nat_lt c 128) (list_all (λ c. nat_lt c 128) text) e).0 in grind (arith, nat_tests)
ascii (c ∷ text) e (suc i) = ascii text (both (nat_lt c 128) (list_all (λ c. nat_lt c 128) text) e).1 i

-- a text without the prefix of a legacy mangling
not_legacy : (text : List ℕ) → legacy_names.part_after_prefix (without_llvm text) ≡ None → IsNotLegacy text
not_legacy text e part elements rest l = let p = l.prefix in cc

-- a text whose part after the prefix reads to its end and is printed
pub means : (text part : List ℕ) (name : Name)
    → part_after_prefix (without_llvm text) ≡ Some part
    → paths_end part ≡ Some (length part)
    → (is_upper_at part 0 && (list_all (λ c. nat_lt c 128) part && is_allowed_rest (drop (length part) part))) ≡ true
    → (printed part true false None).1.limit_exceeded ≡ false
    → name ≡ record { complete = (printed part true false None).1.text; trimmed = (outcome_of (printed part true false None).1).trimmed; crate_name = option_map identifier_text (printed part true false None).1.root; kind = V0 }
    → IsNamed text name
unfolding IsNamed
means text part name b p w o e =
    let first = both (is_upper_at part 0) (list_all (λ c. nat_lt c 128) part && is_allowed_rest (drop (length part) part)) w in
    let second = both (list_all (λ c. nat_lt c 128) part) (is_allowed_rest (drop (length part) part)) first.1 in
    let mangling : IsMangling (without_llvm text) part (length part) = record { prefix = b; begins = first.0; ascii = ascii part second.0; paths = paths_read part (length part) p } in
    let is : IsV0 (without_llvm text) part = record { after = length part; mangling = mangling; rest = second.1 } in
    let texts = are_texts (without_llvm text) part (outcome_of (printed part true false None).1) _ _ (option_map identifier_text (printed part true false None).1.root) is (printed_is_outcome part true false None o) refl refl refl in
    inr (inl (record { part = texts.has_tree.part; mangling = texts.has_tree.mangling; tree = texts.tree; unfolds = texts.has_tree.unfolds; name_is = e ∙ λ i. record { complete = texts.complete_is i; trimmed = texts.trimmed_is i; crate_name = texts.crate_is i; kind = V0 } }))

-- a text whose part after the prefix passes a limit
pub means_nothing : (text part : List ℕ) → legacy_names.part_after_prefix (without_llvm text) ≡ None
    → part_after_prefix (without_llvm text) ≡ Some part → (printed part true false None).1.limit_exceeded ≡ true
    → IsNamed text (unknown text)
unfolding IsNamed
means_nothing text part l b o =
    inr (inr (record { not_legacy = not_legacy text l; no_tree = λ other tree v u. printed_over part true false None o tree (subst (λ x. UnfoldsTo x tree) (some_same other part (sym v.mangling.prefix ∙ b)) u); name_is = refl }))

-- a text whose part after the prefix doesn't read
pub means_unread : (text part : List ℕ) → legacy_names.part_after_prefix (without_llvm text) ≡ None
    → part_after_prefix (without_llvm text) ≡ Some part → paths_end part ≡ None
    → IsNamed text (unknown text)
unfolding IsNamed
means_unread text part l b p =
    inr (inr (record { not_legacy = not_legacy text l; no_tree = λ other tree v u. not_mangling (without_llvm text) part b p other v.after v.mangling; name_is = refl }))

-- levels and steps of the part after a prefix
pub counts : (part : List ℕ) (levels steps : ℕ) → (printed part true false None).1.limit_exceeded ≡ false
    → path_height (printed part true false None).0 ≡ levels → path_steps (printed part true false None).0 ≡ steps
    → Counts part levels steps
counts part levels steps o h n =
    let H = readers_sound part MAX_LEVELS in
    let f = H.path InValue 0 (first_state true false None) o in
    let within : path_steps (printed part true false None).0 ≤ MAX_STEPS = omega arith in
    record { tree = (printed part true false None).0; unfolds = record { after = (printed part true false None).1.at; is_path = f.is; levels = f.height; steps = within }; levels_are = h; steps_are = n }
