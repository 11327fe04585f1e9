-- The answer of a name, by cases.
use Rattle.std.specs.Prelude.{◌≡◌, ◌++◌, ℕ, ◌⊎◌, List, [], None, true, false, option_map}
use Rattle.std.specs.Str.{encode_utf8_all}
use Rattle.binfarce_names.specs.declared.demangle.Kind.{Kind}
use Rattle.binfarce_names.specs.declared.demangle.Kind.TheVariants.{Unknown, Legacy, V0}
use Rattle.binfarce_text.specs.Suffixes.{without_llvm}
use Rattle.binfarce_legacy.specs.Legacy.{Element, IsLegacy, legacy_chars, without_last_part}
use Rattle.binfarce_v0_state.specs.LeafTexts.{identifier_text}
use Rattle.binfarce_v0.specs.Mangling.{IsV0, HasRest, HasNoTree}
use Rattle.binfarce_names.specs.Name.{Name, Mangled}
use Rattle.binfarce_v0_grammar.specs.Tree.{PathTree, path_root}
use Rattle.binfarce_v0_state.specs.TreeTexts.{name_text}
use Rattle.binfarce_v0_grammar.specs.Unfolding.{UnfoldsTo}

-- the name of a legacy mangling: complete, and without the last part of its path
abbrev pub legacy : (elements : List Element) → Name
legacy elements = record {
  complete = encode_utf8_all (legacy_chars elements);
  trimmed = encode_utf8_all (without_last_part (legacy_chars elements));
  crate_name = None;
  kind = Legacy;
}

-- a name that isn't a mangling is unchanged
abbrev pub unknown : (text : List ℕ) → Name
unknown text = record { complete = text; trimmed = text; crate_name = None; kind = Unknown }

-- text isn't a legacy mangling
abbrev pub IsNotLegacy : (text : List ℕ) → Type 0
IsNotLegacy text =
    (part : List ℕ) (elements : List Element) (rest : List ℕ)
    → ¬ (IsLegacy (without_llvm text) part elements rest)

-- the name of a v0 mangling: both texts are of one tree
abbrev pub v0 : (tree : PathTree) → Name
v0 tree = record {
  complete = name_text true tree;
  trimmed = name_text false tree;
  crate_name = option_map identifier_text (path_root tree);
  kind = V0;
}

-- text isn't a v0 mangling
abbrev pub IsNotV0 : (text : List ℕ) → Type 0
IsNotV0 text = (part : List ℕ) → ¬ (IsV0 (without_llvm text) part)

-- text is a legacy mangling, and name is the one of its elements
pub record IsLegacyName (text : List ℕ) (name : Name) : Type 0 where
  pub part : List ℕ
  pub elements : List Element
  pub rest : List ℕ
  pub mangling : IsLegacy (without_llvm text) part elements rest
  pub name_is : name ≡ legacy elements

-- text is a v0 mangling, and name is the one of the tree that it unfolds to within the limits. No text is both, since the prefixes differ
pub record IsV0Name (text : List ℕ) (name : Name) : Type 0 where
  pub part : List ℕ
  pub mangling : IsV0 (without_llvm text) part
  pub tree : PathTree
  pub unfolds : UnfoldsTo part tree
  pub name_is : name ≡ v0 tree

-- text isn't a mangling, or is a v0 mangling that unfolds to no tree within the limits; name is text itself
pub record IsUnchanged (text : List ℕ) (name : Name) : Type 0 where
  pub not_legacy : IsNotLegacy text
  pub no_tree : HasNoTree (without_llvm text)
  pub name_is : name ≡ unknown text

-- name is the answer of text
unfoldable pub IsNamed : (text : List ℕ) (name : Name) → Type 0
IsNamed text name = IsLegacyName text name ⊎ (IsV0Name text name ⊎ IsUnchanged text name)

-- rest follows the mangling in a text of this kind; a `.llvm.` suffix is no part of it, and nothing follows a name that is unchanged
abbrev pub IsRest : (kind : Kind) (text rest : List ℕ) → Type 0
IsRest Legacy text rest = (part : List ℕ) × (elements : List Element) × IsLegacy (without_llvm text) part elements rest
IsRest V0 text rest = (part : List ℕ) × HasRest (without_llvm text) part rest
IsRest Unknown text rest = rest ≡ []

-- shown is the trimmed text of the answer of text, and then the rest after the mangling, such as `.cold`
pub record IsShown (text shown : List ℕ) : Type 0 where
  pub answer : Name
  pub is_named : IsNamed text answer
  pub rest : List ℕ
  pub is_rest : IsRest answer.kind text rest
  pub shown_is : shown ≡ answer.trimmed ++ rest

-- m keeps of text the part after the prefix of a legacy mangling
pub record IsLegacyMangled (text : List ℕ) (m : Mangled) : Type 0 where
  pub elements : List Element
  pub rest : List ℕ
  pub mangling : IsLegacy (without_llvm text) m.part elements rest
  pub kind_is : m.kind ≡ Legacy

-- m keeps of text the part after the prefix of a v0 mangling
pub record IsV0Mangled (text : List ℕ) (m : Mangled) : Type 0 where
  pub mangling : IsV0 (without_llvm text) m.part
  pub kind_is : m.kind ≡ V0

-- m keeps all of text, which isn't a mangling
pub record IsNotMangled (text : List ℕ) (m : Mangled) : Type 0 where
  pub not_legacy : IsNotLegacy text
  pub not_v0 : IsNotV0 text
  pub all : m ≡ record { part = text; kind = Unknown }

-- m is the kind of text, and the part that is kept
unfoldable pub IsMangled : (text : List ℕ) (m : Mangled) → Type 0
IsMangled text m = IsLegacyMangled text m ⊎ (IsV0Mangled text m ⊎ IsNotMangled text m)
