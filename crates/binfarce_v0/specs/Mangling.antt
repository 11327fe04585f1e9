-- Rust's v0 manglings (RFC 2603, "Symbol name": <symbol-name> = "_R" [<decimal-number>] <path> [<instantiating-crate>]). The number is an encoding
-- version; none is defined, so a name with one isn't read.
use Rattle.std.specs.Prelude.{◌≡◌, ℕ, ◌≤◌, List, [], ◌∷◌, Option, Some, Bool, true, false, slice_index, drop, codes}
use Rattle.std.proofs.Common.{refl, arith}
use Rattle.std.proofs.lemmas.Str.Ascii.{IsAscii-cons, IsAscii-nil}
use Rattle.std.specs.Str.{IsAscii}
use Rattle.std.specs.Char.{is_ascii_uppercase}
use Rattle.binfarce_text.specs.Suffixes.{is_allowed_rest}
use Rattle.binfarce_text.specs.Letters.{'C', 'a'}
use Rattle.binfarce_text.specs.Prefixes.{after_prefix}
use Rattle.binfarce_v0_grammar.specs.Base62.{digit_62, base_62_number, optional_base_62_number}
use Rattle.binfarce_v0_grammar.specs.Identifiers.{length_at, identifier_of, identifier_bytes, undisambiguated_identifier, identifier}
use Rattle.binfarce_v0_grammar.specs.Forms.{path_form}
use Rattle.binfarce_v0_grammar.specs.Tree.{PathTree, Crate, path_height}
use Rattle.binfarce_v0_grammar.specs.Reading.{ReadsPath}
use Rattle.binfarce_v0_grammar.specs.Unfolding.{UnfoldsTo}
use Rattle.binfarce_v0_grammar.specs.declared.limits.TheConstants.{MAX_LEVELS}

-- the part after the prefix, which is "_R", or "R" or "__R" where a platform drops or adds a "_": positions are counted from there
unfoldable pub part_after_prefix : (text : List ℕ) → Option (List ℕ)
part_after_prefix text = after_prefix (codes "_R" ∷ codes "R" ∷ codes "__R" ∷ []) text

-- a path begins with an upper-case letter
abbrev pub is_upper_at : (part : List ℕ) (at : ℕ) → Bool
is_upper_at part at = is_ascii_uppercase (slice_index part at)

-- a path of at most 500 levels (`MAX_LEVELS`) reads from a position up to another
pub record HasPathAt (part : List ℕ) (at after : ℕ) : Type 0 where
  pub tree : PathTree
  pub reads : ReadsPath part tree at after
  pub levels : path_height tree ≤ MAX_LEVELS

-- the path of the instantiating crate, if there is an upper-case letter
abbrev pub SecondPath : (is_there : Bool) (part : List ℕ) (at after : ℕ) → Type 0
SecondPath true part at after = HasPathAt part at after
SecondPath false part at after = after ≡ at

-- the one path or two of a mangling read up to a position
pub record ReadsPaths (part : List ℕ) (after : ℕ) : Type 0 where
  pub mid : ℕ
  pub path : HasPathAt part 0 mid
  pub instantiating_crate : SecondPath (is_upper_at part mid) part mid after

-- the v0 mangling that a text begins with: part follows its prefix, and after is the position in part after its paths
pub record IsMangling (text part : List ℕ) (after : ℕ) : Type 0 where
  pub prefix : part_after_prefix text ≡ Some part
  pub begins : is_upper_at part 0 ≡ true
  pub ascii : IsAscii part
  pub paths : ReadsPaths part after

-- text is a v0 mangling, and part follows its prefix
pub record IsV0 (text part : List ℕ) : Type 0 where
  pub after : ℕ
  pub mangling : IsMangling text part after
  pub rest : is_allowed_rest (drop after part) ≡ true

-- text is a v0 mangling: part follows its prefix, and rest follows its paths
abbrev pub HasRest : (text part rest : List ℕ) → Type 0
HasRest text part rest = (v : IsV0 text part) × (rest ≡ drop v.after part)

-- text is no v0 mangling that unfolds to a tree within the limits
abbrev pub HasNoTree : (text : List ℕ) → Type 0
HasNoTree text = (part : List ℕ) (tree : PathTree) → IsV0 text part → ¬ (UnfoldsTo part tree)

-- positions are counted from the letter of the first path
worked_prefix : part_after_prefix (codes "__RNvC1a1b") ≡ Some (codes "NvC1a1b")
unfolding part_after_prefix
worked_prefix = refl

-- the whole name reads: its one path ends at position 3 of the part, where nothing is left
worked_mangling : IsV0 (codes "_RC1a") (codes "C1a")
unfolding part_after_prefix is_allowed_rest ReadsPath path_height path_form base_62_number digit_62 optional_base_62_number length_at identifier_of identifier_bytes undisambiguated_identifier identifier
worked_mangling = record {
  after = 3;
  mangling = record {
    prefix = refl;
    begins = refl;
    ascii = IsAscii-cons 'C' (codes "1a") (omega arith) (IsAscii-cons 49 (codes "a") (omega arith) (IsAscii-cons 'a' [] (omega arith) IsAscii-nil));
    paths = record {
      mid = 3;
      path = record {
        tree = Crate (record { disambiguator = 0; name = record { ascii = codes "a"; punycode = [] } });
        reads = refl;
        levels = omega arith;
      };
      instantiating_crate = refl;
    };
  };
  rest = refl;
}
