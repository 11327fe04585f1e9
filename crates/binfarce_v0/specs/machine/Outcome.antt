-- The outcome of a whole printing.
use Rattle.std.specs.Prelude.{◌≡◌, ◌⊎◌, ℕ, List, [], if◌then◌else◌, Option, Some, None, Bool, true, false, ⊤}
use Rattle.std.specs.Option.{option_map}
use Rattle.std.specs.Str.{IsAscii}
use Rattle.binfarce_v0_grammar.specs.Tree.{PathTree, path_height, path_steps, path_root}
use Rattle.binfarce_v0_state.specs.LeafTexts.{identifier_text}
use Rattle.binfarce_v0_state.specs.TreeTexts.{name_text}
use Rattle.binfarce_v0_grammar.specs.Unfolding.{UnfoldsTo}
use Rattle.binfarce_v0.specs.Mangling.{HasPathAt, IsV0, HasNoTree, part_after_prefix, is_upper_at}
use Rattle.binfarce_v0_state.specs.machine.Counted.{counted}
use Rattle.binfarce_v0_state.specs.machine.Outcome.{Outcome, outcome_of}
use Rattle.binfarce_v0_state.specs.machine.Printing.{Printing, first_printing, heard}

-- where a position is known, the first path of a name reads up to it
abbrev pub ReadsUpTo : List ℕ → Option ℕ → Type 0
ReadsUpTo part None = ⊤
ReadsUpTo part (Some after) = HasPathAt part 0 after

-- text may be a v0 mangling, and part follows its prefix
abbrev pub IsCandidate : (text part : List ℕ) → Type 0
IsCandidate text part = (part_after_prefix text ≡ Some part) × (is_upper_at part 0 ≡ true) × IsAscii part

-- the outcome has the text, the trimmed one where both were printed, the crate root, the levels and the steps of the tree that a name unfolds to
-- within the limits; no text where it was muted, and of each text the bytes that are counted
pub record IsOutcome (part : List ℕ) (full muted : Bool) (most : Option ℕ) (outcome : Outcome) : Type 0 where
  pub tree : PathTree
  pub unfolds : UnfoldsTo part tree
  pub text_is : outcome.text ≡ counted most (heard muted (name_text full tree))
  pub trimmed_is : outcome.trimmed ≡ (if full then counted most (heard muted (name_text false tree)) else [])
  pub root_is : outcome.root ≡ path_root tree
  pub levels_are : outcome.levels ≡ path_height tree
  pub steps_are : outcome.steps ≡ path_steps tree
  pub reads : ReadsUpTo part outcome.after

-- a printing is at its beginning, and what it prints is ASCII
abbrev pub HasBegun : Printing → Type 0
HasBegun p = IsAscii p.part × (p ≡ first_printing p.part p.state.full p.state.muted p.state.most)

-- what a printing that was at its beginning has printed is the outcome of its part
abbrev pub IsOutcomeOf : (begun printed : Printing) → Type 0
IsOutcomeOf begun printed =
    (printed.part ≡ begun.part) × (printed.state.full ≡ begun.state.full) × IsOutcome begun.part begun.state.full begun.state.muted begun.state.most (outcome_of printed.state)
    × (printed.state.most ≡ begun.state.most)

-- text is a v0 mangling that unfolds to a tree within the limits
pub record HasTree (text : List ℕ) (tree : PathTree) : Type 0 where
  pub part : List ℕ
  pub mangling : IsV0 text part
  pub unfolds : UnfoldsTo part tree

-- the crate root of the tree that a text unfolds to within the limits, or none if there is no such tree
abbrev pub IsCrateName : List ℕ → Option (List ℕ) → Type 0
IsCrateName text crate_name =
    ((tree : PathTree) × HasTree text tree × (crate_name ≡ option_map identifier_text (path_root tree)))
    ⊎ (HasNoTree text × (crate_name ≡ None))

-- both texts and the crate are those of one tree that a text unfolds to within the limits
pub record AreTexts (text complete trimmed : List ℕ) (crate_name : Option (List ℕ)) : Type 0 where
  pub tree : PathTree
  pub has_tree : HasTree text tree
  pub complete_is : complete ≡ name_text true tree
  pub trimmed_is : trimmed ≡ name_text false tree
  pub crate_is : crate_name ≡ option_map identifier_text (path_root tree)
