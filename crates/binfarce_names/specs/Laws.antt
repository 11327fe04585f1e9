-- Laws of names: what follows from their definitions, proved in `laws`.
use Rattle.std.specs.Prelude.{◌≡◌, ℕ, ◌<◌, List, Option, Some, Bool}
use Rattle.binfarce_v0_grammar.specs.Base62.{back_reference}
use Rattle.binfarce_v0_grammar.specs.Tree.{PathTree, path_height, path_steps, path_root}
use Rattle.binfarce_v0_state.specs.TreeTexts.{name_text}
use Rattle.binfarce_v0_grammar.specs.Reading.{ReadsPath}
use Rattle.binfarce_v0_grammar.specs.Unfolding.{IsPath, UnfoldsWithin, UnfoldsTo}
use Rattle.binfarce_names.specs.Name.{Name}
use Rattle.binfarce_names.specs.Named.{IsNamed}

-- text has an answer
abbrev pub HasAnAnswer : (text : List ℕ) → Type 0
HasAnAnswer text = (name : Name) × IsNamed text name

-- text has no more than one answer
abbrev pub HasOneAnswer : (text : List ℕ) → Type 0
HasOneAnswer text = (first second : Name) → IsNamed text first → IsNamed text second → first ≡ second

-- a position unfolds to at most one tree, and up to at most one position after it
abbrev pub UnfoldsOneWay : (part : List ℕ) → Type 0
UnfoldsOneWay part =
    (first second : PathTree) (at : Option ℕ) (depth : ℕ) (first_end second_end : Option ℕ)
    → IsPath part first at depth first_end → IsPath part second at depth second_end
    → (first ≡ second) × (first_end ≡ second_end)

-- a position reads to at most one tree, and up to at most one position after it
abbrev pub ReadsOneWay : (part : List ℕ) → Type 0
ReadsOneWay part =
    (first second : PathTree) (at first_end second_end : ℕ)
    → ReadsPath part first at first_end → ReadsPath part second at second_end
    → (first ≡ second) × (first_end ≡ second_end)

-- an accepted back reference names a position strictly before its own "B"
abbrev pub NamesAnEarlierPosition : (part : List ℕ) → Type 0
NamesAnEarlierPosition part =
    (at target after : ℕ) → back_reference part at ≡ Some (target, after) → target < at

-- within any limits a mangling has the same texts and the same crate
abbrev pub KnowsNoLimit : (part : List ℕ) → Type 0
KnowsNoLimit part =
    (levels steps more_levels more_steps : ℕ) (first second : PathTree) (full : Bool)
    → UnfoldsWithin levels steps part first → UnfoldsWithin more_levels more_steps part second
    → (name_text full first ≡ name_text full second) × (path_root first ≡ path_root second)

-- the part after a prefix unfolds to a tree of so many levels and steps
pub record Counts (part : List ℕ) (levels steps : ℕ) : Type 0 where
  pub tree : PathTree
  pub unfolds : UnfoldsTo part tree
  pub levels_are : path_height tree ≡ levels
  pub steps_are : path_steps tree ≡ steps
