-- What a printing keeps of its own text, to write it again where a back reference asks for it.
use Rattle.std.specs.Prelude.{◌≡◌, ℕ, ◌-◌, ◌≤◌, List, Option, Some, Bool, true, false, length, slice_range, max, min}
use Rattle.binfarce_v0_grammar.specs.Tree.{PathTree, TypeTree, ConstTree, path_steps, type_steps, const_steps, path_height, type_height, const_height}
use Rattle.binfarce_v0_state.specs.TreeTexts.{Position, path_text, type_text, const_text, is_left_open}
use Rattle.binfarce_v0_grammar.specs.Unfolding.{IsPath, IsType, IsConst}
use Rattle.binfarce_v0_state.specs.machine.View.{position_view}
use Rattle.binfarce_v0_state.specs.machine.Printing.{State, Readers, write_both, has_room}
use Rattle.binfarce_v0_state.specs.declared.fragments.FragmentKey as key
use Rattle.binfarce_v0_state.specs.declared.fragments.Fragment as fragment
use Rattle.binfarce_v0_state.specs.declared.fragments.Mark as mark
use Rattle.binfarce_v0_state.specs.declared.fragments.Production as production
use Rattle.binfarce_v0_state.specs.declared.fragments.Production.TheVariants as productions

-- what is kept: a path as it is shown in a position, a type or a const
pub data Production : Type 0 where
  PathProduction : Position → Production
  TypeProduction : Production
  ConstProduction : Production

abbrev pub production_view : production.Production → Production
production_view (productions.Path position) = PathProduction (position_view position)
production_view productions.Type = TypeProduction
production_view productions.Const = ConstProduction

abbrev pub TreeOf : Production → Type 0
TreeOf (PathProduction position) = PathTree
TreeOf TypeProduction = TypeTree
TreeOf ConstProduction = ConstTree

abbrev pub Unfolds : (production : Production) → List ℕ → TreeOf production → Option ℕ → ℕ → Option ℕ → Type 0
Unfolds (PathProduction position) part t at binder_depth after = IsPath part t at binder_depth after
Unfolds TypeProduction part t at binder_depth after = IsType part t at binder_depth after
Unfolds ConstProduction part t at binder_depth after = IsConst part t at after

abbrev pub text_of : (production : Production) → Bool → TreeOf production → ℕ → List ℕ
text_of (PathProduction position) full t binder_depth = path_text full t position binder_depth
text_of TypeProduction full t binder_depth = type_text full t binder_depth
text_of ConstProduction full t binder_depth = const_text t

abbrev pub steps_of : (production : Production) → TreeOf production → ℕ
steps_of (PathProduction position) t = path_steps t
steps_of TypeProduction t = type_steps t
steps_of ConstProduction t = const_steps t

abbrev pub height_of : (production : Production) → TreeOf production → ℕ
height_of (PathProduction position) t = path_height t
height_of TypeProduction t = type_height t
height_of ConstProduction t = const_height t

abbrev pub left_open_of : (production : Production) → TreeOf production → Bool
left_open_of (PathProduction position) t = is_left_open t position
left_open_of TypeProduction t = false
left_open_of ConstProduction t = false

-- the reader of a sort
abbrev pub read : Readers → (production : Production) → ℕ → State → TreeOf production × State
read R (PathProduction position) binder_depth s = R.path position binder_depth s
read R TypeProduction binder_depth s = R.ty binder_depth s
read R ConstProduction binder_depth s = R.constant s

-- the text from `start` to `end` is that of the tree that a position unfolds to, without invalid syntax at its end, and the trimmed text from
-- `trimmed_start` to `trimmed_end` is that of the same tree; nothing is claimed of either where it was muted
pub record Kept (part : List ℕ) (full : Bool) (text trimmed : List ℕ) (production : Production) (at binder_depth start end trimmed_start trimmed_end steps height : ℕ) (left_open muted : Bool) : Type 0 where
  pub tree : TreeOf production
  pub after : ℕ
  pub is : Unfolds production part tree (Some at) binder_depth (Some after)
  pub within : end ≤ length text
  pub text_is : muted ≡ false → slice_range text start end ≡ text_of production full tree binder_depth
  pub trimmed_within : trimmed_end ≤ length trimmed
  pub trimmed_is : muted ≡ false → slice_range trimmed trimmed_start trimmed_end ≡ text_of production false tree binder_depth
  pub steps_is : steps_of production tree ≡ steps
  pub height_is : height_of production tree ≡ height
  pub open_is : left_open_of production tree ≡ left_open

-- the fields of a fragment are true of it
abbrev pub IsKept : List ℕ → Bool → (text trimmed : List ℕ) → fragment.Fragment → Type 0
IsKept part full text trimmed f =
    Kept part full text trimmed (production_view f.key.production) f.key.at f.key.binder_depth f.start f.end f.trimmed_start f.trimmed_end f.steps f.height f.left_open f.muted

-- a fragment is what a back reference asks for
abbrev pub IsFragmentFor : List ℕ → State → key.FragmentKey → fragment.Fragment → Type 0
IsFragmentFor part s a f =
    Kept part s.full s.text s.trimmed (production_view a.production) a.at a.binder_depth f.start f.end f.trimmed_start f.trimmed_end f.steps f.height f.left_open f.muted

-- the least number of levels is counted anew from a number of levels on, and the old one joins
abbrev pub raised : ℕ → State → State
raised levels_left s = record s { least_levels_left = max s.least_levels_left levels_left }

abbrev pub lowered : ℕ → State → State
lowered least_levels_left s = record s { least_levels_left = min least_levels_left s.least_levels_left }

-- what a fragment holds of both texts is written again
abbrev pub again : fragment.Fragment → State → State
again f s = write_both (slice_range s.text f.start f.end) (slice_range s.trimmed f.trimmed_start f.trimmed_end) s

-- the state of a printing at a mark
abbrev pub IsMark : State → mark.Mark → Type 0
IsMark s m = (s.at ≡ Some m.at) × (m.start ≡ length s.text) × (m.trimmed_start ≡ length s.trimmed) × (m.steps_left ≡ s.steps_left) × (m.least_levels_left ≡ s.least_levels_left)

-- what was printed since a mark may be kept, where the texts are whole
abbrev pub MayKeep : List ℕ → State → mark.Mark → ℕ → ℕ → Production → Bool → Type 0
MayKeep part s m levels_left binder_depth production left_open =
    (after : ℕ) → s.at ≡ Some after → s.limit_exceeded ≡ false → has_room s ≡ true → Kept part s.full s.text s.trimmed production m.at binder_depth m.start (length s.text) m.trimmed_start (length s.trimmed) (m.steps_left - s.steps_left) (levels_left - s.least_levels_left) left_open s.muted
