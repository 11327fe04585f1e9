-- What the reading and the printer do with a whole name.
use Rattle.std.proofs.Common.{◌≡◌, ℕ, ◌≤◌, ◌-◌, min, Bool, true, false, if◌then◌else◌, List, [], Option, Some, None, cond, refl, ap, sym, ◌∙◌, subst, arith}
use Rattle.std.specs.Option.{option_map}
use Rattle.binfarce_v0_state.specs.LeafTexts.{identifier_text}
use Rattle.binfarce_v0_grammar.specs.Tree.{PathTree, path_height, path_steps}
use Rattle.binfarce_v0_state.specs.TreeTexts.{InValue, name_text}
use Rattle.binfarce_v0_grammar.specs.Unfolding.{IsPath, UnfoldsTo}
use Rattle.binfarce_v0_grammar.specs.declared.limits.TheConstants.{MAX_LEVELS, MAX_STEPS}
use Rattle.binfarce_v0.specs.Mangling.{is_upper_at, HasPathAt, SecondPath, ReadsPaths, IsMangling, IsV0, part_after_prefix}
use Rattle.binfarce_v0.specs.machine.Mangling.{paths_end}
use Rattle.binfarce_v0_state.specs.machine.Outcome.{Outcome, outcome_of}
use Rattle.binfarce_v0.specs.machine.Outcome.{ReadsUpTo, HasBegun, IsOutcome, IsOutcomeOf, AreTexts}
use Rattle.binfarce_v0_state.specs.machine.Printing.{State, Printing, with_state, heard, readers, first_state, has_room}
use Rattle.binfarce_v0_grammar.specs.machine.Ends.{ends}
use Rattle.std.specs.Prelude.{MatchBool, not}
use Rattle.binfarce_v0_state.proofs.SoundForms.{readers_sound}
use Rattle.binfarce_v0_state.proofs.Complete.{path_complete}
use Rattle.binfarce_v0_state.proofs.Counting.{grown_first}
use Rattle.binfarce_v0.proofs.Folding.{path_folds}
use Rattle.binfarce_v0_grammar.proofs.ReadingSound.{ends_read, between}
use Rattle.binfarce_v0_grammar.proofs.ReadingComplete.{path_ends}

-- the whole printing of a name
abbrev pub printed : List ℕ → (full muted : Bool) (most : Option ℕ) → PathTree × State
printed part full muted most = (readers part MAX_LEVELS).path InValue 0 (first_state full muted most)

-- what is no longer left of a limit was taken
levels_taken : (levels : ℕ) → levels ≤ MAX_LEVELS → MAX_LEVELS - min MAX_LEVELS (MAX_LEVELS - levels) ≡ levels
levels_taken levels h = omega arith

steps_taken : (steps : ℕ) → steps ≤ MAX_STEPS → MAX_STEPS - (MAX_STEPS - steps) ≡ steps
steps_taken steps h = omega arith

-- a tree that ends at a position is read up to there
reads_up_to : (part : List ℕ) (tree : PathTree) (after : Option ℕ) → IsPath part tree (Some 0) 0 after → path_height tree ≤ MAX_LEVELS → ReadsUpTo part after
reads_up_to part tree None is h = tt
reads_up_to part tree (Some q) is h =
    let f = path_folds tree part 0 0 q is in record { tree = f.tree; reads = f.reads; levels = omega (arith, f.levels, h) }

-- a printing that passed no limit is that of the tree that the name unfolds to
pub printed_is_outcome : (part : List ℕ) (full muted : Bool) (most : Option ℕ) → (printed part full muted most).1.limit_exceeded ≡ false → IsOutcome part full muted most (outcome_of (printed part full muted most).1)
printed_is_outcome part full muted most o =
    let H = readers_sound part MAX_LEVELS in
    let p = printed part full muted most in
    let f = H.path InValue 0 (first_state full muted most) o in
    let within : path_steps p.0 ≤ MAX_STEPS = omega arith in
    let same = path_complete p.0 part MAX_LEVELS InValue 0 (first_state full muted most) p.1.at refl f.is f.height within in
    record {
      tree = p.0;
      unfolds = record { after = p.1.at; is_path = f.is; levels = f.height; steps = within };
      text_is = ap (λ r. r.1.text) same ∙ grown_first most (heard muted (name_text full p.0));
      trimmed_is = ap (λ r. if r.1.full then r.1.trimmed else []) same ∙ ap (λ x. if full then x else []) (grown_first most (heard muted (name_text false p.0)));
      root_is = ap (λ r. r.1.root) same;
      levels_are = ap (λ r. MAX_LEVELS - r.1.least_levels_left) same ∙ levels_taken (path_height p.0) f.height;
      steps_are = ap (λ r. MAX_STEPS - r.1.steps_left) same ∙ steps_taken (path_steps p.0) within;
      reads = reads_up_to part p.0 p.1.at f.is f.height;
    }

pub printed_over : (part : List ℕ) (full muted : Bool) (most : Option ℕ) → (printed part full muted most).1.limit_exceeded ≡ true → (tree : PathTree) → UnfoldsTo part tree → ⊥
printed_over part full muted most o tree u =
    let same = path_complete tree part MAX_LEVELS InValue 0 (first_state full muted most) u.after refl u.is_path u.levels u.steps in
    let not_over : (printed part full muted most).1.limit_exceeded ≡ false = ap (λ r. r.1.limit_exceeded) same in
    let both : true ≡ false = sym o ∙ not_over in cc

-- a path that the reading reads
pub path_is_at : (part : List ℕ) (at after : ℕ) → (ends part MAX_LEVELS).path at ≡ Some after → HasPathAt part at after
path_is_at part at after e =
    let H = ends_read part MAX_LEVELS in
    let f = H.path at after e in record { tree = f.tree; reads = f.reads; levels = f.height }

pub path_read_at : (part : List ℕ) (at after : ℕ) → HasPathAt part at after → (ends part MAX_LEVELS).path at ≡ Some after
path_read_at part at after p = path_ends p.tree part MAX_LEVELS at after p.reads p.levels

-- a first path that is known to be read need not be read again
pub first_path_known : (part : List ℕ) (first : Option ℕ) (mid : ℕ) → ReadsUpTo part first → first ≡ Some mid → (ends part MAX_LEVELS).path 0 ≡ Some mid
first_path_known part first mid reads e =
    let path_there : HasPathAt part 0 mid = subst (ReadsUpTo part) e reads in path_read_at part 0 mid path_there

second_path : (part : List ℕ) (at after : ℕ) (b : Bool) → (cond b ((ends part MAX_LEVELS).path at) (Some at)) ≡ Some after → SecondPath b part at after
second_path part at after true e = path_is_at part at after e
second_path part at after false e = cc

second_read : (part : List ℕ) (at after : ℕ) (b : Bool) → SecondPath b part at after → (cond b ((ends part MAX_LEVELS).path at) (Some at)) ≡ Some after
second_read part at after true p = path_read_at part at after p
second_read part at after false p = ap Some (sym p)

pub paths_read : (part : List ℕ) (after : ℕ) → paths_end part ≡ Some after → ReadsPaths part after
paths_read part after e =
    let b = between ((ends part MAX_LEVELS).path 0) (λ mid. cond (is_upper_at part mid) ((ends part MAX_LEVELS).path mid) (Some mid)) after e in
    record {
      mid = b.mid;
      path = path_is_at part 0 b.mid b.first;
      instantiating_crate = second_path part b.mid after (is_upper_at part b.mid) b.second;
    }

pub read_paths_at : (part : List ℕ) (after : ℕ) → ReadsPaths part after → paths_end part ≡ Some after
read_paths_at part after p =
    rw (path_read_at part 0 p.mid p.path) (second_read part p.mid after (is_upper_at part p.mid) p.instantiating_crate)

-- where no paths are read there is no mangling
pub not_mangling : (text read : List ℕ) → part_after_prefix text ≡ Some read → paths_end read ≡ None → (part : List ℕ) (after : ℕ) → IsMangling text part after → ⊥
not_mangling text read b e part after m =
    let same : read ≡ part = cc (b, m.prefix) in
    let paths = subst (λ n. ReadsPaths n after) (sym same) m.paths in
    let found = read_paths_at read after paths in cc

-- what a printing is stays the same
stays : (part : List ℕ) (full muted : Bool) (most : Option ℕ) → (printed part full muted most).1.limit_exceeded ≡ false → ((printed part full muted most).1.full ≡ full) × ((printed part full muted most).1.most ≡ most)
stays part full muted most o =
    let H = readers_sound part MAX_LEVELS in
    let p = printed part full muted most in
    let f = H.path InValue 0 (first_state full muted most) o in
    let same = path_complete p.0 part MAX_LEVELS InValue 0 (first_state full muted most) p.1.at refl f.is f.height (omega arith) in
    (ap (λ r. r.1.full) same, ap (λ r. r.1.most) same)

-- a printing within the limits, or past one
gives_outcome : (begun p : Printing) → p.part ≡ begun.part → p.state ≡ (printed begun.part begun.state.full begun.state.muted begun.state.most).1 → MatchBool (not p.state.limit_exceeded) (IsOutcomeOf begun p) ((tree : PathTree) → UnfoldsTo begun.part tree → ⊥)
gives_outcome begun p part e = by p.state e p.state.limit_exceeded refl
  where
    full : Bool
    full = begun.state.full

    muted : Bool
    muted = begun.state.muted

    most : Option ℕ
    most = begun.state.most

    by : (s : State) → s ≡ (printed begun.part full muted most).1 → (b : Bool) → s.limit_exceeded ≡ b → MatchBool (not b) ((p.part ≡ begun.part) × (s.full ≡ full) × IsOutcome begun.part full muted most (outcome_of s) × (s.most ≡ most)) ((tree : PathTree) → UnfoldsTo begun.part tree → ⊥)
    by s is true o = printed_over begun.part full muted most (ap (λ (x : State). x.limit_exceeded) (sym is) ∙ o)
    by s is false o =
        let on : (printed begun.part full muted most).1.limit_exceeded ≡ false = ap (λ (x : State). x.limit_exceeded) (sym is) ∙ o in
        let same = stays begun.part full muted most on in
        (part, ap (λ (x : State). x.full) is ∙ same.0, subst (λ (x : State). IsOutcome begun.part full muted most (outcome_of x)) (sym is) (printed_is_outcome begun.part full muted most on), ap (λ (x : State). x.most) is ∙ same.1)

pub print_gives_outcome : (begun p : Printing) → HasBegun begun → p ≡ with_state ((readers begun.part MAX_LEVELS).path InValue 0 begun.state).1 begun → MatchBool (not p.state.limit_exceeded) (IsOutcomeOf begun p) ((tree : PathTree) → UnfoldsTo begun.part tree → ⊥)
print_gives_outcome begun p is e =
    let first : begun.state ≡ first_state begun.state.full begun.state.muted begun.state.most = ap (λ (x : Printing). x.state) is.1 in
    gives_outcome begun p (ap (λ (x : Printing). x.part) e) (ap (λ (x : Printing). x.state) e ∙ ap (λ s. ((readers begun.part MAX_LEVELS).path InValue 0 s).1) first)

-- a name unfolds to one tree
pub unfolds_once : (part : List ℕ) (t u : PathTree) → UnfoldsTo part t → UnfoldsTo part u → t ≡ u
unfolds_once part t u a b =
    let first = path_complete t part MAX_LEVELS InValue 0 (first_state true false None) a.after refl a.is_path a.levels a.steps in
    let second = path_complete u part MAX_LEVELS InValue 0 (first_state true false None) b.after refl b.is_path b.levels b.steps in
    ap (λ r. r.0) (sym first ∙ second)

pub are_texts : (text part : List ℕ) (outcome : Outcome) (complete trimmed : List ℕ) (crate_name : Option (List ℕ)) → IsV0 text part → IsOutcome part true false None outcome → complete ≡ outcome.text → trimmed ≡ outcome.trimmed → crate_name ≡ option_map identifier_text outcome.root → AreTexts text complete trimmed crate_name
are_texts text part outcome complete trimmed crate_name v is c t e =
    record {
      tree = is.tree;
      has_tree = record { part = part; mangling = v; unfolds = is.unfolds };
      complete_is = c ∙ is.text_is;
      trimmed_is = t ∙ is.trimmed_is;
      crate_is = e ∙ ap (option_map identifier_text) is.root_is;
    }

-- where all is counted, the texts are whole
pub all_counted : (s : State) → s.most ≡ None → has_room s ≡ true
all_counted s e = rw e refl
