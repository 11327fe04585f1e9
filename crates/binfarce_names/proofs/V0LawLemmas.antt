-- The laws of v0 names.
use Rattle.std.proofs.Common.{◌≡◌, ℕ, ◌+◌, ◌<◌, Bool, true, false, List, [], Option, Some, None, cond, nat_lt, max, refl, ap, sym, ◌∙◌, arith}
use Rattle.std.proofs.lemmas.Bool.Decides.{nat_tests}
use Rattle.binfarce_text.specs.Steps.{◌>>=◌}
use Rattle.binfarce_v0_grammar.specs.Base62.{base_62_number, back_reference}
use Rattle.binfarce_v0_grammar.specs.Tree.{path_height, path_steps, path_root}
use Rattle.binfarce_v0_state.specs.TreeTexts.{name_text, InValue}
use Rattle.binfarce_names.specs.Laws.{UnfoldsOneWay, ReadsOneWay, NamesAnEarlierPosition, KnowsNoLimit}
use Rattle.binfarce_v0_state.specs.machine.Printing.{State}
use Rattle.binfarce_v0_state.proofs.Complete.{path_complete}
use Rattle.binfarce_v0_grammar.proofs.ReadingTrees.{reads_one_tree}

-- a printing from a position with some steps
abbrev from : Option ℕ → ℕ → State
from at steps_left =
    record { at = at; steps_left = steps_left; least_levels_left = 0; limit_exceeded = false; text = []; trimmed = []; muted = false; full = true; in_back_reference = false; root = None; most = None }

pub unfolds_one : (name : List ℕ) → UnfoldsOneWay name
unfolds_one name t u at depth a b p q =
    let l = max (path_height t) (path_height u) in
    let n = max (path_steps t) (path_steps u) in
    let first = path_complete t name l InValue depth (from at n) a refl p (omega arith) (omega arith) in
    let second = path_complete u name l InValue depth (from at n) b refl q (omega arith) (omega arith) in
    let both = sym first ∙ second in (ap (λ r. r.0) both, ap (λ r. r.1.at) both)

pub reads_one : (name : List ℕ) → ReadsOneWay name
reads_one name t u at a b p q = reads_one_tree name t u at a b p q

pub earlier_position : (name : List ℕ) → NamesAnEarlierPosition name
unfolding back_reference
earlier_position name at target after e = by (base_62_number name (at + 1)) e
  where
    kept : (r : ℕ × ℕ) (b : Bool) → nat_lt r.0 at ≡ b → cond b (Some r) None ≡ Some (target, after) → target < at
    kept r true t h =
        let below : r.0 < at = grind (arith, nat_tests) in
        let same : ◌≡◌ {A = ℕ × ℕ} r (target, after) = cc in
        let value : r.0 ≡ target = ap (λ x. x.0) same in omega arith
    kept r false t h = cc

    by : (o : Option (ℕ × ℕ)) → (o >>= λ r. cond (nat_lt r.0 at) (Some r) None) ≡ Some (target, after) → target < at
    by None h = cc
    by (Some r) h = kept r (nat_lt r.0 at) refl h

pub no_limit : (name : List ℕ) → KnowsNoLimit name
no_limit name levels steps more_levels more_steps t u full a b =
    let same = (unfolds_one name t u (Some 0) 0 a.after b.after a.is_path b.is_path).0 in
    (ap (name_text full) same, ap path_root same)
