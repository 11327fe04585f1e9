-- A name that is printed before it is known to be a mangling.
use Rattle.std.proofs.Common.{◌≡◌, ℕ, List, Some, None, Bool, true, false, drop, ap, subst, sym, ◌∙◌}
use Rattle.std.specs.Prelude.{MatchBool}
use Rattle.binfarce_text.specs.Suffixes.{is_allowed_rest}
use Rattle.binfarce_text.proofs.TextLemmas.{some_same}
use Rattle.binfarce_v0_grammar.specs.Tree.{PathTree}
use Rattle.binfarce_v0_grammar.specs.Unfolding.{UnfoldsTo}
use Rattle.binfarce_v0.specs.Mangling.{part_after_prefix, IsMangling, HasRest, HasNoTree}
use Rattle.binfarce_v0.specs.machine.Mangling.{paths_end}
use Rattle.binfarce_v0.specs.machine.Outcome.{IsCandidate}
use Rattle.binfarce_v0.proofs.Manglings.{not_mangling, paths_read}
use Rattle.binfarce_v0.proofs.RestLemmas.{rest_not_allowed}

pub no_mangling : (text : List ℕ) → ((part : List ℕ) (after : ℕ) → IsMangling text part after → ⊥) → HasNoTree text
no_mangling text h part tree v u = h part v.after v.mangling

pub past_limit : (text part : List ℕ) → part_after_prefix text ≡ Some part → ((tree : PathTree) → UnfoldsTo part tree → ⊥) → HasNoTree text
past_limit text p e h part tree v u = h tree (subst (λ x. UnfoldsTo x tree) (some_same part p (sym v.mangling.prefix ∙ e)) u)

pub no_paths : (text part : List ℕ) → part_after_prefix text ≡ Some part → paths_end part ≡ None → HasNoTree text
no_paths text p e none part tree v u = not_mangling text p e none part v.after v.mangling

mangles : (text part : List ℕ) (after : ℕ) → IsCandidate text part → paths_end part ≡ Some after → IsMangling text part after
mangles text part after is ends = record { prefix = is.0; begins = is.1; ascii = is.2; paths = paths_read part after ends }

-- what follows the paths of a candidate decides whether it is a mangling
pub bad_rest : (text part : List ℕ) (after : ℕ) → IsCandidate text part → paths_end part ≡ Some after → is_allowed_rest (drop after part) ≡ false → HasNoTree text
bad_rest text p after is ends bad part tree v u = rest_not_allowed text p after (mangles text p after is ends) bad part v

pub good_rest : (text part rest : List ℕ) (after : ℕ) → IsCandidate text part → paths_end part ≡ Some after → rest ≡ drop after part → is_allowed_rest rest ≡ true → HasRest text part rest
good_rest text part rest after is ends e allowed =
    (record { after = after; mangling = mangles text part after is ends; rest = ap is_allowed_rest (sym e) ∙ allowed }, e)

-- the meaning of a test
pub when : (b : Bool) (P Q : Type 0) → b ≡ true → MatchBool b P Q → P
when true P Q e h = h
when false P Q e h = absurd cc

pub unless : (b : Bool) (P Q : Type 0) → b ≡ false → MatchBool b P Q → Q
unless false P Q e h = h
unless true P Q e h = absurd cc
