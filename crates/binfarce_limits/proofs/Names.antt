-- The names of limits, when one more is added.
use Rattle.std.proofs.Common.{◌≡◌, ◌∙◌, ◌||◌, ◌++◌, ℕ, Bool, true, false, List, [], ◌∷◌, Option, Some, Bor, BTreeMap, cond, is_some, refl, sym, ap}
use Rattle.std.specs.BTreeMap.{get_by}
use Rattle.std.specs.Cmp.Lexicographic.{slice_cmp}
use Rattle.std.specs.Map.{update}
use Rattle.std.specs.Ordering.{nat_cmp}
use Rattle.std.specs.Str.{bytes_eq}
use Rattle.std.proofs.lemmas.List.Folds.{list_any-append}
use Rattle.binfarce_limits.specs.Reading.{is_named}
use Rattle.binfarce_limits.specs.Rows.{NameLimit}
use Rattle.binfarce_limits.specs.machine.Names.{AreNamesOf}

or_true : (x : Bool) → true ≡ (x || (true || false))
or_true true = refl
or_true false = refl

or_false : (x : Bool) → x ≡ (x || (false || false))
or_false true = refl
or_false false = refl

chosen : (b : Bool) (old : Option (Unit {0})) (named : Bool) → is_some old ≡ named → is_some (cond b (Some tt) old) ≡ (named || (b || false))
chosen true old named is = or_true named
chosen false old named is = is ∙ or_false named

abbrev at : BTreeMap (Bor (List ℕ)) (Unit {0}) → List ℕ → Option (Unit {0})
at names name = get_by (λ k. slice_cmp nat_cmp name k.now) names

pub named_more : (before all : List NameLimit) (limit : NameLimit) (old new : BTreeMap (Bor (List ℕ)) (Unit {0})) → AreNamesOf before old
    → ((name : List ℕ) → at new name ≡ update bytes_eq (at old) limit.name (Some tt) name) → all ≡ before ++ limit ∷ [] → AreNamesOf all new
named_more before all limit old new are added is name =
    ap (λ (o : Option (Unit {0})). is_some o) (added name) ∙ chosen (bytes_eq limit.name name) (at old name) (is_named before name) (are name)
    ∙ sym (list_any-append (λ (l : NameLimit). bytes_eq l.name name) before (limit ∷ []))
    ∙ ap (λ (ls : List NameLimit). is_named ls name) (sym is)
