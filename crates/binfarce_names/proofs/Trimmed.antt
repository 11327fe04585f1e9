-- The answers for a name: its record, a text that grows by its trimmed text, and its crate.
use Rattle.std.proofs.Common.{◌≡◌, ◌<◌, ◌≤◌, ℕ, Bool, false, length, nat_lt, arith, List, [], ◌++◌, Option, Some, Result, Ok, Err, true, inl, inr, refl, ap, sym, subst, ◌∙◌}
use Rattle.std.specs.Prelude.{OnOk, encode_utf8_all, if◌then◌else◌}
use Rattle.std.specs.Result.{is_ok}
use Rattle.std.proofs.lemmas.Bool.Decides.{nat_tests}
use Rattle.binfarce_names.specs.declared.demangle.Kind.TheVariants.{V0}
use Rattle.binfarce_text.specs.Suffixes.{without_llvm}
use Rattle.binfarce_legacy.specs.Legacy.{Element, Reads, IsLegacy, legacy_chars, without_last_part}
use Rattle.binfarce_v0_grammar.specs.Tree.{PathTree}
use Rattle.binfarce_v0.specs.Mangling.{IsV0, HasRest, HasNoTree}
use Rattle.binfarce_v0_state.specs.machine.Outcome.{Outcome}
use Rattle.binfarce_v0.specs.machine.Outcome.{HasTree, IsOutcome, IsCrateName, AreTexts}
use Rattle.binfarce_names.specs.Crates.{GrowsByCrate, crate_of, path_crate}
use Rattle.binfarce_v0_state.specs.TreeTexts.{name_text}
use Rattle.binfarce_v0_state.specs.machine.Counted.{is_whole}
use Rattle.binfarce_v0_state.proofs.Counting.{whole_or}
use Rattle.binfarce_names.specs.Name.{Name, short_or, text_of}
use Rattle.binfarce_names.specs.Named.{IsNotLegacy, IsNamed, IsRest, legacy, unknown, v0}

-- the old text, and then the trimmed text of a name's answer; and the rest after its mangling
abbrev pub Grows : (text rest old new : List ℕ) → Type 0
Grows text rest old new = (n : Name) × IsNamed text n × IsRest n.kind text rest × (new ≡ old ++ n.trimmed)

-- the same with either text, and with the name itself in place of a text that isn't counted whole
abbrev pub GrowsBy : Bool → Option ℕ → (text rest old new : List ℕ) → Type 0
GrowsBy full most text rest old new = (n : Name) × IsNamed text n × IsRest n.kind text rest × (new ≡ old ++ (if is_whole most (text_of full n) then text_of full n else text))

-- what a push that succeeds leaves
pub pushed : {T E : Type 0} (r : Result T E) (old new part : List ℕ) (Q : Type 0) → (new ≡ old ++ part → Q) → new ≡ (if is_ok r then old ++ part else old) → OnOk r Q
pushed (Ok x) old new part Q f h = f h
pushed (Err e) old new part Q f h = tt

-- what holds of a call that succeeds
pub on_ok : {T E : Type 0} (P Q : Type 0) (r : Result T E) → (P → Q) → OnOk r P → OnOk r Q
on_ok P Q (Ok x) f h = f h
on_ok P Q (Err e) f h = tt

-- text is a name without LLVM's suffix, and isn't a legacy mangling
pub record IsOther (name text : List ℕ) : Type 0 where
  pub stripped : text ≡ without_llvm name
  pub not_legacy : (part : List ℕ) (elements : List Element) (rest : List ℕ) → IsLegacy text part elements rest → ⊥

other_not_legacy : (name text : List ℕ) → IsOther name text → IsNotLegacy name
other_not_legacy name text o =
    subst (λ t. (part : List ℕ) (elements : List Element) (rest : List ℕ) → IsLegacy t part elements rest → ⊥) o.stripped o.not_legacy

pub named_legacy : (name text part rest : List ℕ) (elements : List Element) (n : Name) → text ≡ without_llvm name → IsLegacy text part elements rest → n ≡ legacy elements → IsNamed name n
unfolding IsNamed
named_legacy name text part rest elements n e is same =
    inl (record { part = part; elements = elements; rest = rest; mangling = subst (λ t. IsLegacy t part elements rest) e is; name_is = same })

pub named_v0 : (name text : List ℕ) (tree : PathTree) (n : Name) → IsOther name text → HasTree text tree → n ≡ v0 tree → IsNamed name n
unfolding IsNamed
named_v0 name text tree n o t same =
    inr (inl (record { part = t.part; mangling = subst (λ s. IsV0 s t.part) o.stripped t.mangling; tree = tree; unfolds = t.unfolds; name_is = same }))

-- the texts of a tree are those of a name
pub named_texts : (name text complete trimmed : List ℕ) (crate_name : Option (List ℕ)) → IsOther name text → AreTexts text complete trimmed crate_name
    → IsNamed name (record { complete = complete; trimmed = trimmed; crate_name = crate_name; kind = V0 })
named_texts name text complete trimmed crate_name o t =
    named_v0 name text t.tree _ o t.has_tree (rw (t.complete_is, t.trimmed_is, t.crate_is) refl)

pub named_unchanged : (name text : List ℕ) (n : Name) → IsOther name text → HasNoTree text → n ≡ unknown name → IsNamed name n
unfolding IsNamed
named_unchanged name text n o none same =
    inr (inr (record { not_legacy = other_not_legacy name text o; no_tree = subst HasNoTree o.stripped none; name_is = same }))

-- the path of a legacy mangling without its last part was written
pub legacy_grows : (name text part rest : List ℕ) (elements : List Element) (old new : List ℕ) → text ≡ without_llvm name → IsLegacy text part elements rest
    → ((elements : List Element) (rest : List ℕ) → Reads part elements rest → new ≡ old ++ encode_utf8_all (without_last_part (legacy_chars elements)))
    → Grows name rest old new
legacy_grows name text part rest elements old new e is grown =
    (legacy elements, named_legacy name text part rest elements (legacy elements) e is refl, (part, elements, subst (λ t. IsLegacy t part elements rest) e is), grown elements rest is.reads)

tree_text : (full : Bool) (tree : PathTree) → name_text full tree ≡ text_of full (v0 tree)
tree_text true tree = refl
tree_text false tree = refl

-- the text of a tree was written
pub tree_grows : (full : Bool) (most : Option ℕ) (name text part rest : List ℕ) (outcome : Outcome) (old new : List ℕ) → IsOther name text → HasRest text part rest → IsOutcome part full false most outcome
    → new ≡ old ++ (if is_whole most outcome.text then outcome.text else name) → GrowsBy full most name rest old new
tree_grows full most name text part rest outcome old new o v is grown =
    let has : HasTree text is.tree = record { part = part; mangling = v.0; unfolds = is.unfolds } in
    let whole : List ℕ → List ℕ = λ t. if is_whole most t then t else name in (
      v0 is.tree,
      named_v0 name text is.tree (v0 is.tree) o has refl,
      (part, subst (λ s. HasRest s part rest) o.stripped v),
      grown ∙ ap (λ (t : List ℕ). old ++ t) (ap whole is.text_is ∙ whole_or most (name_text full is.tree) name ∙ ap whole (tree_text full is.tree)),
    )

pub either : (b : Bool) (text : List ℕ) → (if b then text else text) ≡ text
either true text = refl
either false text = refl

unchanged_text : (full : Bool) (most : Option ℕ) (name : List ℕ) → (if is_whole most (text_of full (unknown name)) then text_of full (unknown name) else name) ≡ name
unchanged_text true most name = either (is_whole most name) name
unchanged_text false most name = either (is_whole most name) name

-- an unchanged name was written
pub unchanged_grows : (full : Bool) (most : Option ℕ) (name text old new : List ℕ) → IsOther name text → HasNoTree text → new ≡ old ++ name → GrowsBy full most name [] old new
unchanged_grows full most name text old new o none grown =
    (unknown name, named_unchanged name text (unknown name) o none refl, refl, grown ∙ ap (λ (t : List ℕ). old ++ t) (sym (unchanged_text full most name)))

-- an empty text was replaced by that of a name
pub replaced : (full : Bool) (below : ℕ) (name rest old new : List ℕ) → old ≡ [] → GrowsBy full (Some below) name rest old new → (n : Name) × IsNamed name n × (new ≡ short_or below name (text_of full n))
replaced full below name rest old new empty g = (g.0, g.1, g.3 ∙ ap (λ (t : List ℕ). t ++ short_or below name (text_of full g.0)) empty)

-- a short text stays, and a long one is replaced by a name
pub short_stays : (below : ℕ) (name text whole : List ℕ) → length text < below → text ≡ whole → text ≡ short_or below name whole
short_stays below name text whole short same =
    let is : nat_lt (length text) below ≡ true = grind (arith, nat_tests, short) in
    rw (← same, is) refl

pub long_goes : (below : ℕ) (name text whole new : List ℕ) → below ≤ length text → text ≡ whole → new ≡ name → new ≡ short_or below name whole
long_goes below name text whole new long same named =
    let is : nat_lt (length text) below ≡ false = grind (arith, nat_tests, long) in
    rw (← same, is) named

-- a name has an answer, and a text grew by its crate
abbrev pub GrewByCrate : (name : List ℕ) (crate_found : Bool) (old new : List ℕ) → Type 0
GrewByCrate name crate_found old new = (n : Name) × IsNamed name n × GrowsByCrate (crate_of n) crate_found old new

-- the crate of a legacy mangling is that of its path
pub legacy_grew : (name text part rest : List ℕ) (elements : List Element) (crate_found : Bool) (old new : List ℕ) → text ≡ without_llvm name → IsLegacy text part elements rest
    → ((elements : List Element) (rest : List ℕ) → Reads part elements rest → GrowsByCrate (path_crate (encode_utf8_all (legacy_chars elements))) crate_found old new)
    → GrewByCrate name crate_found old new
unfolding crate_of
legacy_grew name text part rest elements crate_found old new e is path =
    (legacy elements, named_legacy name text part rest elements (legacy elements) e is refl, path elements rest is.reads)

-- the crate of a v0 mangling that unfolds to a tree is its crate root, and any other name has none
pub other_grew : (name text : List ℕ) (c : Option (List ℕ)) (crate_found : Bool) (old new : List ℕ) → IsOther name text → IsCrateName text c → GrowsByCrate c crate_found old new → GrewByCrate name crate_found old new
unfolding crate_of
other_grew name text c crate_found old new o root grown = elim root [
  | inl t ↦ (v0 t.0, named_v0 name text t.0 (v0 t.0) o t.1 refl, subst (λ (x : Option (List ℕ)). GrowsByCrate x crate_found old new) t.2 grown)
  | inr none ↦ (unknown name, named_unchanged name text (unknown name) o none.0 refl, subst (λ (x : Option (List ℕ)). GrowsByCrate x crate_found old new) none.1 grown)
]
