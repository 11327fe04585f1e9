-- What is read, made and written one after the other.
use Rattle.std.proofs.Common.{◌≡◌, ◌≤◌, ◌-◌, ℕ, arith, take, drop, List, [], ◌++◌, Option, Bool, refl, sym, ◌∙◌, ap, subst, subst₂, append_assoc, append-nil, Result, Ok, Err, IsErrAnd}
use Rattle.std.specs.Prelude.{◌≢◌}
use Rattle.std.specs.Io.KnownBytes.{Appends, Consumes, Keeps}
use Rattle.std.proofs.Math.Seq.{take-add}
use Rattle.std.proofs.lemmas.List.{take-append-drop}
use Rattle.std.proofs.KnownBytes.{Appends-nil, Appends-trans, Consumes-kept, Consumes-nil, Consumes-trans}
use Rattle.binfarce_text.specs.Streams.{Streams, Writes}
use Rattle.binfarce_text.specs.declared.streams.StreamError.{StreamError}
use Rattle.binfarce_text.specs.declared.streams.StreamError.TheVariants.{Read, Write, OutOfMemory}
use Rattle.binfarce_text.specs.machine.Passing.{BreaksOff, BreaksOffDone, Ends, Goes, Passes, PassesAll, Steps, WritesAll}

-- an error that isn't the reader's
not_read : (e other : StreamError) → other ≢ Read → e ≡ other → e ≢ Read
not_read e other ne is read = ne (sym is ∙ read)

-- nothing was read, and nothing written
pub nothing_passed : (P : List ℕ → List ℕ → Type 0) (given old : Option (List ℕ)) → P [] [] → Writes P given given old old
nothing_passed P given old is = ([], [], Consumes-nil given, is, Appends-nil old)

-- a read that failed gave nothing
pub kept_passed : (P : List ℕ → List ℕ → Type 0) (given left rest old new : Option (List ℕ)) → Writes P given left old new → Keeps left rest → Writes P given rest old new
kept_passed P given left rest old new has same = (has.0, has.1, Consumes-kept given left rest has.0 has.2 same, has.3, has.4)

-- what follows it
pub then_passed : (P Q : List ℕ → List ℕ → Type 0) (given left rest old mid new : Option (List ℕ)) (part more : List ℕ) → Writes P given left old mid → Consumes left rest part → Appends mid new more
    → ((text made : List ℕ) → P text made → Q (text ++ part) (made ++ more)) → Writes Q given rest old new
then_passed P Q given left rest old mid new part more has reads writes then =
    (has.0 ++ part, has.1 ++ more, Consumes-trans given left rest has.0 part has.2 reads, then has.0 has.1 has.3, Appends-trans old mid new has.1 more has.4 writes)

-- what is written without a further read
pub last_passed : (P Q : List ℕ → List ℕ → Type 0) (given left old mid new : Option (List ℕ)) (more : List ℕ) → Writes P given left old mid → Appends mid new more
    → ((text made : List ℕ) → P text made → Q text (made ++ more)) → Writes Q given left old new
last_passed P Q given left old mid new more has writes then = (has.0, has.1 ++ more, has.2, then has.0 has.1 has.3, Appends-trans old mid new has.1 more has.4 writes)

module _ {P : Type 0} (Holds : P → P → List ℕ → List ℕ → Type 0) (May : P → List ℕ → List ℕ → Type 0) (breaks_off : BreaksOff Holds May) where
  -- the output breaks off after a beginning of what was made last
  breaks_off_in : (first now : P) (text made more beginning others : List ℕ) → more ≡ beginning ++ others → Holds first now text (made ++ more) → May first text (made ++ beginning)
  breaks_off_in first now text made more beginning others is holds =
      subst (λ (x : List ℕ). May first x (made ++ beginning)) (append-nil text)
      (breaks_off first now text [] (made ++ beginning) others (subst (Holds first now text) (ap (λ (x : List ℕ). made ++ x) is ∙ sym (append_assoc made beginning others)) holds))

  -- of what waited and what was made, a beginning was written
  pub step_broken : (before after : P) (bytes waited waits more output : List ℕ) (old new : Option (List ℕ)) (e : StreamError) (result : Result (Unit {0}) StreamError) → Goes Holds before after bytes more → output ≡ waited ++ more → WritesAll old new output (Err e)
      → IsErrAnd result (λ x. x ≡ e) → Steps Holds May before after bytes waited waits old new result
  step_broken before after bytes waited waits more output old new e (Ok x) goes same is at = absurd at
  step_broken before after bytes waited waits more output old new e (Err x) goes same is at = (
    not_read x Write (λ write. absurd cc) (at ∙ is.0),
    (
      is.1.0,
      (λ first text made rest holds.
          let now : Holds first after (text ++ bytes) ((made ++ is.1.0) ++ is.1.1) =
          subst (Holds first after (text ++ bytes)) (append_assoc made waited more ∙ ap (λ (x : List ℕ). made ++ x) (sym same ∙ is.1.2) ∙ sym (append_assoc made is.1.0 is.1.1)) (goes first text (made ++ waited) holds) in
          subst (λ (x : List ℕ). May first x (made ++ is.1.0)) (append_assoc text bytes rest) (breaks_off first after (text ++ bytes) rest (made ++ is.1.0) is.1.1 now)),
      is.1.3,
    ),
  )

  -- it breaks off at once
  pub none_broken : (first now : P) (given left old new : Option (List ℕ)) → Writes (Holds first now) given left old new → Writes (May first) given left old new
  none_broken first now given left old new has = (has.0, has.1, has.2, subst (May first has.0) (append-nil has.1) (breaks_off_in first now has.0 has.1 [] [] [] refl (subst (Holds first now has.0) (sym (append-nil has.1)) has.3)), has.4)

-- one step after others
pub step_more : {P : Type 0} (Holds : P → P → List ℕ → List ℕ → Type 0) (May : P → List ℕ → List ℕ → Type 0) (before mid after : P) (first_bytes bytes waited waits : List ℕ) (old now new : Option (List ℕ)) → Steps Holds May before mid first_bytes [] waited old now (Ok tt)
    → Steps Holds May mid after bytes waited waits now new (Ok tt) → Steps Holds May before after (first_bytes ++ bytes) [] waits old new (Ok tt)
step_more Holds May before mid after first_bytes bytes waited waits old now new has is = (
  has.0 ++ is.0,
  has.1 ++ is.1,
  (λ first text made holds. subst₂ (Holds first after) (append_assoc text first_bytes bytes) (append_assoc made has.0 is.0) (is.2 first (text ++ first_bytes) (made ++ has.0) (has.2 first text made holds))),
  ap (λ (x : List ℕ). x ++ is.0) has.3 ∙ append_assoc has.1 waited is.0 ∙ ap (λ (x : List ℕ). has.1 ++ x) is.3 ∙ sym (append_assoc has.1 is.1 waits),
  Appends-trans old now new has.1 is.1 has.4 is.4,
)

-- the steps before passed a beginning of a part, and the next one broke off
pub part_broken : {P : Type 0} (Holds : P → P → List ℕ → List ℕ → Type 0) (May : P → List ℕ → List ℕ → Type 0) (before mid after : P) (first_bytes bytes others waited waits : List ℕ) (old now new : Option (List ℕ)) (e : StreamError) (result : Result (Unit {0}) StreamError) → Steps Holds May before mid first_bytes [] waited old now (Ok tt)
    → Steps Holds May mid after bytes waited waits now new (Err e) → IsErrAnd result (λ x. x ≡ e) → Passes Holds May before after (first_bytes ++ (bytes ++ others)) old new result
part_broken Holds May before mid after first_bytes bytes others waited waits old now new e (Ok x) has is at = absurd at
part_broken Holds May before mid after first_bytes bytes others waited waits old now new e (Err x) has is at = (
  subst (λ (y : StreamError). y ≢ Read) (sym at) is.0,
  (
    has.1 ++ is.1.0,
    (λ first text made holds.
        let then : Holds first mid (text ++ first_bytes) ((made ++ has.1) ++ waited) =
        subst (Holds first mid (text ++ first_bytes)) (ap (λ (x : List ℕ). made ++ x) has.3 ∙ sym (append_assoc made has.1 waited)) (has.2 first text made holds) in
        subst₂ (May first) (append_assoc text first_bytes (bytes ++ others)) (append_assoc made has.1 is.1.0) (is.1.1 first (text ++ first_bytes) (made ++ has.1) others then)),
    Appends-trans old now new has.1 is.1.0 has.4 is.1.2,
  ),
)

-- all steps passed a part, and nothing waits
pub part_passed : {P : Type 0} (Holds : P → P → List ℕ → List ℕ → Type 0) (May : P → List ℕ → List ℕ → Type 0) (before after : P) (part waits : List ℕ) (old new : Option (List ℕ)) → Steps Holds May before after part [] waits old new (Ok tt) → waits ≡ [] → Passes Holds May before after part old new (Ok tt)
part_passed Holds May before after part waits old new has none =
    (has.0, has.2, subst (Appends old new) (sym (has.3 ∙ ap (λ (x : List ℕ). has.1 ++ x) none ∙ append-nil has.1)) has.4)

-- a part up to a place, and the bytes after it
pub taken_more : (part : List ℕ) (at end : ℕ) → at ≤ end → take at part ++ take (end - at) (drop at part) ≡ take end part
taken_more part at end le = sym (subst (λ (n : ℕ). take n part ≡ take at part ++ take (end - at) (drop at part)) (omega (arith, le)) (take-add at (end - at) part))

-- and all that follows
pub taken_all : (part : List ℕ) (at n : ℕ) → take at part ++ (take n (drop at part) ++ drop n (drop at part)) ≡ part
taken_all part at n = ap (λ (x : List ℕ). take at part ++ x) (take-append-drop n (drop at part)) ∙ take-append-drop at part

-- no step yet
pub no_step : {P : Type 0} (Holds : P → P → List ℕ → List ℕ → Type 0) (May : P → List ℕ → List ℕ → Type 0) (before : P) (old : Option (List ℕ)) → Steps Holds May before before [] [] [] old old (Ok tt)
no_step Holds May before old =
    ([], [], (λ first text made holds. subst₂ (Holds first before) (sym (append-nil text)) (sym (append-nil made)) holds), refl, Appends-nil old)

-- the next part passed, after others
pub more_passed : {P : Type 0} (Holds : P → P → List ℕ → List ℕ → Type 0) (May : P → List ℕ → List ℕ → Type 0) (first mid after : P) (part : List ℕ) (given left rest old now new : Option (List ℕ)) → Writes (Holds first mid) given left old now → Consumes left rest part → Passes Holds May mid after part now new (Ok tt)
    → Writes (Holds first after) given rest old new
more_passed Holds May first mid after part given left rest old now new has reads is = then_passed (Holds first mid) (Holds first after) given left rest old now new part is.0 has reads is.2 (is.1 first)

-- or broke off
pub broke_off : {P : Type 0} (Holds : P → P → List ℕ → List ℕ → Type 0) (May : P → List ℕ → List ℕ → Type 0) (first mid after : P) (part : List ℕ) (given left rest old now new : Option (List ℕ)) (e : StreamError) (result : Result Bool StreamError) → Writes (Holds first mid) given left old now → Consumes left rest part
    → Passes Holds May mid after part now new (Err e) → IsErrAnd result (λ x. x ≡ e) → PassesAll (Holds first after) (May first) given rest old new result
broke_off Holds May first mid after part given left rest old now new e (Ok x) has reads is same = absurd same
broke_off Holds May first mid after part given left rest old now new e (Err x) has reads is same =
    (subst (λ (y : StreamError). y ≢ Read) (sym same) is.0, then_passed (Holds first mid) (May first) given left rest old now new part is.1.0 has reads is.1.2 (is.1.1 first))

-- a stream whose output broke off
pub streams_broken : (IsWhole : Unit {0} → List ℕ → List ℕ → Type 0) (IsCut IsBeginning : List ℕ → List ℕ → Type 0) (given left old new : Option (List ℕ)) (e : StreamError) (result : Result (Unit {0}) StreamError) → e ≢ Read → IsErrAnd result (λ x. x ≡ e)
    → Writes IsBeginning given left old new → Streams IsWhole IsCut IsBeginning given left old new result
streams_broken IsWhole IsCut IsBeginning given left old new e (Ok x) ne is has = absurd is
streams_broken IsWhole IsCut IsBeginning given left old new e (Err Read) ne is has = absurd (ne (sym is))
streams_broken IsWhole IsCut IsBeginning given left old new e (Err Write) ne is has = has
streams_broken IsWhole IsCut IsBeginning given left old new e (Err OutOfMemory) ne is has = has

pub memory_is_not_read : OutOfMemory ≢ Read
memory_is_not_read same = absurd cc

pub write_is_not_read : (e : StreamError) → e ≡ Write → e ≢ Read
write_is_not_read e = not_read e Write (λ same. absurd cc)

-- the rest was made, and a beginning of it was written
pub rest_broken : {P : Type 0} (Holds : P → P → List ℕ → List ℕ → Type 0) (IsDone : P → P → Bool → List ℕ → List ℕ → Type 0) (May : P → List ℕ → List ℕ → Type 0)
    (breaks_off_done : BreaksOffDone IsDone May) (first now after : P) (ended : Bool) (bytes more beginning others : List ℕ)
    (given left old mid new : Option (List ℕ)) → Writes (Holds first now) given left old mid → Ends Holds IsDone now after ended more → bytes ≡ more → bytes ≡ beginning ++ others → Appends mid new beginning → Writes (May first) given left old new
rest_broken Holds IsDone May breaks_off_done first now after ended bytes more beginning others given left old mid new has ends same is appends =
    last_passed (Holds first now) (May first) given left old mid new beginning has appends
    (λ text made holds. breaks_off_done first after ended text (made ++ beginning) others
    (subst (IsDone first after ended text) (ap (λ (x : List ℕ). made ++ x) (sym same ∙ is) ∙ sym (append_assoc made beginning others)) (ends first text made holds)))
