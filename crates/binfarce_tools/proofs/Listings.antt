-- What `list` reports and what was taken follows from what its reader returned and its sink took.
use Rattle.std.proofs.Common.{◌≡◌, ℕ, ◌+◌, ◌-◌, true, List, is_some, unwrap_or, ◌++◌, length, take, drop, Option, Some, None, Result, Ok, Err, refl, sym, ap, subst, ◌∙◌, inl, inr, append_assoc, arith}
use Rattle.std.specs.Result.{IsErrAnd}
use Rattle.std.specs.Io.KnownBytes.{Appends, Keeps}
use Rattle.std.proofs.lemmas.List.{take-append-drop, take_all, length-drop}
use Rattle.std.proofs.Math.Seq.{take-add}
use Rattle.binfarce.specs.declared.ParseError.{ParseError}
use Rattle.binfarce.specs.declared.ParseError.TheVariants as errors
use Rattle.binfarce.specs.Refusal.{Refusal, refusal_of, out_of_memory}
use Rattle.binfarce.specs.SectionEntries.{SelectedSymbols}
use Rattle.binfarce.specs.Symbol.{Answers, Listed}
use Rattle.binfarce_tools.specs.declared.functions.Functions.{Functions}
use Rattle.binfarce_tools.specs.declared.functions.Selected.{Selected}
use Rattle.binfarce_tools.specs.declared.list.ListError.{ListError}
use Rattle.binfarce_tools.specs.declared.list.ListError.TheVariants.{Parse, OutOfMemory}
use Rattle.binfarce_tools.specs.Writing.{AppendsBeginning}
use Rattle.binfarce.specs.declared.Format.{Format}
use Rattle.binfarce.specs.declared.SymbolTable.TheVariants.{Symtab}
use Rattle.binfarce_tools.specs.Answer.{selected_symbols, NeedsMemory}
use Rattle.binfarce_tools.specs.ListWords.{list_error_of}
use Rattle.binfarce_tools.specs.Entries.{GetsAs, HoldsLeft, HoldsListed, HoldsText, all_left}
use Rattle.binfarce_tools.specs.SectionAnswer.{ReaderNeedsMemory, format_answer}
use Rattle.binfarce_tools.proofs.Reported.{is_reported, Reported}

-- a failed allocation is reported as such
pub as_memory : (e : ParseError) → refusal_of e ≡ out_of_memory → list_error_of e ≡ OutOfMemory
as_memory errors.OutOfMemory is = refl
as_memory e is = absurd cc

-- any other refusal is `Parse`
pub parse : (e : ParseError) → is_reported (refusal_of e) ≡ true → list_error_of e ≡ Parse e
parse errors.OutOfMemory reported_is = absurd cc
parse e reported_is = refl

module _ {L : Type 0} (Holds : L → Selected → Type 0) (memory : Result L Refusal → Type 0) where
  gets_refusal : (answer : Result L Refusal) (e : ParseError) → Reported answer → Answers {X = Selected} Holds memory answer (Err e) → GetsAs {X = Selected} Holds memory (Some answer) (Err (list_error_of e))
  gets_refusal (Ok seen) e reported_is answers = (answers.1, as_memory e answers.0)
  gets_refusal (Err refusal) e reported_is (inl is) = inl (e, is, parse e (ap is_reported is ∙ reported_is))
  gets_refusal (Err refusal) e reported_is (inr h) = inr (h.1, as_memory e h.0)

  -- as `?` passes it on
  pub reported_refusal : (answer : Result L Refusal) (e : ParseError) (result : Result Selected ListError)
      → Reported answer → Answers {X = Selected} Holds memory answer (Err e) → IsErrAnd result (λ f. f ≡ list_error_of e) → GetsAs Holds memory (Some answer) result
  reported_refusal answer e (Ok x) reported_is answers is = absurd is
  reported_refusal answer e (Err f) reported_is answers is =
      subst (λ (f : ListError). GetsAs {X = Selected} Holds memory (Some answer) (Err f)) (sym is) (gets_refusal answer e reported_is answers)

-- what the reader of a format refuses is what is got of a file of that format
pub refused : (format found : Format) (file section : List ℕ) (answer : Result SelectedSymbols Refusal) (e : ParseError) (result : Result Selected ListError)
    → format ≡ found → Some answer ≡ selected_symbols Symtab (Some section) format file → Reported answer → Answers {X = Selected} HoldsLeft (NeedsMemory format file) answer (Err e)
    → IsErrAnd result (λ f. f ≡ list_error_of e) → GetsAs HoldsLeft (NeedsMemory found file) (selected_symbols Symtab (Some section) found file) result
refused format found file section answer e result same is reported_is answers err =
    subst (λ (f : Format). GetsAs HoldsLeft (NeedsMemory f file) (selected_symbols Symtab (Some section) f file) result) same
    (subst (λ (o : Option (Result SelectedSymbols Refusal)). GetsAs HoldsLeft (NeedsMemory format file) o result) is (reported_refusal HoldsLeft (NeedsMemory format file) answer e result reported_is answers err))

-- so of what the reader gives of a section
pub reader_refused : (format found : Format) (file section : List ℕ) (answer : Result Listed Refusal) (e : ParseError) (result : Result Selected ListError)
    → format ≡ found → Some answer ≡ format_answer format file section → Reported answer → Answers {X = Selected} HoldsText (ReaderNeedsMemory format file) answer (Err e)
    → IsErrAnd result (λ f. f ≡ list_error_of e) → GetsAs HoldsText (ReaderNeedsMemory found file) (format_answer found file section) result
reader_refused format found file section answer e result same is reported_is answers err =
    subst (λ (f : Format). GetsAs HoldsText (ReaderNeedsMemory f file) (format_answer f file section) result) same
    (subst (λ (o : Option (Result Listed Refusal)). GetsAs HoldsText (ReaderNeedsMemory format file) o result) is (reported_refusal HoldsText (ReaderNeedsMemory format file) answer e result reported_is answers err))

-- what was got of a section, without its section
pub listed : (memory : Result SelectedSymbols Refusal → Type 0) (answer : Option (Result SelectedSymbols Refusal)) → ((seen : SelectedSymbols) → answer ≡ Some (Ok seen) → is_some seen.section_size ≡ true)
    → (selected : Selected) (list : Functions × Option ℕ) (size : ℕ) → GetsAs HoldsLeft memory answer (Ok selected) → all_left list.0.all ≡ all_left selected.functions → list.1 ≡ selected.size → size ≡ unwrap_or list.1 0
    → GetsAs HoldsListed memory answer (Ok (list.0, size))
listed memory None sized selected list size gets left is given = absurd gets
listed memory (Some (Err refusal)) sized selected list size gets left is given = absurd gets
listed memory (Some (Ok seen)) sized selected list size gets left is given =
    (left ∙ gets.0, by_size seen.section_size (sized seen refl) ∙ ap (λ (n : ℕ). Some n) (sym (given ∙ ap (λ (o : Option ℕ). unwrap_or o 0) (is ∙ gets.1))))
  where
    by_size : (o : Option ℕ) → is_some o ≡ true → o ≡ Some (unwrap_or o 0)
    by_size (Some n) is = refl
    by_size None is = absurd cc

pub not_listed : (memory : Result SelectedSymbols Refusal → Type 0) (answer : Option (Result SelectedSymbols Refusal)) (e : ListError) (result : Result (Functions × ℕ) ListError) → GetsAs {X = Selected} HoldsLeft memory answer (Err e) → IsErrAnd result (λ f. f ≡ e)
    → GetsAs HoldsListed memory answer result
not_listed memory answer e (Ok value) gets is = absurd is
not_listed memory answer e (Err f) gets is = subst (λ (f : ListError). GetsAs {X = Functions × ℕ} HoldsListed memory answer (Err f)) (sym is) (by_answer answer gets)
  where
    by_answer : (answer : Option (Result SelectedSymbols Refusal)) → GetsAs {X = Selected} HoldsLeft memory answer (Err e) → GetsAs {X = Functions × ℕ} HoldsListed memory answer (Err e)
    by_answer None gets = gets
    by_answer (Some (Err refusal)) gets = gets
    by_answer (Some (Ok seen)) gets = gets

-- bytes that stay as they were have grown by nothing more
kept : (old mid new : Option (List ℕ)) (xs : List ℕ) → Appends old mid xs → Keeps mid new → Appends old new xs
kept None mid new xs grown same = tt
kept (Some a) None new xs grown same = absurd grown
kept (Some a) (Some b) None xs grown same = absurd same
kept (Some a) (Some b) (Some c) xs grown same = same ∙ grown

-- a failed write leaves what was taken before it: a beginning
pub begins : (old mid new : Option (List ℕ)) (bytes : List ℕ) (at : ℕ) → Appends old mid (take at bytes) → Keeps mid new → AppendsBeginning old new bytes
begins old mid new bytes at grown same = (take at bytes, drop at bytes, sym (take-append-drop at bytes), kept old mid new (take at bytes) grown same)

joined : (old mid new : Option (List ℕ)) (xs ys : List ℕ) → Appends old mid xs → Appends mid new ys → Appends old new (xs ++ ys)
joined None mid new xs ys first then = tt
joined (Some a) None new xs ys first then = absurd first
joined (Some a) (Some b) None xs ys first then = absurd then
joined (Some a) (Some b) (Some c) xs ys first then = then ∙ ap (λ (zs : List ℕ). zs ++ ys) first ∙ append_assoc a xs ys

-- the bytes before a place and n of those behind it
parts : (bytes : List ℕ) (at n : ℕ) → take at bytes ++ take n (take (length bytes - at) (drop at bytes)) ≡ take (at + n) bytes
parts bytes at n =
    let rest : take (length bytes - at) (drop at bytes) ≡ drop at bytes = take_all (length bytes - at) (drop at bytes) (omega (arith, length-drop at bytes)) in
    rw (rest, take-add at n bytes) refl

-- n further bytes were taken
pub further : (old mid new : Option (List ℕ)) (bytes : List ℕ) (at n : ℕ)
    → Appends old mid (take at bytes) → Appends mid new (take n (take (length bytes - at) (drop at bytes))) → Appends old new (take (at + n) bytes)
further old mid new bytes at n first then =
    let P : List ℕ → Type 0 = λ xs. Appends old new xs in
    subst P (parts bytes at n) (joined old mid new (take at bytes) (take n (take (length bytes - at) (drop at bytes))) first then)
