-- Where a section's name is in the file, and whether it is a given one.
use Rattle.std.specs.Option.{option_map}
use Rattle.std.specs.Result.{result_ok}
use Rattle.std.specs.Bool.{Decides}
use Rattle.std.specs.List.{list_any}
use Rattle.std.specs.Prelude.{slice_range}
use Rattle.std.specs.Str.{IsUtf8, bytes_eq}
use Rattle.std.proofs.Common.{◌≡◌, ◌≢◌, ℕ, List, [], ◌∷◌, ◌++◌, All, length, get_or, take, drop, not, eqb, Option, Some, None, Result, Ok, Err, Bor, inl, inr, refl, sym, ap, ◌∙◌, cond, ◌+◌, ◌<◌, ◌^◌, ◌≤◌, IfSome, Bool, true, false, leb, arith}
use Rattle.std.proofs.lemmas.Bool.Decides.{same_from_decides}
use Rattle.std.proofs.lemmas.Slice.Eq.{bytes_eq-Decides}
use Rattle.std.proofs.Math.Seq.{drop-length}
use Rattle.std.proofs.lemmas.List.{append-nil, take-append-drop, take_at}
use Rattle.std.proofs.lemmas.List.Folds.{drop_split, list_any_at, list_any_none}
use Rattle.std.proofs.lemmas.Bool.{false≢true, true≢false, not-true, not_from_false, false_from_ne_true, eqb-true, eq-eqb, cases_lt, lt-leb, le-leb, lt-ltb, le-ltb}
use Rattle.binfarce_bytes.specs.Refusal.{Refusal, Gives, malformed_input, unexpected_eof, bytes_in_file}
use Rattle.binfarce_bytes.specs.Number.{bytes_at}
use Rattle.binfarce_bytes.specs.Steps.{◌>>=◌}
use Rattle.binfarce_bytes.specs.Text.{text_at, IsTextAt}
use Rattle.binfarce_elf.specs.ElfSymbols.{is_named, section_data}
use Rattle.binfarce_elf.specs.Elf.{ElfClass, SectionTable, Section, names_section, contents, name_of, NameIsInFile}
use Rattle.binfarce_bytes.proofs.Texts.{found_text, only_text, part_occurs}

contents_are : (file : List ℕ) (section : Section) (strings : List ℕ) → contents file section ≡ Some strings → strings ≡ bytes_at file section.offset section.size
contents_are file section strings e = by_test (leb (section.offset + section.size) (length file)) e
  where
    by_test : (b : Bool) → cond b (Some (bytes_at file section.offset section.size)) None ≡ Some strings → strings ≡ bytes_at file section.offset section.size
    by_test true e = cc
    by_test false e = absurd cc

pub name_is_in_file : (class : ElfClass) (table : SectionTable) (section : Section) (name : List ℕ) → name_of class table section ≡ Some name → NameIsInFile class table section name
unfolding name_of
name_is_in_file class table section name e = by_names (names_section class table) refl e
  where
    by_strings : (names : Section) → names_section class table ≡ Some names → (o : Option (List ℕ)) → contents table.file names ≡ o
        → (o >>= λ strings. text_at strings section.name_offset) ≡ Some name → NameIsInFile class table section name
    by_strings names is (Some strings) at e = (
      names,
      is,
      part_occurs table.file names.offset names.size section.name_offset name
          (found_text (bytes_at table.file names.offset names.size) section.name_offset name (ap (λ (s : List ℕ). text_at s section.name_offset) (sym (contents_are table.file names strings at)) ∙ e)),
    )
    by_strings names is None at e = absurd cc

    by_names : (o : Option Section) → names_section class table ≡ o
        → ((o >>= λ names. contents table.file names) >>= λ strings. text_at strings section.name_offset) ≡ Some name → NameIsInFile class table section name
    by_names (Some names) is e = by_strings names is (contents table.file names) refl e
    by_names None is e = absurd cc

-- what is reported as a section's name is in the file
pub name_reported : (class : ElfClass) (table : SectionTable) (section : Section) (o : Option (List ℕ)) → o ≡ name_of class table section → IfSome o (NameIsInFile class table section)
name_reported class table section (Some name) e = name_is_in_file class table section name (sym e)
name_reported class table section None e = tt

-- what was read of a section's bytes is its contents, since no slice has 2^64 bytes
pub contents_read : {E : Type 0} (why : E → Refusal) (file : List ℕ) (section : Section) (r : Result (Bor (List ℕ)) E) → length file < 2 ^ 64
    → Gives why (λ b. b.now) (section_data file section) r → option_map (λ b. b.now) (result_ok r) ≡ contents file section
unfolding section_data bytes_in_file
contents_read {E} why file section r short gives = elim (cases_lt (length file) end) [
  | inl past ↦ rw (lt-leb end (length file) past) (by_test (leb (2 ^ 64) end) (rw (lt-ltb (length file) end past) at gives))
  | inr inside ↦ rw (le-leb end (length file) inside) (read_whole (bytes_at file section.offset section.size) r (rw (lt-leb (2 ^ 64) end (omega (arith, short, inside)), le-ltb (length file) end inside) at gives))
]
  where
    end : ℕ
    end = section.offset + section.size

    read_whole : (bytes : List ℕ) (r : Result (Bor (List ℕ)) E) → Gives why (λ b. b.now) (Ok bytes) r → option_map (λ b. b.now) (result_ok r) ≡ Some bytes
    read_whole bytes (Ok b) gives = let same : bytes ≡ b.now = cc in ap Some (sym same)
    read_whole bytes (Err e) gives = absurd cc

    not_read : (refusal : Refusal) (r : Result (Bor (List ℕ)) E) → Gives why (λ b. b.now) (Err refusal) r → option_map (λ b. b.now) (result_ok r) ≡ None
    not_read refusal (Ok b) gives = absurd cc
    not_read refusal (Err e) gives = refl

    by_test : (b : Bool) → Gives why (λ b. b.now) (cond b (Err malformed_input) (Err unexpected_eof)) r → option_map (λ b. b.now) (result_ok r) ≡ None
    by_test true gives = not_read malformed_input r gives
    by_test false gives = not_read unexpected_eof r gives

-- what decides whether a text is at an offset decides whether the name there is this text
pub named_as : (strings : List ℕ) (offset : ℕ) (text : List ℕ) (b : Bool) → Decides b (IsTextAt strings offset text) → b ≡ is_named text (text_at strings offset)
named_as strings offset text b decides = same_from_decides b (is_named text (text_at strings offset)) decides (by_name (text_at strings offset) refl, there)
  where
    by_name : (o : Option (List ℕ)) → text_at strings offset ≡ o → is_named text o ≡ true → IsTextAt strings offset text
    by_name (Some name) at e = found_text strings offset text (at ∙ ap Some ((bytes_eq-Decides name text).0 e))
    by_name None at e = absurd cc

    there : IsTextAt strings offset text → is_named text (text_at strings offset) ≡ true
    there h = rw (only_text strings offset text h) ((bytes_eq-Decides text text).1 refl)

-- the bytes from an offset on
from_start : (bytes rest : List ℕ) (start : ℕ) → start ≤ length bytes → rest ≡ slice_range bytes start (length bytes) → drop start bytes ≡ rest
from_start bytes rest start within is =
    let part = slice_range bytes start (length bytes) in
    drop_split bytes start (length bytes) within ∙ ap (λ (ys : List ℕ). part ++ ys) (drop-length bytes) ∙ append-nil part ∙ sym is

-- other bytes are there
pub other_text : (bytes rest text : List ℕ) (start : ℕ) → start ≤ length bytes → rest ≡ slice_range bytes start (length bytes)
    → bytes_eq (take (length text) rest) text ≡ false → Decides false (IsTextAt bytes start text)
other_text bytes rest text start within from other = (λ e. absurd (false≢true e), λ h. absurd (false≢true (sym other ∙ front h)))
  where
    front : IsTextAt bytes start text → bytes_eq (take (length text) rest) text ≡ true
    front h = (bytes_eq-Decides (take (length text) rest) text).1 (ap (take (length text)) (sym (from_start bytes rest start within from) ∙ h.occurs.1) ∙ take_at text (0 ∷ h.occurs.0) (length text) refl)

-- the bytes and a NUL are there; a text has no NUL of its own
pub same_text : (bytes rest after text : List ℕ) (start : ℕ) (nul : Bool) → IsUtf8 text → start ≤ length bytes → rest ≡ slice_range bytes start (length bytes)
    → bytes_eq (take (length text) rest) text ≡ true → after ≡ drop (length text) rest → bytes_eq (0 ∷ []) (take 1 after) ≡ true → eqb (length text) 0 ≡ false
    → nul ≡ list_any (λ b. eqb b 0) text → Decides (not nul) (IsTextAt bytes start text)
same_text bytes rest after text start nul utf8 within from front behind end some any = (there, none)
  where
    whole : drop start bytes ≡ text ++ 0 ∷ drop 1 after
    whole =
        let n = length text in
        let first : 0 ∷ [] ≡ take 1 after = (bytes_eq-Decides (0 ∷ []) (take 1 after)).0 end in
        let tail : after ≡ 0 ∷ drop 1 after = sym (take-append-drop 1 after) ∙ ap (λ (ys : List ℕ). ys ++ drop 1 after) (sym first) in
        from_start bytes rest start within from ∙ sym (take-append-drop n rest)
        ∙ ap (λ (ys : List ℕ). ys ++ drop n rest) ((bytes_eq-Decides (take n rest) text).0 front)
        ∙ ap (λ (ys : List ℕ). text ++ ys) (sym behind ∙ tail)

    no_nul : nul ≡ false → All (λ b. b ≢ 0) text
    no_nul e = λ k d lt z. absurd (true≢false (sym (list_any_at (λ b. eqb b 0) text k d lt (eq-eqb (get_or text k d) 0 z)) ∙ sym any ∙ e))

    not_empty : text ≢ []
    not_empty e = absurd (true≢false (sym (eq-eqb (length text) 0 (ap length e)) ∙ some))

    there : not nul ≡ true → IsTextAt bytes start text
    there e = record { occurs = (drop 1 after, whole); no_nul = no_nul (not-true nul e); utf8 = utf8; not_empty = not_empty }

    none : IsTextAt bytes start text → not nul ≡ true
    none h = not_from_false nul (any ∙ list_any_none (λ b. eqb b 0) text (λ k d lt. false_from_ne_true (eqb (get_or text k d) 0) (λ t. h.no_nul k d lt (eqb-true (get_or text k d) 0 t))))
