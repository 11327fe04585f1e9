-- What the calls over a source return and write.
use Rattle.std.proofs.Common.{◌≡◌, ℕ, Bool, List, Option, Some, None, Vec, Global, Result, Ok, Err, refl, sym, ap, subst, ◌∙◌}
use Rattle.std.specs.Prelude.{◌≢◌, IfErr}
use Rattle.std.specs.Io.KnownBytes.{Appends}
use Rattle.std.specs.Option.{option_map}
use Rattle.std.specs.Result.{IsErr, IsErrAnd}
use Rattle.binfarce.specs.declared.ParseError.{ParseError}
use Rattle.binfarce.specs.Format.{format_of}
use Rattle.binfarce.specs.Refusal.{Refusal, refusal_of}
use Rattle.binfarce.specs.Walk.{Walk, ended, first}
use Rattle.binfarce_tables.specs.declared.error.ReadError.{ReadError}
use Rattle.binfarce_tables.specs.declared.error.ReadError.TheVariants as reading
use Rattle.binfarce_sections.specs.declared.error.SectionError.{SectionError}
use Rattle.binfarce_sections.specs.declared.error.SectionError.TheVariants.{Unknown, Parse, OutOfMemory, Write, Unreadable}
use Rattle.binfarce_sections.specs.declared.sections.Section as code
use Rattle.binfarce_sections.specs.declared.sections.Sections.{Sections}
use Rattle.binfarce_rows.specs.Json.{Style}
use Rattle.binfarce_sections.specs.Lines.{section_lines}
use Rattle.binfarce_sections.specs.Named.{Lack, unknown_format, refused, is_named, bytes_found, bytes_named}
use Rattle.binfarce_sections.specs.Section.{Section, sections_of}
use Rattle.binfarce_sections.specs.Results.{TakesBytes, TakesLines, TakesRead, TakesReadLines, Fails, error_of}
use Rattle.binfarce_sections.specs.Views.{Opens, section_view, sections_left}
use Rattle.binfarce_sections.specs.machine.Found.{Finds, ReadsBytes}
use Rattle.binfarce_sections.specs.Tables.{ReadsTables}
use Rattle.binfarce_tools.proofs.Lines.{nothing}
use Rattle.binfarce_tables.proofs.Readings.{err_is}

-- what is searched for in the sections that were opened
pub found_ok : (walk : Option (Walk Section)) (sections : Sections) (word : List ℕ) (found : Option code.Section)
    → Opens walk (Ok sections) → first (is_named word) (sections_left sections) ≡ Ok (option_map section_view found) → Finds walk word (Ok found)
found_ok None sections word found opened is = absurd opened
found_ok (Some walk) sections word found opened is = ap (first (is_named word)) (sym opened) ∙ is

pub found_err : (walk : Option (Walk Section)) (sections : Sections) (word : List ℕ) (e : ParseError)
    → Opens walk (Ok sections) → first (is_named word) (sections_left sections) ≡ Err (refusal_of e) → Finds walk word (Err (Parse e))
found_err None sections word e opened is = absurd opened
found_err (Some walk) sections word e opened is = ap (first (is_named word)) (sym opened) ∙ is

-- the lines of the sections that were opened
pub lines_opened : (style : Style) (walk : Option (Walk Section)) (sections : Sections) (old new : Option (List ℕ)) (r : Result (Unit {0}) SectionError)
    → Opens walk (Ok sections) → TakesLines style (Some (sections_left sections)) old new r → TakesLines style walk old new r
lines_opened style None sections old new r opened takes = absurd opened
lines_opened style (Some walk) sections old new r opened takes = subst (λ (w : Walk Section). TakesLines style (Some w) old new r) opened takes

ended_lines : (style : Style) (walk : Walk Section) (p : ParseError) (old : Option (List ℕ)) → walk ≡ ended (Some (refusal_of p)) → TakesLines style (Some walk) old old (Err (Parse p))
ended_lines style walk p old stop = (ap (λ (w : Walk Section). w.refusal) stop, subst (λ (w : Walk Section). Appends old old (section_lines style w.items)) (sym stop) (nothing old))

-- where the sections weren't opened, no line is taken
pub lines_unopened : (style : Style) (may_fail : Bool) (walk : Option (Walk Section)) (e : SectionError) (old : Option (List ℕ)) → Opens walk (Err e) → TakesReadLines style may_fail walk old old (Err e)
lines_unopened style may_fail None e old is = subst (λ (s : SectionError). TakesReadLines style may_fail None old old (Err s)) (sym is) (refl, nothing old)
lines_unopened style may_fail (Some walk) e old is =
    subst (λ (s : SectionError). TakesReadLines style may_fail (Some walk) old old (Err s)) (sym is.2) (ended_lines style walk is.0 old is.1)

-- what is taken of bytes in memory may be taken of a source
pub lines_read : (style : Style) (may_fail : Bool) (walk : Option (Walk Section)) (old new : Option (List ℕ)) (r : Result (Unit {0}) SectionError) → TakesLines style walk old new r → TakesReadLines style may_fail walk old new r
lines_read style may_fail None old new (Err OutOfMemory) takes = let e : Path (Result (Unit {0}) SectionError) (Err OutOfMemory) (Err Unknown) = takes.0 in absurd cc
lines_read style may_fail None old new (Err Unreadable) takes = let e : Path (Result (Unit {0}) SectionError) (Err Unreadable) (Err Unknown) = takes.0 in absurd cc
lines_read style may_fail (Some walk) old new (Err OutOfMemory) takes = takes
lines_read style may_fail (Some walk) old new (Err Unreadable) takes = absurd takes
lines_read style may_fail walk old new r takes = takes

-- where nothing was read, no line is taken
pub lines_unread : (style : Style) (may_fail : Bool) (file : List ℕ) (e : ReadError) (old : Option (List ℕ)) → ReadsTables may_fail file (Err e) → TakesReadLines style may_fail (sections_of (format_of file) file) old old (Err (error_of e))
lines_unread style may_fail file (reading.Refused p) old has =
    subst (λ (w : Option (Walk Section)). TakesLines style w old old (Err (Parse p))) (sym has) (ended_lines style (ended (Some (refusal_of p))) p old refl)
lines_unread style may_fail file reading.Unreadable old has = (has, nothing old)
lines_unread style may_fail file reading.OutOfMemory old has = nothing old

-- the bytes of a section of the sections that were opened
pub bytes_opened : (walk : Option (Walk Section)) (sections : Sections) (file word : List ℕ) (found : Result (Option Section) Refusal)
    → Opens walk (Ok sections) → first (is_named word) (sections_left sections) ≡ found → bytes_named walk file word ≡ bytes_found file found
unfolding bytes_named
bytes_opened None sections file word found opened is = absurd opened
bytes_opened (Some walk) sections file word found opened is = ap (bytes_found file) (ap (first (is_named word)) (sym opened) ∙ is)

pub bytes_unopened : (may_fail : Bool) (walk : Option (Walk Section)) (file word : List ℕ) (e : SectionError) → Opens walk (Err e) → ReadsBytes may_fail (bytes_named walk file word) (Err e)
unfolding bytes_named
bytes_unopened may_fail None file word e is = subst (λ (s : SectionError). ReadsBytes may_fail (bytes_named None file word) (Err s)) (sym is) (unknown_format, refl, refl)
bytes_unopened may_fail (Some walk) file word e is =
    subst (λ (s : SectionError). ReadsBytes may_fail (bytes_named (Some walk) file word) (Err s)) (sym is.2)
    (refused (refusal_of is.0), ap (λ (w : Walk Section). bytes_found file (first (is_named word) w)) is.1, refl)

pub bytes_unread : (may_fail : Bool) (file word : List ℕ) (e : ReadError) → ReadsTables may_fail file (Err e) → ReadsBytes may_fail (bytes_named (sections_of (format_of file) file) file word) (Err (error_of e))
unfolding bytes_named
bytes_unread may_fail file word (reading.Refused p) has = (refused (refusal_of p), ap (λ (w : Option (Walk Section)). bytes_named w file word) has, refl)
bytes_unread may_fail file word reading.Unreadable has = has
bytes_unread may_fail file word reading.OutOfMemory has = tt

-- the same answer, read
pub read_same : (may_fail : Bool) (a b : Result (List ℕ) Lack) (r : Result (Vec ℕ Global) SectionError) → a ≡ b → ReadsBytes may_fail b r → ReadsBytes may_fail a r
read_same may_fail a b r same reads = subst (λ (answer : Result (List ℕ) Lack). ReadsBytes may_fail answer r) (sym same) reads

-- what is taken of these bytes
pub bytes_taken : (may_fail : Bool) (answer : Result (List ℕ) Lack) (bytes : List ℕ) (old new : Option (List ℕ)) (r : Result (Unit {0}) SectionError)
    → answer ≡ Ok bytes → TakesBytes (Ok bytes) old new r → TakesRead may_fail answer old new r
bytes_taken may_fail answer bytes old new r is takes = by_result r (subst (λ (a : Result (List ℕ) Lack). TakesBytes a old new r) (sym is) takes)
  where
    by_result : (r : Result (Unit {0}) SectionError) → TakesBytes answer old new r → TakesRead may_fail answer old new r
    by_result (Err OutOfMemory) takes = absurd takes.2
    by_result (Err Unreadable) takes = absurd takes.2
    by_result r takes = takes

-- where no bytes were read, none is taken
pub bytes_untaken : (may_fail : Bool) (answer : Result (List ℕ) Lack) (e : SectionError) (old : Option (List ℕ)) → ReadsBytes may_fail answer (Err e) → TakesRead may_fail answer old old (Err e)
bytes_untaken may_fail answer OutOfMemory old is = nothing old
bytes_untaken may_fail answer Write old is = absurd is.2
bytes_untaken may_fail answer Unreadable old is = (is, nothing old)
bytes_untaken may_fail answer e old is = (is.0, is.1, is.2, nothing old)

-- the error for an error of a reading isn't a failed write
not_written : (e : ReadError) → error_of e ≡ Write → ⊥
not_written (reading.Refused p) is = cc
not_written reading.Unreadable is = cc
not_written reading.OutOfMemory is = cc

pub unwritten : {X : Type 0} (r : Result X SectionError) (e : ReadError) → (IsErr r × IsErrAnd r (λ s. s ≡ error_of e)) → IfErr r (λ s. s ≢ Write)
unwritten {X = X} r e is = err_is (λ (x : Result X SectionError). IfErr x (λ s. s ≢ Write)) r (error_of e) is (not_written e)

-- the sink fails with a failed write alone
pub unfailed : (X : Type 0) (old : Bool) (e : SectionError) → e ≢ Write → Fails {X = X} old old (Err e)
unfailed X old Write is = absurd (is refl)
unfailed X old e is = refl
