-- The sums of the sections that were opened.
use Rattle.std.proofs.Common.{◌≡◌, ◌≢◌, ℕ, IfErr, Option, Some, None, Result, Ok, Err, sym, ap, subst}
use Rattle.binfarce.specs.Walk.{Walk}
use Rattle.binfarce_sections.specs.declared.error.SectionError.{SectionError}
use Rattle.binfarce_sections.specs.declared.error.SectionError.TheVariants.{Unknown, Parse, NoSection, NoBytes, PastEnd, OutOfMemory, Write, Unreadable}
use Rattle.binfarce_sections.specs.declared.sections.Sections.{Sections}
use Rattle.binfarce_sections.specs.Results.{SumsUp}
use Rattle.binfarce_sections.specs.Section.{Section}
use Rattle.binfarce_sections.specs.Sums.{FileSums}
use Rattle.binfarce_sections.specs.Views.{Opens, sections_left}

pub sums_opened : (len n : ℕ) (walk : Option (Walk Section)) (sections : Sections) (r : Result FileSums SectionError) → Opens walk (Ok sections) → n ≡ len → SumsUp n (Some (sections_left sections)) r → SumsUp len walk r
sums_opened len n None sections r opened long sums = absurd opened
sums_opened len n (Some walk) sections r opened long sums =
    subst (λ (m : ℕ). SumsUp m (Some walk) r) long (subst (λ (w : Walk Section). SumsUp n (Some w) r) opened sums)

-- where they weren't, there are none
pub sums_unopened : (len : ℕ) (walk : Option (Walk Section)) (e : SectionError) → Opens walk (Err e) → SumsUp len walk (Err e)
sums_unopened len None e is = subst (λ (s : SectionError). SumsUp len None (Err s)) (sym is) tt
sums_unopened len (Some walk) e is = subst (λ (s : SectionError). SumsUp len (Some walk) (Err s)) (sym is.2) (ap (λ (w : Walk Section). w.refusal) is.1)

-- nothing is written where sections are summed
pub never_writes : (n : ℕ) (walk : Walk Section) (r : Result FileSums SectionError) → SumsUp n (Some walk) r → IfErr r (λ e. e ≢ Write)
never_writes n walk (Ok sums) is = tt
never_writes n walk (Err Unknown) is = λ e. cc
never_writes n walk (Err (Parse e)) is = λ e. cc
never_writes n walk (Err NoSection) is = λ e. cc
never_writes n walk (Err NoBytes) is = λ e. cc
never_writes n walk (Err PastEnd) is = λ e. cc
never_writes n walk (Err OutOfMemory) is = λ e. cc
never_writes n walk (Err Write) is = absurd is
never_writes n walk (Err Unreadable) is = λ e. cc
