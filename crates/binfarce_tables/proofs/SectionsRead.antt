-- The sections of a file, by the parts that were read of it.
use Rattle.std.proofs.Common.{◌≡◌, ℕ, Bool, ltb, List, length, Option, Result, Ok, Err, sym, ap, ◌∙◌}
use Rattle.binfarce_bytes.specs.declared.ByteOrder.{ByteOrder}
use Rattle.binfarce_bytes.specs.Refusal.{◌>>=◌, Refusal, refusal_of, unexpected_eof}
use Rattle.binfarce_bytes.specs.Walk.{Walk}
use Rattle.binfarce_elf_memory.specs.ElfEnds.{FileKind, file_kind}
use Rattle.binfarce_elf.specs.Elf.{ElfClass, SectionTable, Section, header_of, section_table, walk, names_bytes}
use Rattle.binfarce_tables.specs.Reading.{Reads}
use Rattle.binfarce_tables.specs.SectionReading.{FileSections, file_sections}
use Rattle.binfarce_tables.specs.declared.error.ReadError.{ReadError}
use Rattle.binfarce_tables.specs.declared.error.ReadError.TheVariants.{Refused, Unreadable, OutOfMemory}
use Rattle.binfarce_tables.specs.machine.Places.{table_step}
use Rattle.binfarce_tables.proofs.Readings.{taken, after_test}

-- what was read, seen by another view
pub seen_as : {X Y Z : Type 0} (fails : Bool) (view : X → Y) (next : X → Z) (y : Y) (z : Z) (r : Result X ReadError)
    → ((x : X) → view x ≡ y → next x ≡ z) → Reads fails view (Ok y) r → Reads fails next (Ok z) r
seen_as fails view next y z (Ok x) same step = ap Ok (sym (same x (taken step)))
seen_as {Y = Y} fails view next y z (Err (Refused p)) same step = let e : Path (Result Y Refusal) (Ok y) (Err (refusal_of p)) = step in absurd cc
seen_as fails view next y z (Err Unreadable) same step = step
seen_as fails view next y z (Err OutOfMemory) same step = tt

abbrev of_table : ElfClass → FileKind → List ℕ → SectionTable → Result FileSections Refusal
of_table class kind file table =
    Ok (record { class = class; order = table.order; kind = kind; count = table.shnum; sections = walk class table; names = names_bytes class table; file_length = length file })

sections_from : (class : ElfClass) (order : ByteOrder) (file : List ℕ) → file_sections class order file ≡ (table_step class order file >>= of_table class (file_kind (header_of class order file)) file)
unfolding section_table
sections_from class order file =
    let table = section_table class (record { order = order; bytes = file }) in
    after_test (ltb (length file) class.header_length) unexpected_eof table (of_table class (file_kind (header_of class order file)) file)

-- a file's sections, where its table is this, and these are its type, its walk, its section names and its length
pub sections_read : (class : ElfClass) (order : ByteOrder) (file : List ℕ) (table : SectionTable) (kind : FileKind) (sections : Walk Section) (names : Option (List ℕ)) (len : ℕ)
    → table_step class order file ≡ Ok table → kind ≡ file_kind (header_of class order file) → sections ≡ walk class table → names ≡ names_bytes class table → len ≡ length file
    → file_sections class order file ≡ Ok (record { class = class; order = table.order; kind = kind; count = table.shnum; sections = sections; names = names; file_length = len })
sections_read class order file table kind sections names len placed typed walked named long =
    sections_from class order file
    ∙ ap (λ (a : Result SectionTable Refusal). a >>= of_table class (file_kind (header_of class order file)) file) placed
    ∙ ap Ok (cc (typed, walked, named, long))
