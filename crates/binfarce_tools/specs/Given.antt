-- The input of a program: its arguments, and a file to read.
use Rattle.std.specs.Prelude.{◌≡◌, ℕ, true, List, [], ◌∷◌, codes, Option, Some, None, Result, Ok, Err}
use Rattle.std.specs.declared.io.ErrorKind.{ErrorKind}
use Rattle.std.specs.declared.io.ErrorKind.TheVariants as kinds
use Rattle.binfarce_tables.specs.declared.error.ReadError.{ReadError}
use Rattle.binfarce_tables.specs.declared.error.ReadError.TheVariants as reading
use Rattle.binfarce.specs.Refusal.{refusal_of}
use Rattle.binfarce.specs.declared.SymbolTable.TheVariants.{Symtab}
use Rattle.binfarce.specs.Format.{format_of}
use Rattle.binfarce_tools.specs.SectionAnswer.{is_elf, readers_answer}
use Rattle.binfarce_tools.specs.Tables.{AreTablesOf}
use Rattle.binfarce_tools.specs.declared.program.Failure.{Failure}
use Rattle.binfarce_tools.specs.declared.program.Failure.TheVariants.{Usage, File, Refused, OutOfMemory, Write}
use Rattle.binfarce_tools.specs.declared.program.Contents.{Contents}
use Rattle.binfarce_tools.specs.declared.program.Contents.TheVariants.{Tables, Whole}

-- the file and the section of one or two arguments; arguments that can't be taken are refused before, as a wrong call
abbrev pub words_of : List (List ℕ) → Option (List ℕ × List ℕ)
words_of [] = None
words_of (file ∷ []) = Some (file, codes ".text")
words_of (file ∷ section ∷ []) = Some (file, section)
words_of (file ∷ section ∷ more ∷ others) = None

-- the failure for an error of this kind: a failed allocation is `OutOfMemory`
abbrev pub failure_of : ErrorKind → Failure
failure_of kinds.OutOfMemory = OutOfMemory
failure_of kind = File

-- the failure of an error of reading a file at offsets
abbrev pub read_failure_of : ReadError → Failure
read_failure_of (reading.Refused e) = Refused e
read_failure_of reading.Unreadable = File
read_failure_of reading.OutOfMemory = OutOfMemory

-- what is read of a file for a section: its tables, if it is an ELF file; or all bytes
abbrev pub AreContentsOf : (file section : List ℕ) → Contents → Type 0
AreContentsOf file section (Tables tables) = (is_elf (format_of file) ≡ true) × AreTablesOf Symtab file (Some section) tables
AreContentsOf file section (Whole bytes) = bytes.items ≡ file

-- that, or the file's refusal; the file can't be read, which is reported only if MayFail holds; or an allocation failed
abbrev pub GetsContents : Type 0 → (file section : List ℕ) → Result Contents Failure → Type 0
GetsContents MayFail file section (Ok contents) = AreContentsOf file section contents
GetsContents MayFail file section (Err Usage) = ⊥
GetsContents MayFail file section (Err File) = MayFail
GetsContents MayFail file section (Err (Refused e)) = readers_answer file section ≡ Some (Err (refusal_of e))
GetsContents MayFail file section (Err OutOfMemory) = Unit {0}
GetsContents MayFail file section (Err Write) = ⊥
