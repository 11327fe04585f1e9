-- What is given of a file, or why nothing is.
use Rattle.std.proofs.Common.{◌≡◌, Bool, List, ℕ, Some, Result, Ok, Err, String, Global, ap, ◌∙◌}
use Rattle.std.specs.Result.{IsErr, IsErrAnd}
use Rattle.binfarce_bytes.specs.Refusal.{◌>>=◌, Refusal}
use Rattle.binfarce_bytes.specs.declared.ByteOrder.{ByteOrder}
use Rattle.binfarce_bytes.specs.declared.format.Format.{Format}
use Rattle.binfarce_elf.specs.Classes.{class_of}
use Rattle.binfarce_elf.specs.declared.class.Width.{Width}
use Rattle.binfarce_figures.specs.declared.rows.Naming.{Naming}
use Rattle.binfarce_rows.specs.Json.{Style}
use Rattle.binfarce_tables.proofs.Readings.{err_is}
use Rattle.binfarce_tables.specs.Reading.{Reads}
use Rattle.binfarce_tables.specs.Readings.{answer_of}
use Rattle.binfarce_tables.specs.declared.error.ReadError.{ReadError}
use Rattle.binfarce_tables.specs.declared.error.ReadError.TheVariants.{Refused, Unreadable, OutOfMemory}
use Rattle.binfarce_needs.specs.FileNeeds.{file_needs, tables_view}
use Rattle.binfarce_needs.specs.Lines.{GivesText, IsLack, needs_in}
use Rattle.binfarce_needs.specs.Needs.{NeedTables, needs_of}
use Rattle.binfarce_needs.specs.NeedsReading.{needs_reading}
use Rattle.binfarce_needs.specs.declared.lines.Lack.{Lack}
use Rattle.binfarce_needs.specs.declared.lines.Lack.TheVariants.{Read}

module _ (fails : Bool) (naming : Naming) (style : Style) (format : Format) (file : List ℕ) (r : Result (String Global) Lack) where
  pub lacked : (lack : Lack) → IsLack fails format file lack → (IsErr r × IsErrAnd r (λ x. x ≡ lack)) → GivesText fails naming style format file r
  lacked lack is error = err_is (GivesText fails naming style format file) r lack error is

  by_error : (width : Width) (order : ByteOrder) (e : ReadError) → needs_in format file ≡ Some (file_needs width order file) → Reads fails tables_view (answer_of file (needs_reading width order)) (Err e)
      → IsLack fails format file (Read e)
  by_error width order (Refused p) in_file reads = in_file ∙ ap Some (ap (λ (a : Result NeedTables Refusal). a >>= λ tables. Ok (needs_of (class_of width) order tables)) reads)
  by_error width order Unreadable in_file reads = reads
  by_error width order OutOfMemory in_file reads = tt

  pub unread : (width : Width) (order : ByteOrder) (e : ReadError) → needs_in format file ≡ Some (file_needs width order file) → Reads fails tables_view (answer_of file (needs_reading width order)) (Err e)
      → (IsErr r × IsErrAnd r (λ x. x ≡ Read e)) → GivesText fails naming style format file r
  unread width order e in_file reads error = lacked (Read e) (by_error width order e in_file reads) error
