use Rattle.std.proofs.Common.{◌≡◌, ◌⊎◌, inl, inr, true, sym, ap, ◌∙◌}
use Rattle.binfarce.specs.declared.ByteOrder.{ByteOrder}
use Rattle.binfarce.specs.declared.Format.{Format}
use Rattle.binfarce.specs.declared.Format.TheVariants.{Elf32, Elf64}
use Rattle.binfarce.specs.Format.{format_of}
use Rattle.binfarce_tables.proofs.Readings.{err_is, taken}
use Rattle.binfarce_tools.specs.Given.{AreContentsOf}
use Rattle.binfarce_tools.specs.SectionAnswer.{is_elf, readers_answer}
use Rattle.binfarce_tools.specs.Tables.{ReadsAs}
use Rattle.binfarce_tools.proofs.SectionAnswers.{unread}
use Rattle.binfarce_tools.proofs.program.read_contents.Goals as goal

of_elf : (format : Format) → ((order : ByteOrder) × (format ≡ Elf32 order)) ⊎ ((order : ByteOrder) × (format ≡ Elf64 order)) → is_elf format ≡ true
of_elf format (inl is) = ap is_elf is.1
of_elf format (inr is) = ap is_elf is.1

pub returns-in_err-tables-in-Elf32 : goal.returns-in_err-tables-in-Elf32
returns-in_err-tables-in-Elf32 g c = λ file known.
    let section = c.args.section.now in
    let MayFail = g.S.Source.may_fail c.args.source.now ≡ true in
    let format_is = taken (c.in_ok-format.ensures.answer file known) in
    let elf : is_elf (format_of file) ≡ true = sym (ap is_elf format_is) ∙ of_elf c.in_ok-format.format c.in-Elf32.is in
    err_is (ReadsAs (AreContentsOf file section) MayFail (readers_answer file section)) c.from_residual-in_err-tables-in-Elf32.result c.in_err-tables-in-Elf32.field-0.0 c.from_residual-in_err-tables-in-Elf32.ensures
    (unread file section elf MayFail c.in_err-tables-in-Elf32.field-0.0 (c.in_err-tables-in-Elf32.ensures.answer file known format_is))
