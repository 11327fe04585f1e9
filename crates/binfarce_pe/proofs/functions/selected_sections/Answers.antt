use Rattle.std.proofs.Common.{◌≡◌, ◌≤◌, List, ℕ, length, Option, Result, Ok, Err, ap, arith, refl, sym}
use Rattle.std.specs.Result.{IsErr, IsErrAnd}
use Rattle.std.proofs.lemmas.Bool.{le-ltb}
use Rattle.binfarce_bytes.specs.declared.error.ParseError.{ParseError}
use Rattle.binfarce_bytes.specs.declared.error.ParseError.TheVariants.{UnexpectedEof}
use Rattle.binfarce_bytes.specs.Refusal.{Gives, refusal_of, unexpected_eof}
use Rattle.binfarce_bytes.specs.Selection.{section_of}
use Rattle.binfarce_pe.specs.Pe.{sections_offset}
use Rattle.binfarce_pe.specs.PeParts.{TablePlaces, table_walk}
use Rattle.binfarce_pe.specs.PeSelection.{sections_in, sections_view}
use Rattle.binfarce_pe.specs.declared.functions.SelectedSections.{SelectedSections}
use Rattle.binfarce_pe.proofs.functions.selected_sections.Goals as goal

-- a section table behind the file's end is refused
past_the_end : (section : Option (List ℕ)) (file : List ℕ) → length file ≤ sections_offset file → sections_in section file ≡ Err unexpected_eof
unfolding table_walk
past_the_end section file past = rw (le-ltb (sections_offset file) (length file) past) refl

refused : (r : Result SelectedSections ParseError) → (IsErr r × IsErrAnd r (λ e. e ≡ UnexpectedEof)) → Gives refusal_of sections_view (Err unexpected_eof) r
refused (Ok x) is = absurd cc
refused (Err e) is = ap (λ (p : ParseError). Err (refusal_of p)) (sym is.1)

pub returns-in_err-header-clause-answer : goal.returns-in_err-header-clause-answer
returns-in_err-header-clause-answer c =
    let file = c.args.file.now in
    let begins = ap (λ (p : TablePlaces). p.optional_header) c.requires in
    let size = ap (λ (p : TablePlaces). p.optional_header_size) c.requires in
    let past : length file ≤ sections_offset file = omega (arith, begins, size, c.in_err-header.ensures) in
    rw (past_the_end (section_of c.args.selection) file past) (refused c.from_residual.result c.from_residual.ensures)
