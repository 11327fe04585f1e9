use Rattle.std.proofs.Common.{◌≡◌, ℕ, List, All, sym, subst}
use Rattle.std.proofs.lemmas.List.Elements.{All-head, All-tail}
use Rattle.binfarce_bytes.specs.Part.{Part}
use Rattle.binfarce.specs.declared.Format.{Format}
use Rattle.binfarce.specs.Format.{format_of}
use Rattle.binfarce.specs.declared.SymbolTable.{SymbolTable}
use Rattle.binfarce_tables.proofs.Readings.{taken}
use Rattle.binfarce_tables.proofs.Sure.{within, one, next, passed_only}
use Rattle.binfarce_tools.specs.Parts.{head_part, format_parts, parts_in}
use Rattle.binfarce_tools.proofs.tables.read.Goals as goal

-- what is true of each part that is read is true of those that name the format, and of those that the reading of this format reads
head_is : (P : Part → Type 0) (which : SymbolTable) (file : List ℕ) → All P (parts_in which file) → P (head_part file)
head_is P which file all = All-head P (head_part file) (format_parts which (format_of file) file) all

others_are : (P : Part → Type 0) (which : SymbolTable) (file : List ℕ) (format : Format) → format ≡ format_of file → All P (parts_in which file) → All P (format_parts which format file)
others_are P which file format format_is all =
    subst (λ (f : Format). All P (format_parts which f file)) (sym format_is) (All-tail P (head_part file) (format_parts which (format_of file) file) all)

pub returns-clause-answer : goal.returns-clause-answer
returns-clause-answer g c = λ file known. c.read_tables.ensures.answer file known (taken (c.in_ok-format.ensures.answer file known))

pub returns-in_err-format-clause-only : goal.returns-in_err-format-clause-only
returns-in_err-format-clause-only g c = λ file known.
    passed_only _ (one (λ P. head_is P c.args.which file) (c.in_err-format.ensures.only file known)) c.from_residual.ensures

pub returns-clause-only : goal.returns-clause-only
returns-clause-only g c = λ file known.
    next (one (λ P. head_is P c.args.which file) (c.in_ok-format.ensures.only file known))
    (within (λ P. others_are P c.args.which file c.in_ok-format.format (taken (c.in_ok-format.ensures.answer file known))) (c.read_tables.ensures.only file known))
