use Rattle.std.proofs.Common.{Some}
use Rattle.binfarce.specs.declared.SymbolTable.TheVariants.{Symtab}
use Rattle.binfarce_tools.specs.Answer.{file_answer, MemoryIn}
use Rattle.binfarce_tools.proofs.Listings.{listed, not_listed}
use Rattle.binfarce_tools.proofs.Selected.{sized_in}
use Rattle.binfarce_tools.proofs.functions.functions_of_file.Goals as goal

pub returns-in_err-section_functions : goal.returns-in_err-section_functions
returns-in_err-section_functions c =
    not_listed (MemoryIn c.args.file.now (Some c.args.section.now)) (file_answer c.args.file.now c.args.section.now) c.in_err-section_functions.field-0.0 c.from_residual.result c.in_err-section_functions.ensures c.from_residual.ensures.1

pub returns : goal.returns
returns c =
    listed (MemoryIn c.args.file.now (Some c.args.section.now)) (file_answer c.args.file.now c.args.section.now) (λ seen is. (sized_in Symtab c.args.file.now (Some c.args.section.now) seen is).0)
    c.in_ok-section_functions.field-0 c.into_list-functions.result c.unwrap_or.result c.in_ok-section_functions.ensures c.into_list-functions.ensures.functions c.into_list-functions.ensures.size c.unwrap_or.ensures
