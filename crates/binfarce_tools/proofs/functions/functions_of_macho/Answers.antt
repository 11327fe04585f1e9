use Rattle.std.proofs.Common.{Some}
use Rattle.binfarce.specs.MachoSections.{HasSection}
use Rattle.binfarce.specs.MachoSelection.{selected_answer, selected_file_answer}
use Rattle.binfarce_tools.proofs.FilesGive.{given, macho_is, not_given}
use Rattle.binfarce_tools.proofs.functions.functions_of_macho.Goals as goal

pub returns-in_err-functions : goal.returns-in_err-functions
returns-in_err-functions c =
    let section = Some c.args.section.now in
    not_given (λ f _. HasSection f) _ c.args.file.now c.in_ok-parse.ensures.1 (selected_answer section) (selected_file_answer section c.args.file.now) (macho_is section c.args.file.now c.in_ok-parse.ensures.0)
    c.in_err-functions.field-0.0 c.from_residual-in_err-functions.result c.in_err-functions.ensures c.from_residual-in_err-functions.ensures.1

pub returns : goal.returns
returns c =
    let section = Some c.args.section.now in
    given (λ f _. HasSection f) _ c.args.file.now c.in_ok-parse.ensures.1 (selected_answer section) (selected_file_answer section c.args.file.now) (macho_is section c.args.file.now c.in_ok-parse.ensures.0)
    c.in_ok-functions.functions c.in_ok-functions.size c.listed.result c.in_ok-functions.ensures (c.listed.ensures.functions, c.listed.ensures.size)
