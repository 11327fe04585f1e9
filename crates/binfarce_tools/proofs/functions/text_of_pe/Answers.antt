use Rattle.binfarce.specs.PeSymbols.{pe_answer, pe_file_answer}
use Rattle.binfarce.specs.Symbol.{ListsSome}
use Rattle.binfarce_tools.proofs.FilesGive.{pe_text_is, text_given, text_not_given}
use Rattle.binfarce_tools.proofs.functions.text_of_pe.Goals as goal

pub returns-in_err-functions : goal.returns-in_err-functions
returns-in_err-functions c =
    let file = c.args.file.now in
    text_not_given ListsSome (pe_answer file) (pe_file_answer file) (pe_text_is file c.in_ok-pe_pointer.ensures.0)
    c.in_err-functions.field-0.0 c.from_residual-in_err-functions.result c.in_err-functions.ensures c.from_residual-in_err-functions.ensures.1

pub returns : goal.returns
returns c =
    let file = c.args.file.now in
    text_given ListsSome (pe_answer file) (pe_file_answer file) (pe_text_is file c.in_ok-pe_pointer.ensures.0)
    c.in_ok-functions.functions c.in_ok-functions.size c.listed.result c.in_ok-functions.ensures (c.listed.ensures.functions, c.listed.ensures.size)
