use Rattle.std.proofs.Common.{◌∙◌, ap, map}
use Rattle.binfarce_bytes.specs.SymbolViews.{section_function_view, HoldsFunctions}
use Rattle.binfarce_macho.specs.MachoSymbols.{HasAddress, macho_answer}
use Rattle.binfarce_macho.proofs.MachoAnswers.{out_of_memory_answers}
use Rattle.binfarce_macho.proofs.TextAnswers.{alone_error, alone_given, text_needs}
use Rattle.binfarce.proofs.macho.Macho.functions.Goals as goal

pub returns-in_err-functions : goal.returns-in_err-functions
returns-in_err-functions c =
    (alone_error c.args.self.now c.in_err-functions.field-0.0 c.from_residual.result (rw (← c.self.view_is) c.in_err-functions.ensures) c.from_residual.ensures.1)

pub returns-in_err-without_sections : goal.returns-in_err-without_sections
returns-in_err-without_sections c =
    let file = c.args.self.now in
    (out_of_memory_answers HoldsFunctions (λ _. HasAddress file) (macho_answer file) c.from_residual-in_err-without_sections.result
    (text_needs file c.in_ok-functions.functions c.in_ok-functions.size (rw (← c.self.view_is) c.in_ok-functions.ensures) (λ none. c.in_err-without_sections.ensures.memory (c.deref.ensures.value ∙ none)))
    c.from_residual-in_err-without_sections.ensures.1)

pub returns : goal.returns
returns c =
    (alone_given c.args.self.now c.in_ok-functions.functions c.in_ok-functions.size (rw (← c.self.view_is) c.in_ok-functions.ensures) c.in_ok-without_sections.field-0
    (c.in_ok-without_sections.ensures.alone ∙ ap (λ fs. map (λ e. e.entry) (map section_function_view fs)) c.deref.ensures.value))
