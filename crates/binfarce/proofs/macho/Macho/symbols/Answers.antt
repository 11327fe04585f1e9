use Rattle.std.proofs.Common.{sym, ◌∙◌}
use Rattle.binfarce.specs.Symbol.{HoldsSymbols}
use Rattle.binfarce.proofs.Made.{first_of}
use Rattle.binfarce_macho.specs.MachoSymbols.{HasAddress, macho_answer}
use Rattle.binfarce_macho.proofs.MachoAnswers.{out_of_memory_answers, functions_need_address}
use Rattle.binfarce.proofs.macho.Macho.symbols.Goals as goal

pub returns-in_err-symbols-clause-answer : goal.returns-in_err-symbols-clause-answer
returns-in_err-symbols-clause-answer c =
    let file = c.args.self.now in
    let first = first_of c.deref.result.now c.in_err-symbols.ensures.memory in
    out_of_memory_answers HoldsSymbols (λ _. HasAddress file) (macho_answer file) c.from_residual-in_err-symbols.result
    (functions_need_address file c.in_ok-functions.functions c.in_ok-functions.text_size first.0 first.1 c.in_ok-functions.ensures (sym c.deref.ensures.value ∙ first.2))
    c.from_residual-in_err-symbols.ensures.1
