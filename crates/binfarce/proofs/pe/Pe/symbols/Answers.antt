use Rattle.binfarce_bytes.specs.Entries.{ListsSome}
use Rattle.binfarce.proofs.Made.{symbols_held}
use Rattle.binfarce_pe.specs.PeSymbols.{pe_answer}
use Rattle.binfarce_pe.proofs.Strictly.{rows_arranged}
use Rattle.binfarce.proofs.PeSizes.{sizes_agree}
use Rattle.binfarce.proofs.pe.Pe.symbols.Goals as goal

pub returns-in_err-functions-clause-order : goal.returns-in_err-functions-clause-order
returns-in_err-functions-clause-order c = rows_arranged c.args.self.now

pub returns-in_err-symbols-clause-order : goal.returns-in_err-symbols-clause-order
returns-in_err-symbols-clause-order c = rows_arranged c.args.self.now

pub returns-clause-answer : goal.returns-clause-answer
returns-clause-answer c =
    symbols_held ListsSome (pe_answer c.args.self.now) c.in_ok-functions.functions c.in_ok-functions.size c.deref.result.now c.in_ok-symbols.symbols
    c.in_ok-functions.ensures c.deref.ensures.value c.in_ok-symbols.ensures.symbols

pub returns-clause-order : goal.returns-clause-order
returns-clause-order c = rows_arranged c.args.self.now

pub returns-clause-sizes : goal.returns-clause-sizes
returns-clause-sizes c = sizes_agree c.args.self.now c.in_ok-symbols.symbols c.in_ok-functions.size (returns-clause-answer c)
