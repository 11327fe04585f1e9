use Rattle.binfarce_bytes.proofs.Drained.{gives_at_first}
use Rattle.binfarce.proofs.Made.{one_more_symbol}
use Rattle.binfarce_bytes.proofs.Rows.{on_err}
use Rattle.binfarce.proofs.symbols.symbols_of.Goals as goal

pub loop-function-preserved : goal.loop-function-preserved
loop-function-preserved g c =
    rw c.in_ok-push.ensures.items
    (one_more_symbol c.loop-function.yielded c.loop-function.symbols.items c.in-Some.function c.in_ok-symbol_of.field-0 c.loop-function.invariant c.in_ok-symbol_of.ensures)

pub returns-in_err-push-clause-memory : goal.returns-in_err-push-clause-memory
returns-in_err-push-clause-memory g c =
    rw (← c.into_iter-function-iterator.ensures.into_iter_gives)
    (on_err c.from_residual-in_err-push.result _
    (gives_at_first g.I.Iterator.next_gives c.into_iter-function-iterator.result c.loop-function.function-iterator c.next.new.self c.loop-function.yielded c.in-Some.function c.loop-function.yielded_by c.in-Some.ensures.steps))

pub returns-in_err-symbol_of-clause-memory : goal.returns-in_err-symbol_of-clause-memory
returns-in_err-symbol_of-clause-memory g c =
    rw (← c.into_iter-function-iterator.ensures.into_iter_gives)
    (on_err c.from_residual.result _
    (gives_at_first g.I.Iterator.next_gives c.into_iter-function-iterator.result c.loop-function.function-iterator c.next.new.self c.loop-function.yielded c.in-Some.function c.loop-function.yielded_by c.in-Some.ensures.steps))
