use Rattle.std.proofs.Common.{List, Ok, refl, rules, subst}
use Rattle.binfarce.specs.Symbol.{Entry}
use Rattle.binfarce_addresses.specs.Stream.{AnswersAll, AnswersSome, AnswersWhole, Streams}
use Rattle.binfarce_addresses.specs.declared.lookup.Lookup.{Lookup}
use Rattle.binfarce_addresses.proofs.Answering.{none_answered, some_answered}
use Rattle.binfarce_addresses.proofs.Streams.{stopped}
use Rattle.binfarce_addresses.proofs.stream.answer_lines.Goals as goal

pub pass_stream-requires-clause-begins : goal.pass_stream-requires-clause-begins
pass_stream-requires-clause-begins g c = (refl, none_answered c.in_ok-with_room.field-0.0 c.in_ok-with_room.field-0.1 c.new.result.items c.new-2.result c.new.ensures.items c.new-2.ensures)

pub pass_stream-requires-clause-breaks_off : goal.pass_stream-requires-clause-breaks_off
pass_stream-requires-clause-breaks_off g c = some_answered c.in_ok-with_room.field-0.0 c.in_ok-with_room.field-0.1

pub returns-in_err-with_room-clause-answers : goal.returns-in_err-with_room-clause-answers
returns-in_err-with_room-clause-answers g c = stopped (AnswersAll c.args.places.now c.args.lookup) (AnswersWhole c.args.places.now c.args.lookup) (AnswersSome c.args.places.now c.args.lookup) (g.R.Read.remaining c.args.input.now) (g.S.Sink.taken c.args.out.now) c.from_residual.result (some_answered c.args.places.now c.args.lookup) c.from_residual.ensures.1

pub returns-in_err-pass_stream-clause-answers : goal.returns-in_err-pass_stream-clause-answers
returns-in_err-pass_stream-clause-answers g c =
    let P : List Entry × Lookup → Type 0 = λ s. Streams s.0 s.1 (g.R.Read.remaining c.args.input.now) (g.R.Read.remaining c.pass_stream.new.input) (g.S.Sink.taken c.args.out.now) (g.S.Sink.taken c.pass_stream.new.output) c.from_residual-in_err-pass_stream.result in
    subst P c.in_ok-with_room.ensures (search rules)

pub returns-clause-answers : goal.returns-clause-answers
returns-clause-answers g c =
    let P : List Entry × Lookup → Type 0 = λ s. Streams s.0 s.1 (g.R.Read.remaining c.args.input.now) (g.R.Read.remaining c.pass_stream.new.input) (g.S.Sink.taken c.args.out.now) (g.S.Sink.taken c.pass_stream.new.output) (Ok c.pass_stream.new.pass.counts) in
    subst P c.in_ok-with_room.ensures (search rules)
