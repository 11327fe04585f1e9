use Rattle.std.proofs.Common.{◌∙◌, [], inr, ap}
use Rattle.binfarce_words.specs.Words.{finished}
use Rattle.binfarce_words.specs.WordViews.{given_view, reading_view}
use Rattle.binfarce_words.specs.declared.argument.Argument.{Argument}
use Rattle.binfarce_words.specs.declared.argument.Argument.TheVariants.{Text}
use Rattle.binfarce_words.proofs.WordLoop.{all_read, ends, goes_on}
use Rattle.binfarce_words.proofs.reading.read_given.Goals as goal

-- what an argument past the last one would be
abbrev absent : Argument
absent = Text (record { ref_ptr = (0, 0); now = [] })

pub returns-in-Err : goal.returns-in-Err
returns-in-Err c = ends c.args.command c.args.arguments.now c.loop-argument.argument-index absent (reading_view c.loop-argument.reading) c.loop-argument-test.true c.loop-argument.invariant c.in-Err.e c.in-Err.ensures

pub loop-argument-preserved : goal.loop-argument-preserved
loop-argument-preserved c = goes_on c.args.command c.args.arguments.now c.loop-argument.argument-index absent (reading_view c.loop-argument.reading) c.loop-argument-test.true c.loop-argument.invariant (reading_view c.take.new.self) c.in-Ok.ensures

pub returns-in-None : goal.returns-in-None
returns-in-None c =
    all_read c.args.command c.args.arguments.now c.loop-argument.argument-index (reading_view c.loop-argument.reading) c.loop-argument-test.false c.loop-argument.invariant
    ∙ ap (finished (given_view c.loop-argument.reading.given)) c.in-None.is

pub returns : goal.returns
returns c = inr (
  all_read c.args.command c.args.arguments.now c.loop-argument.argument-index (reading_view c.loop-argument.reading) c.loop-argument-test.false c.loop-argument.invariant
      ∙ ap (finished (given_view c.loop-argument.reading.given)) c.in-Some.is,
  tt,
)
