use Rattle.std.proofs.Common.{ap, sym, ◌∙◌}
use Rattle.binfarce_legacy.specs.machine.Reading.{piece_or_all}
use Rattle.binfarce_legacy.proofs.PieceLemmas.{first_piece-numbered, first_piece-named}
use Rattle.binfarce_legacy.proofs.escapes.escape.Goals as goal

pub returns-then-starts_with-clause-value : goal.returns-then-starts_with-clause-value
returns-then-starts_with-clause-value c =
    first_piece-numbered c.args.name.now c.requires (sym c.if-starts_with.ensures.value)
    ∙ ap (piece_or_all c.args.name.now) (sym c.numbered_escape.ensures.value)

pub returns-else-starts_with-clause-value : goal.returns-else-starts_with-clause-value
returns-else-starts_with-clause-value c =
    first_piece-named c.args.name.now c.requires (sym c.if-starts_with.ensures.value)
    ∙ ap (piece_or_all c.args.name.now) (sym c.named_escape.ensures.value)
