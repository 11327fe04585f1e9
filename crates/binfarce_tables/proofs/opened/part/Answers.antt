use Rattle.std.specs.IoError.{error_kind}
use Rattle.binfarce_tables.proofs.Readings.{no_refusal, unread, part_read, none_past, surely}
use Rattle.binfarce_tables.proofs.Sure.{only}
use Rattle.std.proofs.Common.{◌≡◌, ◌∙◌, true}
use Rattle.binfarce_tables.proofs.opened.part.Goals as goal

pub returns-clause-part : goal.returns-clause-part
returns-clause-part g c = λ file known inside. part_read _ file _ _ _ known c.in_ok-read_part.ensures.part (c.in_ok-read_part.ensures.size ∙ c.to_index.ensures)

pub returns-clause-past_end : goal.returns-clause-past_end
returns-clause-past_end g c = λ file known past. absurd (none_past _ file _ _ _ known c.in_ok-read_part.ensures.part (c.in_ok-read_part.ensures.size ∙ c.to_index.ensures) past)

pub returns-in_err-read_part-clause-part : goal.returns-in_err-read_part-clause-part
returns-in_err-read_part-clause-part g c = λ file known inside.
    unread (g.S.Source.may_fail c.args.source.now) _ _ (g.S.Source.bytes c.args.source.now) file c.args.offset c.args.size (error_kind c.in_err-read_part.field-0.0) c.from_residual.result known inside (rw c.to_index.ensures at c.in_err-read_part.ensures.failed) c.from_residual.ensures

pub returns-in_err-read_part-clause-failed : goal.returns-in_err-read_part-clause-failed
returns-in_err-read_part-clause-failed g c = no_refusal (error_kind c.in_err-read_part.field-0.0) c.from_residual.result c.from_residual.ensures

pub returns-in_err-read_part-clause-only : goal.returns-in_err-read_part-clause-only
returns-in_err-read_part-clause-only g c = record {
  asked = rw c.to_index.ensures at c.in_err-read_part.ensures.asked;
  given = λ are. surely _ (error_kind c.in_err-read_part.field-0.0) c.from_residual.result (only (λ p. g.S.Source.is_sure c.args.source.now p ≡ true) _ are) (rw c.to_index.ensures at c.in_err-read_part.ensures.unsure) c.from_residual.ensures;
}
