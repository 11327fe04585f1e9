use Rattle.std.proofs.Common.{◌∙◌, arith}
use Rattle.binfarce_elf.specs.Elf.{elf32}
use Rattle.binfarce_elf.proofs.RowParts.{part_length, row_of_32_is}
use Rattle.binfarce_elf.proofs.class.row_at_32.Goals as goal

-- each field is the number at its offset
pub returns : goal.returns
unfolding elf32
returns c = (
  c.in_ok-row.ensures.0,
  row_of_32_is c.args.byte_order c.args.bytes.now c.in_ok-row.row.now c.args.start _ _ _ _ _ _ c.in_ok-row.ensures.1
      c.in_ok-number_at.ensures.1 (c.from.ensures ∙ c.in_ok-number_at-2.ensures.1) (c.from-2.ensures ∙ c.in_ok-number_at-3.ensures.1) c.in_ok-number_at-4.ensures.1 c.in_ok-number_at-5.ensures.1 c.in_ok-number_at-6.ensures.1,
)

-- a row is long enough
pub returns-in_err-number_at-3 : goal.returns-in_err-number_at-3
returns-in_err-number_at-3 c = absurd (omega (arith, c.in_err-number_at-3.ensures, part_length c.args.bytes.now c.in_ok-row.row.now c.args.start 16 c.in_ok-row.ensures.0 c.in_ok-row.ensures.1))

pub returns-in_err-number_at-4 : goal.returns-in_err-number_at-4
returns-in_err-number_at-4 c = absurd (omega (arith, c.in_err-number_at-4.ensures, part_length c.args.bytes.now c.in_ok-row.row.now c.args.start 16 c.in_ok-row.ensures.0 c.in_ok-row.ensures.1))

pub returns-in_err-number_at-5 : goal.returns-in_err-number_at-5
returns-in_err-number_at-5 c = absurd (omega (arith, c.in_err-number_at-5.ensures, part_length c.args.bytes.now c.in_ok-row.row.now c.args.start 16 c.in_ok-row.ensures.0 c.in_ok-row.ensures.1))

pub returns-in_err-number_at-6 : goal.returns-in_err-number_at-6
returns-in_err-number_at-6 c = absurd (omega (arith, c.in_err-number_at-6.ensures, part_length c.args.bytes.now c.in_ok-row.row.now c.args.start 16 c.in_ok-row.ensures.0 c.in_ok-row.ensures.1))
