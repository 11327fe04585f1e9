use Rattle.std.proofs.Common.{arith}
use Rattle.binfarce_elf_memory.proofs.Keys.{no_key, end_there, no_end}
use Rattle.binfarce_elf_memory.proofs.ends.end_above.Goals as goal

pub returns-in_err-next-clause-is : goal.returns-in_err-next-clause-is
returns-in_err-next-clause-is c = λ ends are.
    no_key ends c.args.keys.now c.args.section c.args.address are c.ranges.address.fits c.key_of.result c.key_of.ensures c.from_residual.result c.from_residual.ensures c.in_err-next.ensures.is

pub returns-then-end-lt-ADDRESSES-clause-is : goal.returns-then-end-lt-ADDRESSES-clause-is
returns-then-end-lt-ADDRESSES-clause-is c = λ ends are.
    end_there ends c.args.keys.now c.args.section c.args.address are c.ranges.address.fits c.key_of.result c.key_of.ensures c.in_ok-next.next c.key_of-2.result c.in_ok-next.ensures.is (omega (arith, c.key_of-2.ensures)) c.if-end-lt-ADDRESSES.true

pub returns-else-end-lt-ADDRESSES-clause-is : goal.returns-else-end-lt-ADDRESSES-clause-is
returns-else-end-lt-ADDRESSES-clause-is c = λ ends are.
    no_end ends c.args.keys.now c.args.section c.args.address are c.ranges.address.fits c.key_of.result c.key_of.ensures c.in_ok-next.next c.key_of-2.result c.in_ok-next.ensures.is (omega (arith, c.key_of-2.ensures)) c.if-end-lt-ADDRESSES.false
