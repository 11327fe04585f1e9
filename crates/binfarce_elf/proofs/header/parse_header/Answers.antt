use Rattle.std.proofs.Common.{◌≡◌, Result, Ok, Err, ap, ◌∙◌, arith, MatchResult}
use Rattle.std.specs.Result.{IsErr}
use Rattle.binfarce_elf.proofs.Headers.{header_is}
use Rattle.binfarce_elf.proofs.header.parse_header.Goals as goal

truncated : {T E : Type 0} (P : T → Type 0) (Q : Type 0) (result : Result T E) → IsErr result → Q → MatchResult result P (λ _. Q)
truncated P Q (Ok header) is_err short = absurd cc
truncated P Q (Err e) is_err short = short

-- each field is the number at its offset
pub returns : goal.returns
returns g c =
    let w = g.C.RawNumber.SIZE in
    let order = c.args.byte_order in
    let is : c.SIZE-word.result ≡ w = c.SIZE-word.ensures in
    let number = g.C.Class.number_of in (
      omega (arith, c.in_ok-number_at-13.ensures.0, g.met.C.Class.header_length, is),
      header_is g.C.Class.table w order c.args.file.now _ _ _ _ _ _ _ _ _ _ _ _ _ g.met.C.Class.header
          c.in_ok-number_at.ensures.1
          c.in_ok-number_at-2.ensures.1
          c.in_ok-number_at-3.ensures.1
          (ap number c.in_ok-number_at-4.ensures.1 ∙ g.met.C.Class.word order _)
          (ap number (rw is at c.in_ok-number_at-5.ensures.1) ∙ g.met.C.Class.word order _)
          (ap number (rw is at c.in_ok-number_at-6.ensures.1) ∙ g.met.C.Class.word order _)
          (rw is at c.in_ok-number_at-7.ensures.1)
          (rw is at c.in_ok-number_at-8.ensures.1)
          (rw is at c.in_ok-number_at-9.ensures.1)
          (rw is at c.in_ok-number_at-10.ensures.1)
          (rw is at c.in_ok-number_at-11.ensures.1)
          (rw is at c.in_ok-number_at-12.ensures.1)
          (rw is at c.in_ok-number_at-13.ensures.1),
    )

-- a word has at most 8 bytes

pub overflow_add-word : goal.overflow_add-word
overflow_add-word g c = omega (arith, g.met.C.Class.narrow_word, c.SIZE-word.ensures)

pub overflow_mul-word : goal.overflow_mul-word
overflow_mul-word g c = omega (arith, g.met.C.Class.narrow_word, c.SIZE-word.ensures)

pub overflow_add-word-2 : goal.overflow_add-word-2
overflow_add-word-2 g c = omega (arith, g.met.C.Class.narrow_word, c.SIZE-word.ensures)

pub overflow_mul-word-2 : goal.overflow_mul-word-2
overflow_mul-word-2 g c = omega (arith, g.met.C.Class.narrow_word, c.SIZE-word.ensures)

pub overflow_add-word-3 : goal.overflow_add-word-3
overflow_add-word-3 g c = omega (arith, g.met.C.Class.narrow_word, c.SIZE-word.ensures)

pub overflow_mul-word-3 : goal.overflow_mul-word-3
overflow_mul-word-3 g c = omega (arith, g.met.C.Class.narrow_word, c.SIZE-word.ensures)

pub overflow_add-word-4 : goal.overflow_add-word-4
overflow_add-word-4 g c = omega (arith, g.met.C.Class.narrow_word, c.SIZE-word.ensures)

pub overflow_mul-word-4 : goal.overflow_mul-word-4
overflow_mul-word-4 g c = omega (arith, g.met.C.Class.narrow_word, c.SIZE-word.ensures)

pub overflow_add-word-5 : goal.overflow_add-word-5
overflow_add-word-5 g c = omega (arith, g.met.C.Class.narrow_word, c.SIZE-word.ensures)

pub overflow_mul-word-5 : goal.overflow_mul-word-5
overflow_mul-word-5 g c = omega (arith, g.met.C.Class.narrow_word, c.SIZE-word.ensures)

pub overflow_add-word-6 : goal.overflow_add-word-6
overflow_add-word-6 g c = omega (arith, g.met.C.Class.narrow_word, c.SIZE-word.ensures)

pub overflow_mul-word-6 : goal.overflow_mul-word-6
overflow_mul-word-6 g c = omega (arith, g.met.C.Class.narrow_word, c.SIZE-word.ensures)

pub overflow_add-word-7 : goal.overflow_add-word-7
overflow_add-word-7 g c = omega (arith, g.met.C.Class.narrow_word, c.SIZE-word.ensures)

pub overflow_mul-word-7 : goal.overflow_mul-word-7
overflow_mul-word-7 g c = omega (arith, g.met.C.Class.narrow_word, c.SIZE-word.ensures)

pub overflow_add-word-8 : goal.overflow_add-word-8
overflow_add-word-8 g c = omega (arith, g.met.C.Class.narrow_word, c.SIZE-word.ensures)

pub overflow_mul-word-8 : goal.overflow_mul-word-8
overflow_mul-word-8 g c = omega (arith, g.met.C.Class.narrow_word, c.SIZE-word.ensures)

pub overflow_add-word-9 : goal.overflow_add-word-9
overflow_add-word-9 g c = omega (arith, g.met.C.Class.narrow_word, c.SIZE-word.ensures)

-- a number that isn't there is below the header's length

pub returns-in_err-number_at : goal.returns-in_err-number_at
returns-in_err-number_at g c = truncated _ _ c.from_residual.result c.from_residual.ensures.0 (omega (arith, c.in_err-number_at.ensures, g.met.C.Class.header_length, c.SIZE-word.ensures))

pub returns-in_err-number_at-2 : goal.returns-in_err-number_at-2
returns-in_err-number_at-2 g c = truncated _ _ c.from_residual-in_err-number_at-2.result c.from_residual-in_err-number_at-2.ensures.0 (omega (arith, c.in_err-number_at-2.ensures, g.met.C.Class.header_length, c.SIZE-word.ensures))

pub returns-in_err-number_at-3 : goal.returns-in_err-number_at-3
returns-in_err-number_at-3 g c = truncated _ _ c.from_residual-in_err-number_at-3.result c.from_residual-in_err-number_at-3.ensures.0 (omega (arith, c.in_err-number_at-3.ensures, g.met.C.Class.header_length, c.SIZE-word.ensures))

pub returns-in_err-number_at-4 : goal.returns-in_err-number_at-4
returns-in_err-number_at-4 g c = truncated _ _ c.from_residual-in_err-number_at-4.result c.from_residual-in_err-number_at-4.ensures.0 (omega (arith, c.in_err-number_at-4.ensures, g.met.C.Class.header_length, c.SIZE-word.ensures))

pub returns-in_err-number_at-5 : goal.returns-in_err-number_at-5
returns-in_err-number_at-5 g c = truncated _ _ c.from_residual-in_err-number_at-5.result c.from_residual-in_err-number_at-5.ensures.0 (omega (arith, c.in_err-number_at-5.ensures, g.met.C.Class.header_length, c.SIZE-word.ensures))

pub returns-in_err-number_at-6 : goal.returns-in_err-number_at-6
returns-in_err-number_at-6 g c = truncated _ _ c.from_residual-in_err-number_at-6.result c.from_residual-in_err-number_at-6.ensures.0 (omega (arith, c.in_err-number_at-6.ensures, g.met.C.Class.header_length, c.SIZE-word.ensures))

pub returns-in_err-number_at-7 : goal.returns-in_err-number_at-7
returns-in_err-number_at-7 g c = truncated _ _ c.from_residual-in_err-number_at-7.result c.from_residual-in_err-number_at-7.ensures.0 (omega (arith, c.in_err-number_at-7.ensures, g.met.C.Class.header_length, c.SIZE-word.ensures))

pub returns-in_err-number_at-8 : goal.returns-in_err-number_at-8
returns-in_err-number_at-8 g c = truncated _ _ c.from_residual-in_err-number_at-8.result c.from_residual-in_err-number_at-8.ensures.0 (omega (arith, c.in_err-number_at-8.ensures, g.met.C.Class.header_length, c.SIZE-word.ensures))

pub returns-in_err-number_at-9 : goal.returns-in_err-number_at-9
returns-in_err-number_at-9 g c = truncated _ _ c.from_residual-in_err-number_at-9.result c.from_residual-in_err-number_at-9.ensures.0 (omega (arith, c.in_err-number_at-9.ensures, g.met.C.Class.header_length, c.SIZE-word.ensures))

pub returns-in_err-number_at-10 : goal.returns-in_err-number_at-10
returns-in_err-number_at-10 g c = truncated _ _ c.from_residual-in_err-number_at-10.result c.from_residual-in_err-number_at-10.ensures.0 (omega (arith, c.in_err-number_at-10.ensures, g.met.C.Class.header_length, c.SIZE-word.ensures))

pub returns-in_err-number_at-11 : goal.returns-in_err-number_at-11
returns-in_err-number_at-11 g c = truncated _ _ c.from_residual-in_err-number_at-11.result c.from_residual-in_err-number_at-11.ensures.0 (omega (arith, c.in_err-number_at-11.ensures, g.met.C.Class.header_length, c.SIZE-word.ensures))

pub returns-in_err-number_at-12 : goal.returns-in_err-number_at-12
returns-in_err-number_at-12 g c = truncated _ _ c.from_residual-in_err-number_at-12.result c.from_residual-in_err-number_at-12.ensures.0 (omega (arith, c.in_err-number_at-12.ensures, g.met.C.Class.header_length, c.SIZE-word.ensures))

pub returns-in_err-number_at-13 : goal.returns-in_err-number_at-13
returns-in_err-number_at-13 g c = truncated _ _ c.from_residual-in_err-number_at-13.result c.from_residual-in_err-number_at-13.ensures.0 (omega (arith, c.in_err-number_at-13.ensures, g.met.C.Class.header_length, c.SIZE-word.ensures))
