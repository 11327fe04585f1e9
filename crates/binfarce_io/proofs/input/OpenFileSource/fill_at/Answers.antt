use Rattle.std.proofs.Common.{◌∙◌, inl, inr, sym, ap, length, min, ◌-◌, ℕ}
use Rattle.binfarce_io.specs.Input.{file_of, held_of}
use Rattle.binfarce_io.proofs.Holding.{crossed, held_failed, held_read}
use Rattle.binfarce_io.proofs.input.OpenFileSource.fill_at.Goals as goal
use Rattle.binfarce_io.proofs.input.OpenFileSource.fill_at.Goals.{then-is_ok-via-then-is_ok, then-is_ok-via-else-is_ok+then-is_whole}

pub returns-then-is_ok-clause-part : goal.returns-then-is_ok-clause-part
returns-then-is_ok-clause-part g c =
    let may_fail = g.F.Source.may_fail (file_of c.args.self.now) in
    let known = g.F.Source.bytes (file_of c.args.self.now) in
    held_read may_fail known (held_of c.args.self.now) c.in-Some.held c.as_slice.result.now c.args.offset c.in-Some.is c.as_slice.ensures.value
    c.fill_at-filled.new.buf c.fill_at-filled.result c.fill_at-filled.ensures.part

pub returns-then-is_ok-clause-failed : goal.returns-then-is_ok-clause-failed
returns-then-is_ok-clause-failed g c =
    let may_fail = g.F.Source.may_fail (file_of c.args.self.now) in
    let known = g.F.Source.bytes (file_of c.args.self.now) in
    held_failed may_fail known (held_of c.args.self.now) c.in-Some.held c.as_slice.result.now c.args.offset c.in-Some.is c.as_slice.ensures.value
    _ c.fill_at-filled.result (elim c.then-is_ok.branch [
      | then-is_ok-via-then-is_ok w ↦ inl (sym c.is_ok.ensures.value ∙ w.if-is_ok.true)
      | then-is_ok-via-else-is_ok+then-is_whole w ↦ inr (sym w.is_whole.ensures ∙ w.if-is_whole.true)
    ]) c.fill_at-filled.ensures.failed

pub returns-clause-part : goal.returns-clause-part
returns-clause-part g c =
    let may_fail = g.F.Source.may_fail (file_of c.args.self.now) in
    let known = g.F.Source.bytes (file_of c.args.self.now) in
    let bytes = c.deref.result.now in
    let not_all = sym c.is_whole.ensures ∙ c.if-is_whole.false in
    let count = c.copy_at-count.ensures.count ∙ ap (λ (n : ℕ). min (length bytes - c.args.offset) n) (sym c.copy_at-count.auto.buf) in
    crossed may_fail known (held_of c.args.self.now) c.in-Some.held bytes c.args.offset c.in-Some.is c.deref.ensures.value
    c.copy_at-count.result c.copy_at-count.new.buf c.fill_at-2.new.buf c.fill_at-2.result c.keep-2.result not_all count
    c.copy_at-count.ensures.copied c.keep-2.ensures.variant c.fill_at-2.ensures.part
