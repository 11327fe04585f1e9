use Rattle.std.proofs.Common.{◌≡◌, ◌-◌, ◌*◌, ◌/◌, ◌≤◌, ℕ, Option, ap, ap₂, sym, ◌∙◌, arith, length, subst}
use Rattle.std.specs.Option.{option_or}
use Rattle.binfarce_elf_memory.specs.ElfSegments.{code_at, program_length}
use Rattle.binfarce_elf_memory.specs.declared.segments.CodeSegment.{CodeSegment}
use Rattle.binfarce_elf_memory.proofs.Firsts.{first_before}
use Rattle.binfarce_elf_memory.proofs.segments.code_segment.Goals as goal

pub loop-i-preserved : goal.loop-i-preserved
loop-i-preserved c =
    let headers = c.args.headers.now in
    let size = program_length c.args.width in
    let h : ℕ → Option CodeSegment = λ i. code_at c.args.width c.args.byte_order headers (i * size) in
    let n = length headers / size in
    let i = c.loop-i.i in
    let here : c.code_at.result ≡ h (i - 1) = c.code_at.ensures ∙ ap (λ (s : ℕ). code_at c.args.width c.args.byte_order headers ((i - 1) * s)) c.program_length-length.ensures.is in
    let within : i ≤ n = subst (λ (s : ℕ). i ≤ length headers / s) c.program_length-length.ensures.is c.loop-i.auto.i in
    c.or-first.ensures ∙ ap₂ option_or here c.loop-i.invariant
    ∙ sym (first_before h (i - 1) i (n - i) (n - (i - 1)) (omega (arith, c.loop-i-test.true)) (omega (arith, c.loop-i-test.true, within)))
