use Rattle.std.proofs.Common.{◌≡◌, ◌+◌, ◌≤◌, false, length, sym, ap, ◌∙◌, arith, subst}
use Rattle.std.proofs.lemmas.Bool.{eqb-false}
use Rattle.binfarce_bytes.specs.Number.{bytes_at}
use Rattle.binfarce_bytes.specs.Part.{part}
use Rattle.binfarce_macho.specs.MachoParts.{holds_commands}
use Rattle.binfarce_tables.specs.MachoReads.{said_end}
use Rattle.binfarce_tables.proofs.MachoPrefix.{prefix_long}
use Rattle.binfarce_tables.proofs.MachoSure.{header_part, prefix_part, file_part}
use Rattle.binfarce_tables.proofs.Readings.{held, taken}
use Rattle.binfarce_tables.proofs.Sure.{one, next, passed_only}
use Rattle.binfarce_tables.proofs.macho.read_commands.Goals.{then-end-opened, else-end-opened}
use Rattle.binfarce_tables.proofs.macho.read_commands.Goals as goal

pub returns-in_err-end-clause-only : goal.returns-in_err-end-clause-only
returns-in_err-end-clause-only g c = λ file known. passed_only _ (one (λ P. header_part P file) (c.in_err-end.ensures.only file known)) c.from_residual.ensures

pub returns-in_err-commands-clause-only : goal.returns-in_err-commands-clause-only
returns-in_err-commands-clause-only g c = λ file known.
    let end = held 28 file _ _ (c.in_ok-end.ensures.answer file known) in
    passed_only _ (next (one (λ P. header_part P file) (c.in_ok-end.ensures.only file known)) (one (λ P all. subst (λ n. P (part 0 n)) (sym end) (prefix_part P file all)) c.in_err-commands.ensures.only))
    c.from_residual-in_err-commands.ensures

pub returns-then-are_held-clause-only : goal.returns-then-are_held-clause-only
returns-then-are_held-clause-only g c = λ file known.
    let end = held 28 file _ _ (c.in_ok-end.ensures.answer file known) in
    next (one (λ P. header_part P file) (c.in_ok-end.ensures.only file known)) (one (λ P all. subst (λ n. P (part 0 n)) (sym end) (prefix_part P file all)) c.in_ok-commands.ensures.only)

pub returns-else-are_held-clause-only : goal.returns-else-are_held-clause-only
returns-else-are_held-clause-only g c = λ file known.
    let end : c.in_ok-end.end ≡ said_end file = held 28 file _ _ (c.in_ok-end.ensures.answer file known) in
    let inside : said_end file ≤ length file = omega arith in
    let there : 0 + c.in_ok-end.end ≤ length file = omega (arith, end, inside) in
    let are : c.in_ok-commands.commands.items ≡ bytes_at file 0 (said_end file) = taken (c.in_ok-commands.ensures.part file known.0 there) ∙ ap (bytes_at file 0) end in
    let whole : 28 ≤ length c.in_ok-commands.commands.items = omega (arith, ap length are, prefix_long file (said_end file) inside, c.in_ok-end.ensures.long, known.1) in
    elim c.if-end-opened.branch [
      | then-end-opened w ↦ absurd (eqb-false c.in_ok-end.end c.args.opened.now.len (sym w.value-is ∙ c.if-are_held.false) w.if-end-opened.true)
      | else-end-opened w ↦
          let past : holds_commands (bytes_at file 0 (said_end file)) ≡ false = sym (ap holds_commands (w.deref.ensures.value ∙ are)) ∙ sym (w.are_held.ensures (omega (arith, ap length w.deref.ensures.value, whole))) ∙ (sym w.value-is ∙ c.if-are_held.false) in
          next (one (λ P. header_part P file) (c.in_ok-end.ensures.only file known))
          (next (one (λ P all. subst (λ n. P (part 0 n)) (sym end) (prefix_part P file all)) c.in_ok-commands.ensures.only)
          (one (λ P all. subst (λ n. P (part 0 n)) (sym known.1) (file_part P file past all)) c.part-else-are_held.ensures.only))
    ]
