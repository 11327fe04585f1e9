use Rattle.std.proofs.Common.{◌≡◌, ◌<◌, ◌≤◌, ◌+◌, ◌*◌, ◌^◌, ℕ, length, refl, ap, ◌∙◌, arith}
use Rattle.binfarce_elf.specs.Elf.{Section, whole_headers}
use Rattle.binfarce_elf_memory.specs.ElfEnds.{section_end}
use Rattle.binfarce_elf_memory.specs.SelectionViews.{kind_view}
use Rattle.binfarce_elf.specs.machine.RawElf.{table_view}
use Rattle.binfarce_elf_memory.proofs.Pushed.{product, section_added, section_passed}
use Rattle.binfarce_elf.proofs.Walks.{is_truncated, is_whole}
use Rattle.binfarce_elf_memory.proofs.ends.push_sections.Goals as goal
use Rattle.binfarce_elf_memory.proofs.ends.push_sections.Goals.{in-Err, in-Ok+in_ok-push-in-Ok}

pub loop-index-preserved : goal.loop-index-preserved
loop-index-preserved g c =
    let class = g.C.Class.table in
    let t = table_view c.args.table in
    let kind = kind_view c.args.kind in
    let index = c.loop-index.index in
    let old = c.args.keys.now.items in
    let items = c.loop-index.keys.items in
    let whole = whole_headers class t in
    let some : 0 < class.section_length = omega (arith, g.met.C.Class.some_section, g.met.C.Class.section_length) in
    let from = product c.SECTION_LENGTH.result c.from.result class.section_length index (c.SECTION_LENGTH.ensures ∙ g.met.C.Class.section_length) c.from.ensures in
    let start = c.saturating_add-start.result in
    let real : ℕ = t.shoff + index * class.section_length in
    elim c.match-section_at.branch [
      | in-Err w ↦
          let past : whole ≤ index = is_truncated (length t.file) t.shoff real class.section_length index some refl (omega (arith, w.in-Err.ensures, c.saturating_add-start.ensures, c.saturating_mul.ensures, from)) in
          rw (ap (λ v. v.items) w.keys-is) (section_passed class t kind old items index whole c.loop-index.invariant past)
      | in-Ok+in_ok-push-in-Ok w ↦
          let at : start ≡ real = omega (arith, w.in-Ok.ensures.0, c.saturating_add-start.ensures, c.saturating_mul.ensures, from, some) in
          let inside : index < whole = is_whole (length t.file) t.shoff start class.section_length index some at w.in-Ok.ensures.0 in
          let is = w.key_of.ensures ∙ ap (λ (n : ℕ). index * 2 ^ 64 + n) (w.end_of.ensures ∙ ap (λ (s : Section). (section_end kind s).address) w.in-Ok.ensures.1) in
          rw (ap (λ v. v.items) w.keys-is ∙ w.in_ok-push-in-Ok.ensures.items) (section_added class t kind old items index whole c.loop-index.invariant w.key_of.result start inside at is)
    ]
