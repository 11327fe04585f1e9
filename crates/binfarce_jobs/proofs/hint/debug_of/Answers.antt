use Rattle.std.proofs.Common.{◌≡◌, ◌∙◌, List, ℕ, Option, ap, inl, inr, subst, sym}
use Rattle.std.specs.Prelude.{IfOk}
use Rattle.binfarce_bytes.specs.declared.format.Format.{Format}
use Rattle.binfarce_tables.proofs.Readings.{taken}
use Rattle.binfarce_jobs.specs.Hints.{debug_as, debug_in, debug_of, stripped_words, words_of}
use Rattle.binfarce_jobs.proofs.hint.debug_of.Goals as goal

pub returns-in-Elf32 : goal.returns-in-Elf32
returns-in-Elf32 g c = λ file is.
    let format = sym (taken (c.in_ok-format.ensures.answer file is)) in
    let found : debug_of file ≡ debug_in file =
    elim c.in-Elf32.is [
      | inl w ↦ ap (λ (f : Format). debug_as f file) (format ∙ w.1)
      | inr w ↦ ap (λ (f : Format). debug_as f file) (format ∙ w.1)
    ] in
    subst (λ (d : Option (List ℕ)). IfOk c.debug_files.result (λ hint. words_of hint ≡ stripped_words d)) (sym found) (c.debug_files.ensures file is)
