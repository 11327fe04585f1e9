use Rattle.std.proofs.Common.{◌∙◌, ◌&&◌, ℕ, Bool, Option, List, Ok, ap, ap₂, is_some, subst, sym}
use Rattle.binfarce_jobs.specs.Files.{Refused, state_of}
use Rattle.binfarce_sections.specs.Sums.{FileSums}
use Rattle.binfarce_sections.specs.Tables.{AreTablesOf}
use Rattle.binfarce_jobs.specs.declared.limit.Verdict.{Verdict}
use Rattle.binfarce_calls.specs.Compared.{by_sections}
use Rattle.binfarce_calls.specs.Summed.{HasNoSections, MayBeRefused}
use Rattle.binfarce_calls.specs.machine.Reported.{ReportsUnless}
use Rattle.binfarce_calls.specs.machine.Steps.{HasRead, HasSums, Steps, messages}
use Rattle.binfarce_calls.proofs.Pairs.{one_file as one_reported, two_files}
use Rattle.binfarce_calls.proofs.Steps.{broke_off, compared, none_passed, one_file}
use Rattle.binfarce_calls.proofs.compare.compare_sections.Goals as goal

pub returns-clause-reports : goal.returns-clause-reports
returns-clause-reports g c =
    let old = c.args.pair.now.old.now in
    let new = c.args.pair.now.new.now in
    let start = g.Y.System.reports c.args.system.now in
    let between = g.Y.System.reports c.section_sums.new.system in
    let end = g.Y.System.reports c.section_sums-2.new.system in
    let verdict : Verdict = record { is_done = c.is_some.result && c.is_some-2.result; is_above = c.in_ok-is_above.is_above } in
    let first = one_reported old start (g.Y.System.reports c.sections_at.new.system) between c.in_ok-old.old c.in_ok-before.before c.in_ok-old.ensures.reports c.in_ok-before.ensures.reports in
    let second = one_reported new between (g.Y.System.reports c.sections_at-2.new.system) end c.in_ok-new.new c.in_ok-after.after c.in_ok-new.ensures.reports c.in_ok-after.ensures.reports in
    two_files old new start between (g.Y.System.reports c.write_section_changes.new.system) (is_some c.in_ok-before.before) (is_some c.in_ok-after.after) verdict first
    (subst (λ (after : Option (List Refused)). ReportsUnless new between after (is_some c.in_ok-after.after)) (sym c.in_ok-is_above.ensures.reports) second)
    (ap₂ (λ (x y : Bool). x && y) c.is_some.ensures c.is_some-2.ensures)

pub returns-in_err-old-clause-compares : goal.returns-in_err-old-clause-compares
returns-in_err-old-clause-compares g c = λ old new old_is new_is. absurd (c.in_err-old.ensures.reads old old_is)

pub returns-in_err-before-clause-compares : goal.returns-in_err-before-clause-compares
returns-in_err-before-clause-compares g c = λ old new old_is new_is.
    let pair = c.args.pair.now in
    let may_fail = g.Y.System.may_fail_at c.args.system.now pair.old.now in
    let start = messages (g.Y.System.reports c.args.system.now) (g.Y.System.hints c.args.system.now) in
    let read = messages (g.Y.System.reports c.sections_at.new.system) (g.Y.System.hints c.sections_at.new.system) in
    let summed = messages (g.Y.System.reports c.section_sums.new.system) (g.Y.System.hints c.section_sums.new.system) in
    absurd (none_passed (HasRead g.F.Source.bytes AreTablesOf old) (λ given. (sums : FileSums) × HasSums old sums given) (MayBeRefused HasNoSections may_fail old) (MayBeRefused HasNoSections may_fail old) pair.old.now old start read summed c.in_ok-old.old c.in_err-before.field-0.0
    (c.in_ok-old.ensures.reads old old_is) (c.in_err-before.ensures.sums old may_fail))

pub returns-in_err-new-clause-compares : goal.returns-in_err-new-clause-compares
returns-in_err-new-clause-compares g c = λ old new old_is new_is.
    absurd (c.in_err-new.ensures.reads new (ap (λ (b : List ℕ → Option (List ℕ)). b c.args.pair.now.new.now) (c.section_sums.ensures.bytes ∙ c.sections_at.ensures.bytes) ∙ new_is))

pub returns-in_err-after-clause-compares : goal.returns-in_err-after-clause-compares
returns-in_err-after-clause-compares g c = λ old new old_is new_is.
    let pair = c.args.pair.now in
    let there = ap (λ (b : List ℕ → Option (List ℕ)). b pair.new.now) (c.section_sums.ensures.bytes ∙ c.sections_at.ensures.bytes) ∙ new_is in
    let may_fail = g.Y.System.may_fail_at c.section_sums.new.system pair.new.now in
    let start = messages (g.Y.System.reports c.section_sums.new.system) (g.Y.System.hints c.section_sums.new.system) in
    let read = messages (g.Y.System.reports c.sections_at-2.new.system) (g.Y.System.hints c.sections_at-2.new.system) in
    let summed = messages (g.Y.System.reports c.section_sums-2.new.system) (g.Y.System.hints c.section_sums-2.new.system) in
    absurd (none_passed (HasRead g.F.Source.bytes AreTablesOf new) (λ given. (sums : FileSums) × HasSums new sums given) (MayBeRefused HasNoSections may_fail new) (MayBeRefused HasNoSections may_fail new) pair.new.now new start read summed c.in_ok-new.new c.in_err-after.field-0.0
    (c.in_ok-new.ensures.reads new there) (c.in_err-after.ensures.sums new may_fail))

pub returns-in_err-is_above-clause-compares : goal.returns-in_err-is_above-clause-compares
returns-in_err-is_above-clause-compares g c = λ old new old_is new_is.
    let pair = c.args.pair.now in
    let may_fail = g.Y.System.may_fail_at c.args.system.now in
    let asked = by_sections c.args.figures.now pair may_fail old new in
    let s0 = messages (g.Y.System.reports c.args.system.now) (g.Y.System.hints c.args.system.now) in
    let s1 = messages (g.Y.System.reports c.sections_at.new.system) (g.Y.System.hints c.sections_at.new.system) in
    let s2 = messages (g.Y.System.reports c.section_sums.new.system) (g.Y.System.hints c.section_sums.new.system) in
    let s3 = messages (g.Y.System.reports c.sections_at-2.new.system) (g.Y.System.hints c.sections_at-2.new.system) in
    let s4 = messages (g.Y.System.reports c.section_sums-2.new.system) (g.Y.System.hints c.section_sums-2.new.system) in
    let old_state = state_of g.W.Write.contents c.args.out.now (g.Y.System.reports c.args.system.now) (g.Y.System.hints c.args.system.now) in
    let new_state = state_of g.W.Write.contents c.write_section_changes.new.out (g.Y.System.reports c.write_section_changes.new.system) (g.Y.System.hints c.write_section_changes.new.system) in
    let there = ap (λ (b : List ℕ → Option (List ℕ)). b pair.new.now) (c.section_sums.ensures.bytes ∙ c.sections_at.ensures.bytes) ∙ new_is in
    let second_read = subst (λ (m : List ℕ → Bool). Steps (HasRead g.F.Source.bytes AreTablesOf new) (MayBeRefused HasNoSections (m pair.new.now) new) pair.new.now new s2 s3 (Ok c.in_ok-new.new)) (c.section_sums.ensures.may_fail ∙ c.sections_at.ensures.may_fail) (c.in_ok-new.ensures.reads new there) in
    let first = one_file (HasRead g.F.Source.bytes AreTablesOf old) (HasSums old) asked.Has asked.HasNone (may_fail pair.old.now) pair.old.now old s0 s1 s2 c.in_ok-old.old c.in_ok-before.before (c.in_ok-old.ensures.reads old old_is)
    (c.in_ok-before.ensures.sums old (may_fail pair.old.now)) (λ sums given is. (is.1, is.2)) in
    let second = one_file (HasRead g.F.Source.bytes AreTablesOf new) (HasSums new) asked.Has asked.HasNone (may_fail pair.new.now) pair.new.now new s2 s3 s4 c.in_ok-new.new c.in_ok-after.after second_read
    (c.in_ok-after.ensures.sums new (may_fail pair.new.now)) (λ sums given is. (is.1, is.2)) in
    let e = c.in_err-is_above.field-0.0 in
    (first.0, second.0, first.1, second.1, broke_off asked first.0 second.0 old_state new_state s2 s4 first.3 second.3 e c.from_residual-in_err-is_above.result c.from_residual-in_err-is_above.ensures.1 (c.in_err-is_above.ensures.writes may_fail old new first.0 second.0 first.2 second.2))

pub returns-clause-compares : goal.returns-clause-compares
returns-clause-compares g c = λ old new old_is new_is.
    let pair = c.args.pair.now in
    let may_fail = g.Y.System.may_fail_at c.args.system.now in
    let asked = by_sections c.args.figures.now pair may_fail old new in
    let s0 = messages (g.Y.System.reports c.args.system.now) (g.Y.System.hints c.args.system.now) in
    let s1 = messages (g.Y.System.reports c.sections_at.new.system) (g.Y.System.hints c.sections_at.new.system) in
    let s2 = messages (g.Y.System.reports c.section_sums.new.system) (g.Y.System.hints c.section_sums.new.system) in
    let s3 = messages (g.Y.System.reports c.sections_at-2.new.system) (g.Y.System.hints c.sections_at-2.new.system) in
    let s4 = messages (g.Y.System.reports c.section_sums-2.new.system) (g.Y.System.hints c.section_sums-2.new.system) in
    let old_state = state_of g.W.Write.contents c.args.out.now (g.Y.System.reports c.args.system.now) (g.Y.System.hints c.args.system.now) in
    let new_state = state_of g.W.Write.contents c.write_section_changes.new.out (g.Y.System.reports c.write_section_changes.new.system) (g.Y.System.hints c.write_section_changes.new.system) in
    let there = ap (λ (b : List ℕ → Option (List ℕ)). b pair.new.now) (c.section_sums.ensures.bytes ∙ c.sections_at.ensures.bytes) ∙ new_is in
    let second_read = subst (λ (m : List ℕ → Bool). Steps (HasRead g.F.Source.bytes AreTablesOf new) (MayBeRefused HasNoSections (m pair.new.now) new) pair.new.now new s2 s3 (Ok c.in_ok-new.new)) (c.section_sums.ensures.may_fail ∙ c.sections_at.ensures.may_fail) (c.in_ok-new.ensures.reads new there) in
    let first = one_file (HasRead g.F.Source.bytes AreTablesOf old) (HasSums old) asked.Has asked.HasNone (may_fail pair.old.now) pair.old.now old s0 s1 s2 c.in_ok-old.old c.in_ok-before.before (c.in_ok-old.ensures.reads old old_is)
    (c.in_ok-before.ensures.sums old (may_fail pair.old.now)) (λ sums given is. (is.1, is.2)) in
    let second = one_file (HasRead g.F.Source.bytes AreTablesOf new) (HasSums new) asked.Has asked.HasNone (may_fail pair.new.now) pair.new.now new s2 s3 s4 c.in_ok-new.new c.in_ok-after.after second_read
    (c.in_ok-after.ensures.sums new (may_fail pair.new.now)) (λ sums given is. (is.1, is.2)) in
    let is_done = c.is_some.result && c.is_some-2.result in (
      first.0,
      second.0,
      first.1,
      second.1,
      compared asked first.0 second.0 old_state new_state s2 s4 first.3 second.3 c.in_ok-is_above.is_above is_done (c.in_ok-is_above.ensures.writes may_fail old new first.0 second.0 first.2 second.2)
          (ap₂ (λ (x y : Bool). x && y) (c.is_some.ensures ∙ first.4) (c.is_some-2.ensures ∙ second.4)),
    )
