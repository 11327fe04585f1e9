use Rattle.std.proofs.Common.{◌∙◌, ◌||◌, ℕ, true, List, Option, Ok, Err, ap, ap₂, is_some, map, subst, sym}
use Rattle.binfarce_rows.specs.Json.{Style}
use Rattle.binfarce_io.specs.Faults.{is_of_file}
use Rattle.binfarce_jobs.specs.Files.{Grows, Hinted, Refused, asked_files, hinted, state_of}
use Rattle.binfarce_jobs.specs.Hints.{words_of}
use Rattle.binfarce_io.specs.Output.{pending, taken, writer_of}
use Rattle.binfarce_jobs.specs.declared.hint.Hint.{Hint}
use Rattle.binfarce_jobs.specs.declared.limit.Verdict.{Verdict}
use Rattle.binfarce_jobs.proofs.FileLoop.{grows_unless}
use Rattle.binfarce_jobs.specs.Limit.{above, are_above}
use Rattle.binfarce_jobs.specs.Show.{limits_of}
use Rattle.binfarce_limits.specs.Rows.{finding_view}
use Rattle.binfarce_limits.specs.declared.rows.Finding.{Finding}
use Rattle.binfarce_calls.proofs.Changes.{said_both}
use Rattle.binfarce_calls.specs.Sections.{SumsOne}
use Rattle.binfarce_calls.specs.machine.Steps.{SumsSource}
use Rattle.binfarce_calls.proofs.SumSteps.{failed_one, summed_one, unopened_one}
use Rattle.binfarce_calls.proofs.sections.sum_file.Goals as goal

pub returns-in_default-clause-sums : goal.returns-in_default-clause-sums
returns-in_default-clause-sums g c = λ held is.
    let files = asked_files c.args.asked.now c.args.are_several (g.Y.System.may_fail_at c.args.system.now) held in
    let path = c.args.path.now in
    let why = c.in_default.ensures.input (held path) is in
    let opened = c.open_input.new.system in
    let old = state_of g.W.Write.contents c.args.out.now (g.Y.System.reports c.args.system.now) (g.Y.System.hints c.args.system.now) in
    let new = state_of g.W.Write.contents c.begin.new.self (g.Y.System.reports opened) (g.Y.System.hints opened) in
    subst (λ (v : Verdict). SumsOne c.args.first files path old new (Ok v)) (sym c.refused.ensures)
    (unopened_one c.args.first files path old new why.0 why.1 (ap g.W.Write.contents c.begin.ensures.writer) why.2 (grows_unless (g.Y.System.hints c.args.system.now) (g.Y.System.hints opened) c.open_input.ensures.hints))

pub returns-in-Ok-clause-sums : goal.returns-in-Ok-clause-sums
returns-in-Ok-clause-sums g c = λ held is.
    let asked = c.args.asked.now in
    let path = c.args.path.now in
    let first = c.args.first in
    let may_fail = g.Y.System.may_fail_at c.args.system.now in
    let files = asked_files asked c.args.are_several may_fail held in
    let begun = c.begin.new.self in
    let opened = c.open_input.new.system in
    let said = c.give.new.system in
    let given = c.give_rows.new.system in
    let new = state_of g.W.Write.contents c.sum_source.new.out (g.Y.System.reports given) (g.Y.System.hints given) in
    let old = taken g.W.Write.contents c.args.out.now in
    let read = c.in-Some.ensures.input (held path) is in
    let found = c.in-Ok.summed in
    let rows = found.rows.items in
    let is_above = c.exceeds-is_above.result in
    let above_is = c.exceeds-is_above.ensures ∙ ap₂ (λ (hint : Option Hint) (rs : List Finding). is_some hint || are_above (map finding_view rs)) c.above-excess.ensures c.deref.ensures.value in
    let sums = subst (λ (s : Style). SumsSource s first (limits_of asked) (may_fail path) (held path) (pending begun) (g.W.Write.contents (writer_of begun)) (g.W.Write.contents (writer_of c.sum_source.new.out)) (taken g.W.Write.contents c.sum_source.new.out) (Ok found)) c.form_at-form.ensures
    (c.in-Ok.ensures (held path) read.0 (may_fail path) read.2 read.1 read.4 read.3) in
    let one = summed_one first files path (record { bytes = g.W.Write.contents (writer_of begun); taken = old; reports = g.Y.System.reports opened; hints = g.Y.System.hints opened }) new read.0 (pending begun) read.1 read.4 (c.begin.ensures.pending ∙ c.in_ok-heading.ensures) found is_above sums above_is
    (grows_unless (g.Y.System.reports opened) (g.Y.System.reports given) (c.give_rows.ensures.reports ∙ c.give.ensures.reports))
    (said_both path (g.Y.System.hints opened) (g.Y.System.hints said) (g.Y.System.hints given) (words_of (above found.length asked.limit)) rows
    (subst (λ (hint : Option Hint). Grows (g.Y.System.hints opened) (g.Y.System.hints said) (hinted path (words_of hint))) c.above-excess.ensures c.give.ensures.hints) c.give_rows.ensures.hints) in
    let Begun : Option (List ℕ) → Option (List Refused) → Option (List Hinted) → Type 0 = λ bytes reports hints. SumsOne first files path (record { bytes = bytes; taken = old; reports = reports; hints = hints }) new (Ok (record { is_done = true; is_above = is_above })) in
    let start = g.W.Write.contents (writer_of c.args.out.now) in
    subst (λ (hints : Option (List Hinted)). Begun start (g.Y.System.reports c.args.system.now) hints) (ap g.Y.System.hints c.in-Some.ensures.unchanged)
    (subst (λ (reports : Option (List Refused)). Begun start reports (g.Y.System.hints opened)) (ap g.Y.System.reports c.in-Some.ensures.unchanged)
    (subst (λ (bytes : Option (List ℕ)). Begun bytes (g.Y.System.reports opened) (g.Y.System.hints opened)) (ap g.W.Write.contents c.begin.ensures.writer) one))

pub returns-clause-sums : goal.returns-clause-sums
returns-clause-sums g c = λ held is.
    let path = c.args.path.now in
    let first = c.args.first in
    let may_fail = g.Y.System.may_fail_at c.args.system.now in
    let files = asked_files c.args.asked.now c.args.are_several may_fail held in
    let begun = c.begin.new.self in
    let opened = c.open_input.new.system in
    let after = c.refuse.new.system in
    let new = state_of g.W.Write.contents c.sum_source.new.out (g.Y.System.reports after) (g.Y.System.hints after) in
    let old = taken g.W.Write.contents c.args.out.now in
    let read = c.in-Some.ensures.input (held path) is in
    let fault = c.in-Err.fault in
    let sums = subst (λ (s : Style). SumsSource s first (limits_of c.args.asked.now) (may_fail path) (held path) (pending begun) (g.W.Write.contents (writer_of begun)) (g.W.Write.contents (writer_of c.sum_source.new.out)) (taken g.W.Write.contents c.sum_source.new.out) (Err fault)) c.form_at-form.ensures
    (c.in-Err.ensures (held path) read.0 (may_fail path) read.2 read.1 read.4 read.3) in
    let one = failed_one first files path (record { bytes = g.W.Write.contents (writer_of begun); taken = old; reports = g.Y.System.reports opened; hints = g.Y.System.hints opened }) new read.0 (pending begun) read.1 read.4 (c.begin.ensures.pending ∙ c.in_ok-heading.ensures) fault c.refuse.result (is_of_file fault) sums
    c.refuse.ensures.reports (c.refuse.ensures.hints read.0 read.2) in
    let Begun : Option (List ℕ) → Option (List Refused) → Option (List Hinted) → Type 0 = λ bytes reports hints. SumsOne first files path (record { bytes = bytes; taken = old; reports = reports; hints = hints }) new c.refuse.result in
    let start = g.W.Write.contents (writer_of c.args.out.now) in
    subst (λ (hints : Option (List Hinted)). Begun start (g.Y.System.reports c.args.system.now) hints) (ap g.Y.System.hints c.in-Some.ensures.unchanged)
    (subst (λ (reports : Option (List Refused)). Begun start reports (g.Y.System.hints opened)) (ap g.Y.System.reports c.in-Some.ensures.unchanged)
    (subst (λ (bytes : Option (List ℕ)). Begun bytes (g.Y.System.reports opened) (g.Y.System.hints opened)) (ap g.W.Write.contents c.begin.ensures.writer) one))
