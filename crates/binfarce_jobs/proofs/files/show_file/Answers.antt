use Rattle.std.proofs.Common.{◌≡◌, ◌∙◌, ◌||◌, ℕ, true, List, Option, Ok, ap, ap₂, is_some, map, refl, subst, sym}
use Rattle.std.specs.Global.{Vec}
use Rattle.binfarce_jobs.specs.Files.{Hinted, IsHeld, Refused, ShowsOne, asked_files, state_of}
use Rattle.binfarce_jobs.specs.Hints.{all_words}
use Rattle.binfarce_jobs.specs.Limit.{are_above}
use Rattle.binfarce_limits.specs.Rows.{finding_view}
use Rattle.binfarce_limits.specs.declared.rows.Finding.{Finding}
use Rattle.binfarce_io.specs.Faults.{failure, is_of_call}
use Rattle.binfarce_io.specs.Output.{pending, taken, writer_of}
use Rattle.binfarce_io.specs.Input.{may_fail_of}
use Rattle.binfarce_jobs.specs.declared.limit.Verdict.{Verdict}
use Rattle.binfarce_jobs.specs.declared.hint.Hint.{Hint}
use Rattle.binfarce_words.specs.Words as words
use Rattle.binfarce_words.specs.Words.{utf8}
use Rattle.binfarce_words.specs.WordViews.{argument_view}
use Rattle.binfarce_words.specs.declared.argument.Argument.{Argument}
use Rattle.binfarce_jobs.proofs.FileFates.{came_to, failed, not_utf8, said_shown, unopened}
use Rattle.binfarce_jobs.proofs.FileLoop.{grows_unless, nothing_more}
use Rattle.binfarce_jobs.proofs.files.show_file.Goals as goal

pub returns-in-Ok-clause-shows : goal.returns-in-Ok-clause-shows
returns-in-Ok-clause-shows g c =
    let Shows : words.Argument → Type 0 = λ argument. (held : List ℕ → List ℕ) → IsHeld (g.Y.System.bytes_at c.args.system.now) held argument
    → ShowsOne (asked_files c.args.asked.now c.args.are_several (g.Y.System.may_fail_at c.args.system.now) held) argument
    (state_of g.W.Write.contents c.args.out.now (g.Y.System.reports c.args.system.now) (g.Y.System.hints c.args.system.now))
    (state_of g.W.Write.contents c.show_source.new.out (g.Y.System.reports c.give_all.new.system) (g.Y.System.hints c.give_all.new.system)) (Ok (record { is_done = true; is_above = c.exceeds-is_above.result })) in
    let shows : Shows (utf8 c.in-Text.path.now) = λ held is.
    let asked = c.args.asked.now in
    let files = asked_files asked c.args.are_several (g.Y.System.may_fail_at c.args.system.now) held in
    let path = c.in-Text.path.now in
    let begun = c.begin.new.self in
    let opened = c.open_input.new.system in
    let given = c.give_all.new.system in
    let seen = c.in-Ok.seen in
    let hints = c.hints_on-hints.result in
    let new = state_of g.W.Write.contents c.show_source.new.out (g.Y.System.reports given) (g.Y.System.hints given) in
    let old = taken g.W.Write.contents c.args.out.now in
    let read = c.in-Some.ensures.input (held path) is in
    let rows_are = ap (λ (v : Vec Finding). v.items) c.hints_on-hints.ensures.rows in
    let above = c.exceeds-is_above.ensures ∙ ap₂ (λ (hint : Option Hint) (rows : List Finding). is_some hint || are_above (map finding_view rows)) c.hints_on-hints.ensures.excess (c.deref.ensures.value ∙ rows_are) in
    let one = came_to files path (record { bytes = g.W.Write.contents (writer_of begun); taken = old; reports = g.Y.System.reports opened; hints = g.Y.System.hints opened }) new read.0 (pending begun)
    (may_fail_of g.F.Source.may_fail c.in-Some.input ≡ true) read.1 read.3 (c.begin.ensures.pending ∙ c.in_ok-heading.ensures) read.4 seen c.exceeds-is_above.result (all_words hints) (c.in-Ok.ensures read.0 read.2) above
    (λ none. said_shown asked read.0 seen.sums seen.rows.items hints (c.hints_on-hints.ensures.first read.0 read.2 none) c.hints_on-hints.ensures.second c.hints_on-hints.ensures.excess rows_are)
    (grows_unless (g.Y.System.reports opened) (g.Y.System.reports given) c.give_all.ensures.reports) c.give_all.ensures.hints in
    let Begun : Option (List ℕ) → Option (List Refused) → Option (List Hinted) → Type 0 = λ bytes reports hints. ShowsOne files (utf8 path) (record { bytes = bytes; taken = old; reports = reports; hints = hints }) new (Ok (record { is_done = true; is_above = c.exceeds-is_above.result })) in
    let start = g.W.Write.contents (writer_of c.args.out.now) in
    subst (λ (hints : Option (List Hinted)). Begun start (g.Y.System.reports c.args.system.now) hints) (ap g.Y.System.hints c.in-Some.ensures.unchanged)
    (subst (λ (reports : Option (List Refused)). Begun start reports (g.Y.System.hints opened)) (ap g.Y.System.reports c.in-Some.ensures.unchanged)
    (subst (λ (bytes : Option (List ℕ)). Begun bytes (g.Y.System.reports opened) (g.Y.System.hints opened)) (ap g.W.Write.contents c.begin.ensures.writer) one)) in
    subst (λ (argument : Argument). Shows (argument_view argument)) (sym c.in-Text.is) shows

pub returns-clause-shows : goal.returns-clause-shows
returns-clause-shows g c =
    let Shows : words.Argument → Type 0 = λ argument. (held : List ℕ → List ℕ) → IsHeld (g.Y.System.bytes_at c.args.system.now) held argument
    → ShowsOne (asked_files c.args.asked.now c.args.are_several (g.Y.System.may_fail_at c.args.system.now) held) argument
    (state_of g.W.Write.contents c.args.out.now (g.Y.System.reports c.args.system.now) (g.Y.System.hints c.args.system.now))
    (state_of g.W.Write.contents c.show_source.new.out (g.Y.System.reports c.refuse.new.system) (g.Y.System.hints c.refuse.new.system)) c.refuse.result in
    let shows : Shows (utf8 c.in-Text.path.now) = λ held is.
    let files = asked_files c.args.asked.now c.args.are_several (g.Y.System.may_fail_at c.args.system.now) held in
    let path = c.in-Text.path.now in
    let begun = c.begin.new.self in
    let opened = c.open_input.new.system in
    let new = state_of g.W.Write.contents c.show_source.new.out (g.Y.System.reports c.refuse.new.system) (g.Y.System.hints c.refuse.new.system) in
    let old = taken g.W.Write.contents c.args.out.now in
    let read = c.in-Some.ensures.input (held path) is in
    let fault = c.in-Err.fault in
    let one = failed files path (record { bytes = g.W.Write.contents (writer_of begun); taken = old; reports = g.Y.System.reports opened; hints = g.Y.System.hints opened }) new read.0 (pending begun)
    (may_fail_of g.F.Source.may_fail c.in-Some.input ≡ true) read.1 read.3 (c.begin.ensures.pending ∙ c.in_ok-heading.ensures) read.4 fault c.refuse.result (failure fault) (is_of_call fault) refl refl (c.in-Err.ensures read.0 read.2)
    c.refuse.ensures.reports (c.refuse.ensures.hints read.0 read.2) in
    let Begun : Option (List ℕ) → Option (List Refused) → Option (List Hinted) → Type 0 = λ bytes reports hints. ShowsOne files (utf8 path) (record { bytes = bytes; taken = old; reports = reports; hints = hints }) new c.refuse.result in
    let start = g.W.Write.contents (writer_of c.args.out.now) in
    subst (λ (hints : Option (List Hinted)). Begun start (g.Y.System.reports c.args.system.now) hints) (ap g.Y.System.hints c.in-Some.ensures.unchanged)
    (subst (λ (reports : Option (List Refused)). Begun start reports (g.Y.System.hints opened)) (ap g.Y.System.reports c.in-Some.ensures.unchanged)
    (subst (λ (bytes : Option (List ℕ)). Begun bytes (g.Y.System.reports opened) (g.Y.System.hints opened)) (ap g.W.Write.contents c.begin.ensures.writer) one)) in
    subst (λ (argument : Argument). Shows (argument_view argument)) (sym c.in-Text.is) shows

pub returns-in_default-clause-shows : goal.returns-in_default-clause-shows
returns-in_default-clause-shows g c =
    let Shows : words.Argument → Type 0 = λ argument. (held : List ℕ → List ℕ) → IsHeld (g.Y.System.bytes_at c.args.system.now) held argument
    → ShowsOne (asked_files c.args.asked.now c.args.are_several (g.Y.System.may_fail_at c.args.system.now) held) argument
    (state_of g.W.Write.contents c.args.out.now (g.Y.System.reports c.args.system.now) (g.Y.System.hints c.args.system.now))
    (state_of g.W.Write.contents c.begin.new.self (g.Y.System.reports c.open_input.new.system) (g.Y.System.hints c.open_input.new.system)) (Ok c.refused.result) in
    let shows : Shows (utf8 c.in-Text.path.now) = λ held is.
    let files = asked_files c.args.asked.now c.args.are_several (g.Y.System.may_fail_at c.args.system.now) held in
    let why = c.in_default.ensures.input (held c.in-Text.path.now) is in
    let opened = c.open_input.new.system in
    let old = state_of g.W.Write.contents c.args.out.now (g.Y.System.reports c.args.system.now) (g.Y.System.hints c.args.system.now) in
    let new = state_of g.W.Write.contents c.begin.new.self (g.Y.System.reports opened) (g.Y.System.hints opened) in
    subst (λ (v : Verdict). ShowsOne files (utf8 c.in-Text.path.now) old new (Ok v)) (sym c.refused.ensures)
    (unopened files c.in-Text.path.now old new why.0 why.1 (ap g.W.Write.contents c.begin.ensures.writer) why.2 (grows_unless (g.Y.System.hints c.args.system.now) (g.Y.System.hints opened) c.open_input.ensures.hints)) in
    subst (λ (argument : Argument). Shows (argument_view argument)) (sym c.in-Text.is) shows

pub returns-in-NotUtf8-clause-shows : goal.returns-in-NotUtf8-clause-shows
returns-in-NotUtf8-clause-shows g c = λ held is.
    let files = asked_files c.args.asked.now c.args.are_several (g.Y.System.may_fail_at c.args.system.now) held in
    let refused = c.refuse_argument.new.system in
    let old = state_of g.W.Write.contents c.args.out.now (g.Y.System.reports c.args.system.now) (g.Y.System.hints c.args.system.now) in
    let new = state_of g.W.Write.contents c.args.out.now (g.Y.System.reports refused) (g.Y.System.hints refused) in
    subst (λ (argument : Argument). ShowsOne files (argument_view argument) old new c.refuse_argument.result) (sym c.in-NotUtf8.is)
    (not_utf8 files c.in-NotUtf8.at old new c.refuse_argument.result c.refuse_argument.ensures.reports (nothing_more old.bytes) (grows_unless old.hints new.hints c.refuse_argument.ensures.hints))
