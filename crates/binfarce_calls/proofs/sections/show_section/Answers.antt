use Rattle.std.proofs.Common.{◌∙◌, Ok, Err, List, Option, inl, ap, subst, sym}
use Rattle.binfarce_rows.specs.Json.{style_of}
use Rattle.binfarce_jobs.specs.Files.{Hinted, Refused, state_of}
use Rattle.binfarce_io.specs.Input.{may_fail_of}
use Rattle.binfarce_io.specs.Output.{taken}
use Rattle.binfarce_jobs.specs.declared.limit.Verdict.{Verdict}
use Rattle.binfarce_jobs.proofs.FileLoop.{grows_unless}
use Rattle.binfarce_calls.specs.Sections.{ShowsAsked}
use Rattle.binfarce_calls.proofs.SectionSteps.{asked_of_file, broke_off, not_opened, not_written_for}
use Rattle.binfarce_calls.proofs.Written as text
use Rattle.binfarce_calls.proofs.sections.show_section.Goals as goal

pub returns-in_default : goal.returns-in_default
returns-in_default g c = λ file is.
    let path = c.args.path.now in
    let may_fail = g.Y.System.may_fail_at c.args.system.now path in
    let opened = c.open_input.new.system in
    let why = c.in_default.ensures.input file is in
    let old = state_of g.W.Write.contents c.args.out.now (g.Y.System.reports c.args.system.now) (g.Y.System.hints c.args.system.now) in
    let new = state_of g.W.Write.contents c.args.out.now (g.Y.System.reports opened) (g.Y.System.hints opened) in
    subst (λ (v : Verdict). ShowsAsked c.args.asked (style_of c.args.form) path may_fail file old new (Ok v)) (sym c.refused.ensures)
    (not_opened c.args.asked (style_of c.args.form) path may_fail file old new why.0 why.1 (text.nothing old.bytes) why.2 (grows_unless old.hints new.hints c.open_input.ensures.hints))

pub returns-in_err-end : goal.returns-in_err-end
returns-in_err-end g c = λ file is.
    let path = c.args.path.now in
    let style = style_of c.args.form in
    let may_fail = g.Y.System.may_fail_at c.args.system.now path in
    let begun = c.begin.new.self in
    let wrote = c.write_sections-written.new.out in
    let ended = c.end.new.self in
    let none = c.begin.ensures.pending ∙ c.new.ensures.items in
    let opened = c.open_input.new.system in
    let old = state_of g.W.Write.contents c.args.out.now (g.Y.System.reports c.args.system.now) (g.Y.System.hints c.args.system.now) in
    let new = state_of g.W.Write.contents ended (g.Y.System.reports opened) (g.Y.System.hints opened) in
    let read = c.in-Some.ensures.input file is in
    let took = asked_of_file (may_fail_of g.F.Source.may_fail c.in-Some.input) may_fail read.3 (taken g.W.Write.contents begun) (taken g.W.Write.contents wrote) old.bytes new.taken
    (λ x appends. text.still_took g.W.Write.contents c.args.out.now begun wrote c.begin.ensures.writer none ended x appends c.end.ensures.kept)
    style file read.0 c.args.asked c.write_sections-written.result read.1 (c.write_sections-written.ensures.takes read.0 read.2) in
    broke_off c.args.asked style path may_fail file old new c.in_err-end.field-0.0 c.from_residual.result c.write_sections-written.result c.from_residual.ensures.1 c.in_err-end.ensures.fails.0 (read.4, took)
    (grows_unless old.reports new.reports (ap g.Y.System.reports c.in-Some.ensures.unchanged)) (grows_unless old.hints new.hints (ap g.Y.System.hints c.in-Some.ensures.unchanged))

pub returns-in-Ok : goal.returns-in-Ok
returns-in-Ok g c = λ file is.
    let path = c.args.path.now in
    let style = style_of c.args.form in
    let may_fail = g.Y.System.may_fail_at c.args.system.now path in
    let begun = c.begin.new.self in
    let wrote = c.write_sections-written.new.out in
    let ended = c.end.new.self in
    let none = c.begin.ensures.pending ∙ c.new.ensures.items in
    let opened = c.open_input.new.system in
    let old = state_of g.W.Write.contents c.args.out.now (g.Y.System.reports c.args.system.now) (g.Y.System.hints c.args.system.now) in
    let new = state_of g.W.Write.contents ended (g.Y.System.reports opened) (g.Y.System.hints opened) in
    let read = c.in-Some.ensures.input file is in
    let took = asked_of_file (may_fail_of g.F.Source.may_fail c.in-Some.input) may_fail read.3 (taken g.W.Write.contents begun) (taken g.W.Write.contents wrote) old.bytes new.bytes
    (λ x appends. text.wrote g.W.Write.contents c.args.out.now begun wrote c.begin.ensures.writer none ended x appends c.end.ensures.kept c.in_ok-end.ensures.written.0)
    style file read.0 c.args.asked (Ok tt) read.1 (c.in-Ok.ensures.takes read.0 read.2) in
    inl (
      c.done.ensures,
      (read.4, took),
      grows_unless old.reports new.reports (ap g.Y.System.reports c.in-Some.ensures.unchanged),
      grows_unless old.hints new.hints (ap g.Y.System.hints c.in-Some.ensures.unchanged),
    )

pub returns : goal.returns
returns g c = λ file is.
    let path = c.args.path.now in
    let style = style_of c.args.form in
    let may_fail = g.Y.System.may_fail_at c.args.system.now path in
    let begun = c.begin.new.self in
    let wrote = c.write_sections-written.new.out in
    let ended = c.end.new.self in
    let none = c.begin.ensures.pending ∙ c.new.ensures.items in
    let opened = c.open_input.new.system in
    let after = c.refuse.new.system in
    let old = state_of g.W.Write.contents c.args.out.now (g.Y.System.reports opened) (g.Y.System.hints opened) in
    let new = state_of g.W.Write.contents ended (g.Y.System.reports after) (g.Y.System.hints after) in
    let read = c.in-Some.ensures.input file is in
    let now = may_fail_of g.F.Source.may_fail c.in-Some.input in
    let takes = c.in-Err.ensures.takes read.0 read.2 in
    let in_bytes = asked_of_file now may_fail read.3 (taken g.W.Write.contents begun) (taken g.W.Write.contents wrote) old.bytes new.bytes
    (λ x appends. text.wrote g.W.Write.contents c.args.out.now begun wrote c.begin.ensures.writer none ended x appends c.end.ensures.kept c.in_ok-end.ensures.written.0)
    style file read.0 c.args.asked (Err c.in-Err.e) read.1 takes in
    let in_taken = asked_of_file now may_fail read.3 (taken g.W.Write.contents begun) (taken g.W.Write.contents wrote) old.bytes new.taken
    (λ x appends. text.still_took g.W.Write.contents c.args.out.now begun wrote c.begin.ensures.writer none ended x appends c.end.ensures.kept)
    style file read.0 c.args.asked (Err c.in-Err.e) read.1 takes in
    let shown = not_written_for c.args.asked style path may_fail file old new read.0 c.in-Err.e c.from.result c.refuse.result c.from.ensures read.1 (read.4, in_bytes) (read.4, in_taken) c.refuse.ensures.reports (c.refuse.ensures.hints read.0 read.2) in
    let Shows : Option (List Refused) → Option (List Hinted) → Type 0 = λ reports hints. ShowsAsked c.args.asked style path may_fail file (state_of g.W.Write.contents c.args.out.now reports hints) new c.refuse.result in
    subst (λ (hints : Option (List Hinted)). Shows (g.Y.System.reports c.args.system.now) hints) (ap g.Y.System.hints c.in-Some.ensures.unchanged)
    (subst (λ (reports : Option (List Refused)). Shows reports (g.Y.System.hints opened)) (ap g.Y.System.reports c.in-Some.ensures.unchanged) shown)
