use Rattle.std.proofs.Common.{◌≡◌, ◌∙◌, ℕ, IfOk, List, Ok, Option, Result, Some, true, inr, sym, ap, subst}
use Rattle.binfarce.specs.Refusal.{Refusal}
use Rattle.binfarce.specs.SectionEntries.{SelectedSymbols}
use Rattle.binfarce_bytes.specs.Selection.{section_of}
use Rattle.binfarce_rows.specs.Json.{Style, style_of}
use Rattle.binfarce_tools.specs.Answer.{MemoryIn, selected_answer}
use Rattle.binfarce_tools.specs.Tables.{AreTablesOf}
use Rattle.binfarce_tools.specs.Writing.{EndsAs, Takes}
use Rattle.binfarce_io.specs.Faults.{outcome_of}
use Rattle.binfarce_jobs.specs.Show.{AreTablesFor, Fits, IsSeenOf, IsTextOf, MemoryFor, answer_for, limits_of, style_for}
use Rattle.binfarce_jobs.proofs.Shown.{unread}
use Rattle.binfarce_jobs.proofs.show.show.Goals as goal

pub returns-in_err-tables-clause-outcome : goal.returns-in_err-tables-clause-outcome
returns-in_err-tables-clause-outcome g c = λ file is.
    let symbols = c.args.asked.now.symbols in
    unread (g.S.Source.may_fail c.args.source.now ≡ true) (AreTablesFor symbols file) (Fits c.args.asked.now.kind) (MemoryFor symbols file) (answer_for symbols file) c.in_err-tables.field-0.0 c.from_residual.result
    (c.in_err-tables.ensures.reads file is) c.from_residual.ensures.1

pub returns-in-Section-clause-outcome : goal.returns-in-Section-clause-outcome
returns-in-Section-clause-outcome g c = λ file is.
    let symbols = c.args.asked.now.symbols in
    let kind = c.args.asked.now.kind in
    let are = c.in_ok-tables.ensures.reads file is in
    let shown : Option (List ℕ) → Type 0 = λ s. AreTablesOf symbols.which file s c.in_ok-tables.tables → EndsAs (Fits kind) (MemoryIn file s) (selected_answer symbols.which s file) (outcome_of c.show_section.result) in
    let ended : Option (Result SelectedSymbols Refusal) → Type 0 = λ answer. EndsAs (Fits kind) (MemoryFor symbols file) answer (outcome_of c.show_section.result) in
    inr (inr (subst ended (sym are.1) (subst shown (sym (ap section_of c.in-Section.is)) (c.show_section.ensures.outcome symbols.which file _) are.0)))

pub returns-in-Section-clause-takes : goal.returns-in-Section-clause-takes
returns-in-Section-clause-takes g c = λ file is.
    let asked = c.args.asked.now in
    let symbols = asked.symbols in
    let are = c.in_ok-tables.ensures.reads file is in
    let took : Style → Option (Result SelectedSymbols Refusal) → Type 0 = λ style answer. Takes (IsTextOf asked.kind c.args.path.now style) answer (g.K.Sink.taken c.args.out.now) (g.K.Sink.taken c.show_section.new.out) (outcome_of c.show_section.result) in
    let shown : Option (List ℕ) → Type 0 = λ s. AreTablesOf symbols.which file s c.in_ok-tables.tables → took (style_of c.form_for-form.result) (selected_answer symbols.which s file) in
    let section = section_of symbols.selection in
    subst (took (style_for asked c.args.path.now)) (sym are.1)
    (subst (λ style. took style (selected_answer symbols.which section file)) c.form_for-form.ensures (subst shown (sym (ap section_of c.in-Section.is)) (c.show_section.ensures.takes symbols.which file _) are.0))

pub returns-clause-outcome : goal.returns-clause-outcome
returns-clause-outcome g c = λ file is.
    let symbols = c.args.asked.now.symbols in
    let are = c.in_ok-tables.ensures.reads file is in
    let ended : Option (Result SelectedSymbols Refusal) → Type 0 = λ answer. EndsAs (Fits c.args.asked.now.kind) (MemoryFor symbols file) answer (outcome_of c.show_tables.result) in
    inr (inr (subst ended (sym are.1) (c.show_tables.ensures.outcome symbols.which file (section_of symbols.selection) are.0)))

pub returns-clause-takes : goal.returns-clause-takes
returns-clause-takes g c = λ file is.
    let asked = c.args.asked.now in
    let section = section_of asked.symbols.selection in
    let are = c.in_ok-tables.ensures.reads file is in
    let took : Style → Option (Result SelectedSymbols Refusal) → Type 0 = λ style answer. Takes (IsTextOf asked.kind c.args.path.now style) answer (g.K.Sink.taken c.args.out.now) (g.K.Sink.taken c.show_tables.new.out) (outcome_of c.show_tables.result) in
    subst (took (style_for asked c.args.path.now)) (sym are.1)
    (subst (λ style. took style (selected_answer asked.symbols.which section file)) c.form_for-form.ensures (c.show_tables.ensures.takes asked.symbols.which file section are.0))

pub returns-in-Section-clause-seen : goal.returns-in-Section-clause-seen
returns-in-Section-clause-seen g c = λ file selected is answer.
    let symbols = c.args.asked.now.symbols in
    let are = c.in_ok-tables.ensures.reads file is in
    let shown : Option (List ℕ) → Type 0 = λ s. AreTablesOf symbols.which file s c.in_ok-tables.tables → selected_answer symbols.which s file ≡ Some (Ok selected) → IfOk c.show_section.result (IsSeenOf c.args.asked.now.kind (limits_of c.args.asked.now) selected) in
    subst shown (sym (ap section_of c.in-Section.is)) (c.show_section.ensures.seen symbols.which file _ selected) are.0 (sym are.1 ∙ answer)

pub returns-clause-seen : goal.returns-clause-seen
returns-clause-seen g c = λ file selected is answer.
    let symbols = c.args.asked.now.symbols in
    let are = c.in_ok-tables.ensures.reads file is in
    c.show_tables.ensures.seen symbols.which file (section_of symbols.selection) selected are.0 (sym are.1 ∙ answer)
