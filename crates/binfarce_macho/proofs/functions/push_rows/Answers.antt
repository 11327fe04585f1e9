use Rattle.std.proofs.Common.{◌≡◌, ◌≢◌, ◌∙◌, List, ap, arith, [], map, refl}
use Rattle.std.proofs.lemmas.List.{take_all}
use Rattle.binfarce_bytes.specs.Refusal.{refusal_of}
use Rattle.binfarce_bytes.specs.RowViews.{rows_view}
use Rattle.binfarce_bytes.specs.SectionEntries.{SectionEntry}
use Rattle.binfarce_bytes.specs.Sizes.{RowAddress}
use Rattle.binfarce_bytes.specs.SymbolViews.{section_function_view}
use Rattle.binfarce_bytes.proofs.Sweeping.{past}
use Rattle.binfarce_macho.specs.MachoSymbols.{entry_of}
use Rattle.binfarce_macho.specs.machine.RawMacho.{located_view, text_added}
use Rattle.binfarce_macho.proofs.TextRows.{listed_none, listed_over, listed_one, listed_refused}
use Rattle.binfarce_macho.proofs.MachoAnswers.{refusal_answers}
use Rattle.binfarce_macho.proofs.functions.push_rows.Goals as goal
use Rattle.binfarce_macho.proofs.functions.push_rows.Goals.{in-None, in-Some+in_ok-push_function-in-Some}

pub loop-k-init : goal.loop-k-init
loop-k-init c = listed_none (map section_function_view c.args.functions.now.items) (λ at. entry_of (located_view c.args.text) at)

pub returns-in_err-text_entry : goal.returns-in_err-text_entry
returns-in_err-text_entry c =
    let text = c.args.text in
    let rows = c.args.rows.now in
    let old = map section_function_view c.args.functions.now.items in
    let error = c.in_err-text_entry.field-0.0 in
    refusal_answers (λ (entries : List SectionEntry) (_ : Unit {0}). map section_function_view c.loop-k.functions.items ≡ entries) (λ _. rows ≢ []) (text_added old text (rows_view rows)) error c.from_residual.result
    (listed_refused old (λ at. entry_of (located_view text) at) rows c.loop-k.k past (map section_function_view c.loop-k.functions.items) c.loop-k-test.true c.loop-k.invariant (refusal_of error) c.in_err-text_entry.ensures)
    c.from_residual.ensures.1

pub loop-k-preserved : goal.loop-k-preserved
loop-k-preserved c =
    let text = c.args.text in
    let rows = c.args.rows.now in
    let k = c.loop-k.k in
    let old = map section_function_view c.args.functions.now.items in
    let now = map section_function_view c.loop-k.functions.items in
    let f = λ (at : RowAddress). entry_of (located_view text) at in
    elim c.match-branch-2.branch [
      | in-None w ↦ rw (ap (λ v. v.items) w.functions-is) (listed_over old f rows k past now c.loop-k-test.true c.loop-k.invariant (rw w.in-None.is at c.in_ok-text_entry.ensures))
      | in-Some+in_ok-push_function-in-Some w ↦
          rw (ap (λ v. v.items) w.functions-is ∙ w.in_ok-push_function-in-Some.ensures)
          (listed_one old f rows k past now c.loop-k-test.true c.loop-k.invariant c.loop-k.functions.items w.in-Some.function refl (rw w.in-Some.is at c.in_ok-text_entry.ensures))
    ]

pub returns : goal.returns
returns c =
    let rows = c.args.rows.now in
    rw (rw (take_all c.loop-k.k rows (omega arith)) at c.loop-k.invariant) refl
