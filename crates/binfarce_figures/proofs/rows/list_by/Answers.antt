use Rattle.std.proofs.Common.{◌∙◌, Err, Ok, sym, subst, map}
use Rattle.std.proofs.lemmas.List.{length-map}
use Rattle.std.specs.String.{string_bytes}
use Rattle.binfarce.specs.SymbolViews.{section_function_view}
use Rattle.binfarce_tools.specs.Answer.{selected_answer}
use Rattle.binfarce_rows.specs.Json.{style_of}
use Rattle.binfarce_tools.specs.ListWords.{outcome_of}
use Rattle.binfarce_tools.specs.Writing.{Outcome, Takes}
use Rattle.binfarce_figures.specs.RowListing.{IsListingBy}
use Rattle.binfarce_figures.proofs.Figured.{passed_on}
use Rattle.binfarce_figures.proofs.Got.{as_many}
use Rattle.binfarce_figures.proofs.RowListings.{listing_taken}
use Rattle.binfarce_figures.proofs.rows.list_by.Goals as goal

pub returns-in_err-write_whole-clause-takes : goal.returns-in_err-write_whole-clause-takes
returns-in_err-write_whole-clause-takes g c = λ which file section are.
    let e = c.in_err-write_whole.field-0.0 in
    let took : Outcome → Type 0 = λ o. Takes (IsListingBy c.args.shown.now (style_of c.args.form)) (selected_answer which section file) (g.S.Sink.taken c.args.out.now) (g.S.Sink.taken c.write_whole.new.out) o in
    subst took (passed_on outcome_of c.from_residual-in_err-write_whole.result e c.from_residual-in_err-write_whole.ensures.1)
    (listing_taken c.args.shown.now (style_of c.args.form) which file section c.args.tables.now c.in_ok-selected.selected (map section_function_view c.in_ok-functions.functions.items) c.in_ok-functions.size (string_bytes c.in_ok-text.text) c.as_bytes.result.now _ _ (Err e) are
    (c.in_ok-selected.ensures.gets which file section are) c.in_ok-functions.ensures c.in_ok-text.ensures c.as_bytes.ensures.value c.in_err-write_whole.ensures.takes)

pub returns-clause-takes : goal.returns-clause-takes
returns-clause-takes g c = λ which file section are.
    listing_taken c.args.shown.now (style_of c.args.form) which file section c.args.tables.now c.in_ok-selected.selected (map section_function_view c.in_ok-functions.functions.items) c.in_ok-functions.size (string_bytes c.in_ok-text.text) c.as_bytes.result.now _ _
    (Ok c.in_ok-write_whole.field-0) are (c.in_ok-selected.ensures.gets which file section are) c.in_ok-functions.ensures c.in_ok-text.ensures c.as_bytes.ensures.value c.in_ok-write_whole.ensures.takes

pub returns-clause-count : goal.returns-clause-count
returns-clause-count g c = λ which file section selected are answer.
    let functions = c.in_ok-functions.functions in
    c.len-count.ensures ∙ functions.ok.0 ∙ sym (length-map functions.items section_function_view)
    ∙ as_many which file section c.in_ok-selected.selected (map section_function_view functions.items) c.in_ok-functions.size (c.in_ok-selected.ensures.gets which file section are) c.in_ok-functions.ensures selected answer
