use Rattle.std.proofs.Common.{◌≡◌, ◌≢◌, ◌+◌, ◌*◌, ◌≤◌, ◌∙◌, sym, ap, refl, map, length, List, []}
use Rattle.std.proofs.lemmas.Bool.{eqb-true, eq-eqb, false≢true}
use Rattle.std.proofs.lemmas.List.{length-map}
use Rattle.std.proofs.lemmas.List.Elements.{All-same}
use Rattle.std.proofs.lemmas.List.Sorted.{All-permutation}
use Rattle.binfarce_bytes.specs.declared.sizes.RowAddress.{RowAddress}
use Rattle.binfarce_bytes.specs.Sizes.{arranged, addresses_of, least_above}
use Rattle.binfarce_bytes.specs.RowViews.{row_view, rows_view}
use Rattle.binfarce_bytes.specs.SectionEntries.{SectionEntry}
use Rattle.binfarce_bytes.specs.SymbolViews.{section_function_view}
use Rattle.binfarce_bytes.proofs.Sweeping.{swept_is}
use Rattle.binfarce_macho.specs.MachoSymbols.{row_addresses, entry_of}
use Rattle.binfarce_macho.specs.machine.RawMacho.{located_view, text_added}
use Rattle.binfarce_macho.proofs.TextRows.{listed_empty}
use Rattle.binfarce_macho.proofs.Kept.{empty}
use Rattle.binfarce_macho.proofs.MachoAnswers.{value_answers, same_answer}
use Rattle.binfarce_macho.proofs.functions.push_functions.Goals as goal

pub returns-then-is_empty : goal.returns-then-is_empty
returns-then-is_empty c =
    let text = c.args.text in
    let table = row_addresses text.symbols.rows.now in
    let old = map section_function_view c.args.functions.now.items in
    let none : length c.in_ok-rows.rows.items ≡ 0 = sym c.in_ok-rows.rows.ok.0 ∙ eqb-true _ 0 (sym c.if-is_empty.ensures) in
    value_answers (λ (entries : List SectionEntry) (_ : Unit {0}). old ≡ entries) (λ _. table ≢ []) (text_added old text (arranged table)) old tt
    (listed_empty old (λ at. entry_of (located_view text) at) table (sym c.in_ok-rows.ensures.rows.0 ∙ ap rows_view (empty c.in_ok-rows.rows.items none))) refl

pub push_rows-requires-clause-above : goal.push_rows-requires-clause-above
push_rows-requires-clause-above c =
    let table = row_addresses c.args.text.symbols.rows.now in
    swept_is table c.in_ok-arranged.arranged.rows.items c.deref-2.result.now (c.in_ok-arranged.ensures.arranged ∙ ap arranged c.in_ok-rows.ensures.rows.0)
    (c.deref-2.ensures.value ∙ c.in_ok-arranged.ensures.above)
    ∙ ap (map (λ r. least_above (addresses_of table) r.address)) (sym c.deref.ensures.value)

pub push_rows-requires-clause-whole : goal.push_rows-requires-clause-whole
push_rows-requires-clause-whole c =
    let P = λ (r : RowAddress). r.index * 16 + 16 ≤ length c.args.text.symbols.rows.now in
    All-same P c.deref.result.now c.in_ok-arranged.arranged.rows.items c.deref.ensures.value
    (All-permutation P c.in_ok-rows.rows.items c.in_ok-arranged.arranged.rows.items c.in_ok-arranged.ensures.same c.in_ok-rows.ensures.rows.1)

pub returns : goal.returns
returns c =
    let text = c.args.text in
    let table = row_addresses text.symbols.rows.now in
    let old = map section_function_view c.args.functions.now.items in
    let listed = rows_view c.deref.result.now in
    let is : listed ≡ arranged table = ap rows_view c.deref.ensures.value ∙ c.in_ok-arranged.ensures.arranged ∙ ap arranged c.in_ok-rows.ensures.rows.0 in
    let some : table ≢ [] = λ none. false≢true (c.if-is_empty.ensures ∙ eq-eqb _ 0 (c.in_ok-rows.rows.ok.0 ∙ sym (length-map c.in_ok-rows.rows.items row_view) ∙ ap length (c.in_ok-rows.ensures.rows.0 ∙ none))) in
    same_answer (λ (entries : List SectionEntry) (_ : Unit {0}). map section_function_view c.push_rows.new.functions.items ≡ entries) (c.deref.result.now ≢ []) (table ≢ []) (text_added old text listed) (text_added old text (arranged table)) c.push_rows.result
    (ap (text_added old text) is) (λ _. some) c.push_rows.ensures
