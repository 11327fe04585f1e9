use Rattle.std.proofs.Common.{◌≡◌, List, ℕ, [], ◌∷◌, ◌++◌, ◌∙◌, OnOk, ap, codes, refl, rules, subst, sym}
use Rattle.std.proofs.lemmas.Result.{on_ok_weaker}
use Rattle.std.specs.Option.{option_map}
use Rattle.std.specs.Prelude.{Option, Some}
use Rattle.std.specs.String.{string_bytes}
use Rattle.binfarce.specs.SymbolViews.{section_function_view}
use Rattle.binfarce_rows.specs.Json.{address_member, number_member, object_start, style_of, text_member}
use Rattle.binfarce_rows.specs.Columns.{line_head}
use Rattle.binfarce_tools.specs.SelectedTexts.{section_part}
use Rattle.binfarce_tools.specs.Tables.{section_names, version_names_of}
use Rattle.binfarce_rows.specs.declared.json.Form.{Form}
use Rattle.binfarce_rows.proofs.Objects.{one, more}
use Rattle.binfarce_figures.specs.RowListing.{IsRowWith, row_line, row_object, section_value, symbol_members}
use Rattle.binfarce_figures.proofs.rows.Listing.push_row.Goals.{in-Some, in-None}
use Rattle.binfarce_figures.proofs.rows.Listing.push_row.Goals as goal

pub returns-in_ok-push_str-in-Lines : goal.returns-in_ok-push_str-in-Lines
returns-in_ok-push_str-in-Lines c =
    let old = string_bytes c.args.text.now in
    let listing = c.args.self.now in
    let names = section_names listing.tables.now in
    let versions = version_names_of listing.tables.now in
    let e = section_function_view c.args.function in
    let name = c.args.name.now in
    let head = line_head e.entry.address e.entry.size in
    let part = section_part names listing.size e.section in
    let new = string_bytes c.push_str-in-Lines.new.self in
    let t1 = one old (string_bytes c.push_head.new.text) head c.in_ok-push_head-in-Lines.ensures in
    let t2 = more old (string_bytes c.push_head.new.text) (string_bytes c.push_section_part.new.text) (head ∷ []) part t1 c.in_ok-push_section_part-in-Lines.ensures in
    let t3 = more old (string_bytes c.push_section_part.new.text) (string_bytes c.push_str.new.self) (head ∷ part ∷ []) name t2 c.in_ok-push_str-in-Lines.ensures.bytes in
    subst (λ (form : Form). OnOk c.push_str-in-Lines.result ((row : List ℕ) × IsRowWith (style_of form) names versions listing.size e name row × (new ≡ old ++ row))) (sym c.in-Lines.is)
    (on_ok_weaker c.push_str-in-Lines.result (λ is. (row_line names listing.size e name, refl, more old (string_bytes c.push_str.new.self) new (head ∷ part ∷ name ∷ []) (codes "\n") t3 is)) (search rules))

pub returns-in_ok-push_symbol-in-Objects : goal.returns-in_ok-push_symbol-in-Objects
returns-in_ok-push_symbol-in-Objects c =
    let old = string_bytes c.args.text.now in
    let listing = c.args.self.now in
    let names = section_names listing.tables.now in
    let versions = version_names_of listing.tables.now in
    let e = section_function_view c.args.function in
    let file = c.in-Objects.file.now in
    let selected = c.in-Objects.selected.now in
    let section = section_value names selected listing.size e.section in
    let section_is : option_map (λ t. t.now) c.match-self-2.section ≡ section =
    elim c.match-self-2.branch [ in-Some w ↦ rw (w.section-is, w.in-Some.is) refl | in-None w ↦ rw (w.section-is, w.in-None.is) w.section_name-section.ensures.read ] in
    let start = object_start file in
    let section_part = text_member (codes "section") section in
    let address = address_member e.entry.address in
    let size = number_member (codes "size") e.entry.size in
    let name = text_member (codes "name") (Some c.args.name.now) in
    let raw = text_member (codes "raw") (Some e.entry.name) in
    let crate_text = string_bytes c.put_crate.new.text in
    let crate_part = text_member (codes "crate") (Some crate_text) in
    let new = string_bytes c.push_str-in-Objects.new.self in
    let t1 = one old (string_bytes c.push_start.new.text) start c.in_ok-push_start-in-Objects.ensures in
    let t2 = more old (string_bytes c.push_start.new.text) (string_bytes c.push_text_member.new.text) (start ∷ []) section_part t1 (c.in_ok-push_text_member-in-Objects.ensures ∙ ap (λ (v : Option (List ℕ)). string_bytes c.push_start.new.text ++ text_member (codes "section") v) section_is) in
    let t3 = more old (string_bytes c.push_text_member.new.text) (string_bytes c.push_address_member.new.text) (start ∷ section_part ∷ []) address t2 c.in_ok-push_address_member-in-Objects.ensures in
    let t4 = more old (string_bytes c.push_address_member.new.text) (string_bytes c.push_number_member.new.text) (start ∷ section_part ∷ address ∷ []) size t3 c.in_ok-push_number_member-in-Objects.ensures in
    let t5 = more old (string_bytes c.push_number_member.new.text) (string_bytes c.push_text_member-in-Objects.new.text) (start ∷ section_part ∷ address ∷ size ∷ []) name t4 c.in_ok-push_text_member-in-Objects-2.ensures in
    let t6 = more old (string_bytes c.push_text_member-in-Objects.new.text) (string_bytes c.push_text_member-in-Objects-2.new.text) (start ∷ section_part ∷ address ∷ size ∷ name ∷ []) raw t5 c.in_ok-push_text_member-in-Objects-3.ensures in
    let t7 = more old (string_bytes c.push_text_member-in-Objects-2.new.text) (string_bytes c.push_text_member-in-Objects-3.new.text) (start ∷ section_part ∷ address ∷ size ∷ name ∷ raw ∷ []) crate_part t6
    (c.in_ok-push_text_member-in-Objects-4.ensures ∙ ap (λ (v : List ℕ). string_bytes c.push_text_member-in-Objects-2.new.text ++ text_member (codes "crate") (Some v)) c.as_str.ensures.value) in
    let t8 = more old (string_bytes c.push_text_member-in-Objects-3.new.text) (string_bytes c.push_symbol.new.text) (start ∷ section_part ∷ address ∷ size ∷ name ∷ raw ∷ crate_part ∷ []) (symbol_members versions e) t7 c.in_ok-push_symbol-in-Objects.ensures in
    subst (λ (form : Form). OnOk c.push_str-in-Objects.result ((row : List ℕ) × IsRowWith (style_of form) names versions listing.size e c.args.name.now row × (new ≡ old ++ row))) (sym c.in-Objects.is)
    (on_ok_weaker c.push_str-in-Objects.result (λ is. (
      row_object file selected names versions listing.size e c.args.name.now crate_text,
      (crate_text, c.in_ok-put_crate-in-Objects.ensures, refl),
      more old (string_bytes c.push_symbol.new.text) new (start ∷ section_part ∷ address ∷ size ∷ name ∷ raw ∷ crate_part ∷ symbol_members versions e ∷ []) (codes "}\n") t8 is,
    )) (search rules))
