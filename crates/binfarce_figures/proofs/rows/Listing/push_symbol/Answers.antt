use Rattle.std.proofs.Common.{◌≡◌, ◌++◌, ◌∙◌, List, Option, [], ◌∷◌, ap, codes, rules}
use Rattle.std.proofs.lemmas.Result.{on_ok_weaker}
use Rattle.std.specs.Option.{option_map}
use Rattle.std.specs.Prelude.{ℕ}
use Rattle.std.specs.String.{string_bytes}
use Rattle.binfarce_rows.specs.Json.{text_member}
use Rattle.binfarce_tools.specs.Tables.{version_names_of}
use Rattle.binfarce_rows.proofs.Objects.{one, more}
use Rattle.binfarce_figures.specs.RowListing.{binding_word, kind_word}
use Rattle.binfarce_figures.proofs.rows.Listing.push_symbol.Goals as goal

pub returns : goal.returns
returns c =
    let versions = version_names_of c.args.self.now.tables.now in
    let function = c.args.function in
    let old = string_bytes c.args.text.now in
    let first = string_bytes c.push_text_member.new.text in
    let second = string_bytes c.push_text_member-2.new.text in
    let third = string_bytes c.push_text_member-3.new.text in
    let binding = text_member (codes "binding") (binding_word function.info) in
    let kind = text_member (codes "kind") (kind_word function.info) in
    let version = text_member (codes "version") (versions function.version) in
    let named : option_map (λ t. t.now) c.name-version.result ≡ versions function.version = c.name-version.ensures ∙ c.version_names.ensures.read function.version in
    let t1 = one old first binding (c.in_ok-push_text_member.ensures ∙ ap (λ (v : Option (List ℕ)). old ++ text_member (codes "binding") v) c.binding_word.ensures) in
    let t2 = more old first second (binding ∷ []) kind t1 (c.in_ok-push_text_member-2.ensures ∙ ap (λ (v : Option (List ℕ)). first ++ text_member (codes "kind") v) c.kind_word.ensures) in
    on_ok_weaker c.push_text_member-3.result (λ is. more old second third (binding ∷ kind ∷ []) version t2 (is ∙ ap (λ (v : Option (List ℕ)). second ++ text_member (codes "version") v) named)) (search rules)
