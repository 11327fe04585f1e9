use Rattle.std.proofs.Common.{rules, tests, ◌≡◌, ◌∙◌, ℕ, List, [], true, ◌++◌, sym, ap, append_assoc, codes, if◌then◌else◌, Bool}
use Rattle.std.proofs.lemmas.Iterator.{YieldsList-from_slice}
use Rattle.std.proofs.lemmas.Iterator.Search.{all_from_yields_List}
use Rattle.std.specs.Char.{is_ascii_graphic}
use Rattle.std.specs.List.{list_all}
use Rattle.std.specs.String.{string_bytes}
use Rattle.binfarce_jobs.specs.Hints.{link_text}
use Rattle.binfarce_jobs.proofs.Links.{graphic_is_utf8}
use Rattle.binfarce_jobs.proofs.hint.push_link.Goals as goal

pub unwrap-requires : goal.unwrap-requires
unwrap-requires c =
    let name = c.up_to_nul-name.result.now in
    let all : list_all is_ascii_graphic name ≡ true = sym (all_from_yields_List is_ascii_graphic _ _ _ c.all.ensures.ran (YieldsList-from_slice name cc) (λ x b q k. search (rules, tests))) ∙ c.if-not-all.false in
    let text = graphic_is_utf8 name all in
    search (rules, text)

pub returns : goal.returns
returns c =
    let name = c.up_to_nul-name.result.now in
    let all : list_all is_ascii_graphic name ≡ true = sym (all_from_yields_List is_ascii_graphic _ _ _ c.all.ensures.ran (YieldsList-from_slice name cc) (λ x b q k. search (rules, tests))) ∙ c.if-not-all.false in
    let between = codes ", or in a file " in
    let named : link_text c.args.link.now ≡ between ++ name =
    ap (λ (n : List ℕ). if list_all is_ascii_graphic n then between ++ n else []) (sym c.up_to_nul-name.ensures) ∙ ap (λ (b : Bool). if b then between ++ name else []) all in
    let text : c.unwrap.result.now ≡ name = search rules in
    let start = string_bytes c.args.text.now in
    c.in_ok-push_str-2.ensures.bytes ∙ ap (λ (n : List ℕ). string_bytes c.push_str.new.self ++ n) text ∙ ap (λ (t : List ℕ). t ++ name) c.in_ok-push_str.ensures.bytes
    ∙ append_assoc start between name ∙ ap (λ (t : List ℕ). start ++ t) (sym named)
