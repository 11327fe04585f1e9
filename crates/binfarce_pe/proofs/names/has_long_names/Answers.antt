use Rattle.std.proofs.Common.{◌≡◌, Bool, false, Option, Some, None, Result, Ok, Err, refl, subst, rules}
use Rattle.std.specs.Prelude.{find, is_some}
use Rattle.std.specs.Option.{option_map}
use Rattle.binfarce_bytes.specs.Refusal.{Refusal, Gives, unexpected_eof}
use Rattle.binfarce_bytes.specs.Walk.{first, found_or_end}
use Rattle.binfarce_pe.specs.Pe.{Section}
use Rattle.binfarce_pe.specs.PeNames.{offset_in, has_long_names}
use Rattle.binfarce_pe.specs.PeParts.{headers_view, table_walk}
use Rattle.binfarce_pe.specs.PeViews.{section_view}
use Rattle.binfarce_pe.specs.declared.sections.Section as code
use Rattle.binfarce_bytes.proofs.Firsts.{first_is}
use Rattle.binfarce_pe.proofs.names.has_long_names.Goals as goal

abbrev is_long : Section → Bool
is_long s = is_some (offset_in s.name)

none_found : (o : Option Section) (end : Option Refusal) (e : Refusal) → found_or_end o end ≡ Err e → false ≡ is_some o
none_found (Some s) end e is = absurd cc
none_found None end e is = refl

some_found : (o : Option Section) (end : Option Refusal) (found : Option code.Section) → found_or_end o end ≡ Ok (option_map section_view found) → is_some found ≡ is_some o
some_found (Some s) end (Some f) is = refl
some_found (Some s) end None is = absurd cc
some_found None None (Some f) is = absurd cc
some_found None None None is = refl
some_found None (Some r) found is = absurd cc

pub returns-in-Err : goal.returns-in-Err
unfolding has_long_names
returns-in-Err c =
    let walk = table_walk (headers_view c.args.table) in
    let gives = first_is (λ _. unexpected_eof) section_view _ is_long walk c.first_section.result (λ value answer reported. search rules) c.first_section.ensures in
    none_found (find is_long walk.items) walk.refusal unexpected_eof
    (subst (λ (r : Result _ _). Gives (λ _. unexpected_eof) (option_map section_view) (first is_long walk) r) c.in-Err.is gives)

pub returns-in-Ok : goal.returns-in-Ok
unfolding has_long_names
returns-in-Ok c =
    let walk = table_walk (headers_view c.args.table) in
    let gives = first_is (λ _. unexpected_eof) section_view _ is_long walk c.first_section.result (λ value answer reported. search rules) c.first_section.ensures in
    rw c.is_some.ensures (some_found (find is_long walk.items) walk.refusal c.in-Ok.found
    (subst (λ (r : Result _ _). Gives (λ _. unexpected_eof) (option_map section_view) (first is_long walk) r) c.in-Ok.is gives))
