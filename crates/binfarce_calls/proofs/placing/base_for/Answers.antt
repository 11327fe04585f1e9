use Rattle.std.proofs.Common.{◌∙◌, ℕ, Bor, List, Ok, Err, Option, Some, Result, ap, subst, sym}
use Rattle.std.specs.Option.{option_map}
use Rattle.binfarce_words.specs.WordViews.{given_view}
use Rattle.binfarce_logs.specs.Maps.{base_of}
use Rattle.binfarce_logs.specs.declared.maps.NoBase.{NoBase}
use Rattle.binfarce_calls.specs.Placing.{base_for, known}
use Rattle.binfarce_calls.proofs.placing.base_for.Goals as goal

pub returns-in-Ok : goal.returns-in-Ok
returns-in-Ok c =
    let given = given_view c.args.given.now in
    let Is : Option (Bor (List ℕ)) → Type 0 = λ maps. Path (Result (Option ℕ) NoBase) (Ok (Some c.in-Ok.base)) (base_for given (option_map (λ m. m.now) maps) c.args.place c.args.loaded) in
    subst Is (sym c.in-Some.is) (ap known (c.in-Ok.ensures ∙ ap (λ (path : List ℕ). base_of c.in-Some.maps.now path c.args.loaded) (c.as_bytes.ensures.value ∙ c.path_for.ensures)))

pub returns-in-Err : goal.returns-in-Err
returns-in-Err c =
    let given = given_view c.args.given.now in
    let Is : Option (Bor (List ℕ)) → Type 0 = λ maps. Path (Result (Option ℕ) NoBase) (Err c.in-Err.why) (base_for given (option_map (λ m. m.now) maps) c.args.place c.args.loaded) in
    subst Is (sym c.in-Some.is) (ap known (c.in-Err.ensures ∙ ap (λ (path : List ℕ). base_of c.in-Some.maps.now path c.args.loaded) (c.as_bytes.ensures.value ∙ c.path_for.ensures)))
