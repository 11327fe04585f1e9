use Rattle.std.proofs.Common.{List, map, subst, sym, take}
use Rattle.std.specs.Global.{Global}
use Rattle.std.specs.List.{AllZip}
use Rattle.std.specs.Prelude.{String}
use Rattle.binfarce_figures.specs.machine.Listings.{IsShownBy, name_of}
use Rattle.binfarce_figures.proofs.Growing.{zip_more}
use Rattle.binfarce_figures.proofs.NamedRows.{all_still_shown}
use Rattle.binfarce_figures.proofs.rows.Listing.indices_of.Goals as goal

pub loop-function-preserved : goal.loop-function-preserved
loop-function-preserved c =
    let naming = c.args.self.now.shown.now.naming in
    let functions = c.args.functions.now in
    let i = c.loop-function.function-index in
    let old = c.loop-function.texts.texts.items in
    let new = c.index_of.new.texts.texts.items in
    let (more, grown) = c.in_ok-index.ensures.grown in
    let before : AllZip (IsShownBy naming new) (map name_of (take i functions)) c.loop-function.indices.items =
    subst (λ (ts : List (String Global)). AllZip (IsShownBy naming ts) (map name_of (take i functions)) c.loop-function.indices.items) (sym grown) (all_still_shown naming old more (map name_of (take i functions)) c.loop-function.indices.items c.loop-function.invariant.1) in
    (c.in_ok-index.ensures.texts, zip_more (IsShownBy naming new) name_of functions i _ c.loop-function.indices.items c.push.new.self.items _ c.loop-function-test.true c.in_ok-push.ensures.items before c.in_ok-index.ensures.index)
