use Rattle.std.proofs.Common.{◌≡◌, ◌∙◌, ◌==◌, ℕ, List, Bor, Ok, MatchResult, ap, map, lit<, subst}
use Rattle.std.specs.List.{slice_split}
use Rattle.std.proofs.lemmas.Iterator.Consumers.{map_from_collect}
use Rattle.std.proofs.lemmas.Iterator.Splits.{YieldsList-from_str_split}
use Rattle.binfarce_limits.specs.Reading.{limits_of}
use Rattle.binfarce_limits.specs.ReadingViews.{IsUnread}
use Rattle.binfarce_limits.specs.Rows.{limit_view}
use Rattle.binfarce_limits.proofs.reading.read_limits.Goals as goal

pub returns : goal.returns
returns c =
    let text = c.args.text.now in
    let lines = c.in_ok-lines.lines in
    let parts : map (λ (l : Bor (List ℕ)). l.now) lines.items ≡ slice_split (λ b. b == 10) text =
    map_from_collect {E = Unit {0}} (Ok lines) c.in_ok-lines.ensures.ran (YieldsList-from_str_split 10 text (lit< tt) c.split.ensures.text c.split.ensures.has_more c.split.ensures.pattern) in
    let are : map (λ (l : Bor (List ℕ)). l.now) c.deref.result.now ≡ slice_split (λ b. b == 10) text = ap (map (λ (l : Bor (List ℕ)). l.now)) c.deref.ensures.value ∙ parts in
    subst (λ (ls : List (List ℕ)). MatchResult c.limits_of.result (λ v. limits_of c.args.compares ls ≡ Ok (map limit_view v.items)) (IsUnread (limits_of c.args.compares ls))) are c.limits_of.ensures
