use Rattle.std.proofs.Common.{ℕ, List, map-id, sym, ap, ◌∙◌}
use Rattle.std.proofs.lemmas.Iterator.{YieldsList-from_chars}
use Rattle.std.proofs.lemmas.Iterator.Consumers.{YieldsList-end}
use Rattle.std.specs.Prelude.{encode_utf8_all}
use Rattle.std.specs.String.{string_bytes}
use Rattle.binfarce_figures.specs.Keys.{last_name}
use Rattle.binfarce_figures.proofs.LastNames.{goes_on}
use Rattle.binfarce_figures.proofs.key.put_last_name.Goals as goal

pub loop-c-preserved-in-Continue-1 : goal.loop-c-preserved-in-Continue-1
loop-c-preserved-in-Continue-1 c =
    goes_on (string_bytes c.loop-c.text) (string_bytes c.push.new.self) c.loop-c.yielded c.in-Some.c (sym c.is_of_name.ensures ∙ c.if-is_of_name.true) c.loop-c.invariant c.in_ok-push.ensures.bytes

pub returns : goal.returns
returns c =
    let end = YieldsList-end (YieldsList-from_chars c.args.front.now c.utf8.front cc) c.loop-c.yielded _ c.loop-c.yielded_by _ _ c.in-None.is c.next.ensures.steps in
    c.loop-c.invariant ∙ ap (λ (cs : List ℕ). encode_utf8_all (last_name cs)) (sym (map-id c.loop-c.yielded) ∙ end.0)
