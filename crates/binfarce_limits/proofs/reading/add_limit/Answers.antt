use Rattle.std.proofs.Common.{◌∙◌, Some, [], ◌∷◌, ap, map}
use Rattle.std.proofs.lemmas.List.{map-append}
use Rattle.std.proofs.lemmas.Map.Text.{btree_map_updates_str}
use Rattle.binfarce_limits.specs.Rows.{limit_view}
use Rattle.binfarce_limits.proofs.Names.{named_more}
use Rattle.binfarce_limits.proofs.reading.add_limit.Goals as goal

pub returns-clause-names : goal.returns-clause-names
returns-clause-names c =
    named_more (map limit_view c.args.limits.now.items) _ (limit_view c.args.limit) c.args.names.now c.insert.new.self c.requires
    (btree_map_updates_str c.args.limit.name.now c.args.names.now c.insert.new.self (Some tt) c.in_ok-insert.ensures.updates)
    (ap (map limit_view) c.in_ok-push.ensures.items ∙ map-append limit_view c.args.limits.now.items (c.args.limit ∷ []))
