use Rattle.std.proofs.Common.{◌≡◌, ◌+◌, ◌-◌, ◌&&◌, false, drop, length, sym, ◌∙◌, ap, take}
use Rattle.std.proofs.lemmas.List.{take_rest}
use Rattle.binfarce_filtering.specs.Filter.{ends_name}
use Rattle.binfarce_filtering.proofs.Names.{legacy_other, no_symbol}
use Rattle.binfarce_filtering.proofs.filter.symbol_len.Goals as goal
use Rattle.binfarce_filtering.proofs.filter.symbol_len.Goals.{else-has_hash-via-then-has_hash+else-ends_name, else-has_hash-via-else-has_hash}

pub returns-else-has_hash : goal.returns-else-has_hash
returns-else-has_hash c =
    let run = c.args.run.now in
    let end = c.in_ok-end.end in
    let rest = take (length run - (3 + end)) (drop (3 + end) run) in
    let other : c.in_ok-end.has_hash && ends_name rest ≡ false = elim c.else-has_hash.branch [
      | else-has_hash-via-then-has_hash+else-ends_name w ↦ ap (λ t. t && ends_name rest) w.if-has_hash.true ∙ sym w.if-ends_name.ensures
      | else-has_hash-via-else-has_hash w ↦ ap (λ t. t && ends_name rest) w.if-has_hash.false
    ] in
    no_symbol run (sym c.if-begins_v0.ensures)
    (legacy_other run (take (length run - 3) (drop 3 run)) rest end c.in_ok-end.has_hash (take_rest run 3) c.in_ok-end.ensures.1 (take_rest run (3 + end)) other)
