use Rattle.std.proofs.Common.{◌+◌, ◌-◌, [], ◌∷◌, take, drop, length, get_or, refl, sym, arith}
use Rattle.std.proofs.lemmas.List.{take_rest}
use Rattle.binfarce_filtering.proofs.Names.{byte_read, drops_nothing, drops_number, name_read, rest_read}
use Rattle.binfarce_filtering.proofs.Runs.{beginning_is_run}
use Rattle.binfarce_filtering.proofs.filter.push_next.Goals as goal

pub returns-then-not-begins_name-clause-shown : goal.returns-then-not-begins_name-clause-shown
returns-then-not-begins_name-clause-shown c =
    let run = c.args.run.now in
    (get_or run 0 0 ∷ [], λ rest is. byte_read c.args.full c.args.first run rest c.requires.some (sym c.if-not-begins_name.ensures) is, c.in_ok-push.ensures.items)

pub name_len-requires : goal.name_len-requires
name_len-requires c = (c.args.first, sym c.if-not-begins_name.ensures)

pub returns-in_default-clause-shown : goal.returns-in_default-clause-shown
returns-in_default-clause-shown c =
    let run = c.args.run.now in
    (run, λ rest is. rest_read c.args.full c.args.first run rest (sym c.if-not-begins_name.ensures) c.in_default.ensures is, c.in_ok-extend_from_slice.ensures.items)

pub push_name-requires : goal.push_name-requires
push_name-requires c = beginning_is_run c.args.run.now c.in-Some.len c.requires.run

pub returns-then-changes-clause-shown : goal.returns-then-changes-clause-shown
returns-then-changes-clause-shown c =
    let run = c.args.run.now in
    let len = c.in-Some.len in
    let n = c.llvm_len.result in
    let shown = c.in_ok-changes.ensures in
    let drops = drops_number (take len run) shown.0 (drop len run) (take (length run - len) (drop len run)) n c.in_ok-changes.changes c.if-changes.true shown.2 (take_rest run len) c.llvm_len.ensures.len in
    (shown.0, λ rest is. name_read c.args.full c.args.first run shown.0 rest len n (len + n) (sym c.if-not-begins_name.ensures) c.in-Some.ensures.2 shown.1 drops refl is, shown.3)

pub returns-else-changes-clause-shown : goal.returns-else-changes-clause-shown
returns-else-changes-clause-shown c =
    let run = c.args.run.now in
    let len = c.in-Some.len in
    let shown = c.in_ok-changes.ensures in
    let drops = drops_nothing (take len run) shown.0 (drop len run) c.in_ok-changes.changes c.if-changes.false shown.2 in
    (shown.0, λ rest is. name_read c.args.full c.args.first run shown.0 rest len 0 len (sym c.if-not-begins_name.ensures) c.in-Some.ensures.2 shown.1 drops (omega arith) is, shown.3)
