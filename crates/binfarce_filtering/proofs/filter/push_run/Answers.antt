use Rattle.std.proofs.Common.{ℕ, List, ◌≡◌, ◌++◌, true, sym}
use Rattle.binfarce_filtering.specs.Filter.{IsRead, IsShown}
use Rattle.binfarce_filtering.proofs.Parts.{last_write, on_ok, short_is_shown, too_long_is_shown}
use Rattle.binfarce_filtering.proofs.Runs.{run_bytes}
use Rattle.binfarce_filtering.proofs.filter.push_run.Goals as goal

pub returns-then-is_too_long : goal.returns-then-is_too_long
returns-then-is_too_long c =
    let run = c.args.run.now in
    last_write c.extend_from_slice.result (IsShown c.args.full run) c.args.out.now.items c.extend_from_slice.new.self.items run c.extend_from_slice.ensures.items (too_long_is_shown c.args.full run (sym c.if-is_too_long.ensures))

pub push_names-requires : goal.push_names-requires
push_names-requires c = run_bytes c.args.run.now c.requires

pub returns : goal.returns
returns c =
    let run = c.args.run.now in
    let out = c.args.out.now.items in
    on_ok ((shown : List ℕ) × IsRead c.args.full true run shown × (c.push_names.new.out.items ≡ out ++ shown)) ((shown : List ℕ) × IsShown c.args.full run shown × (c.push_names.new.out.items ≡ out ++ shown)) c.push_names.result
    (λ s. (s.0, short_is_shown c.args.full run s.0 (sym c.if-is_too_long.ensures) s.1, s.2)) c.push_names.ensures
