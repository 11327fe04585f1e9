use Rattle.std.proofs.Common.{◌≡◌, ℕ, ◌&&◌, ◌||◌, ap, arith, max, nat_le, nat_lt, reverse}
use Rattle.binfarce_figures.specs.machine.Spans.{covers}
use Rattle.binfarce_figures.proofs.claims.cover.Goals as goal

pub loop-span-init : goal.loop-span-init
loop-span-init c =
    let end : c.args.end ≡ max c.args.end c.args.place = omega (arith, c.requires.within) in
    record {
      rises = c.requires.rising;
      on = omega arith;
      sum = omega arith;
      same = λ at. ap (λ (n : ℕ). (nat_le c.args.place at && nat_lt at n) || covers (reverse c.args.spans.now.items) at) end;
    }
