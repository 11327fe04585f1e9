use Rattle.std.proofs.Common.{◌≡◌, true, length, drop}
use Rattle.binfarce_image.specs.Structure.{filled}
use Rattle.binfarce_image.specs.machine.Views.{all_fit, numbers_view}
use Rattle.binfarce_image.proofs.image.write.fill.Given as goal

-- the numbers that are left fit, and once they are put in, all are
abbrev pub invariant-loop-number : goal.invariant-loop-number
invariant-loop-number l = record {
  fit : all_fit (length l.structure) (numbers_view (drop l.number-index l.numbers)) ≡ true;
  done : filled l.order l.structure (numbers_view (drop l.number-index l.numbers)) ≡ filled l.order l.fn.structure (numbers_view l.numbers);
}
