use Rattle.std.proofs.Common.{◌≡◌, ◌-◌, ◌^◌, ◌<◌, min, drop}
use Rattle.binfarce_image.specs.Image.{bodies_end}
use Rattle.binfarce_image.specs.machine.Views.{class_view}
use Rattle.binfarce_image.proofs.image.parts.bodies_end.Given as goal

-- from here the bodies that are left end where all of them do
abbrev pub invariant-loop-part : goal.invariant-loop-part
invariant-loop-part l = record {
  fits : l.end < 2 ^ 64;
  end : min (bodies_end (class_view l.class) l.end (drop l.part-index l.parts)) (2 ^ 64 - 1)
      ≡ min (bodies_end (class_view l.class) l.class.header_length l.parts) (2 ^ 64 - 1);
}
