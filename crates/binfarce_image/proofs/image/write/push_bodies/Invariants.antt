use Rattle.std.proofs.Common.{◌≡◌, ◌++◌, drop}
use Rattle.std.specs.List.{AllByRecursion, flat_map}
use Rattle.binfarce_image.specs.Image.{class_of, order_of, body}
use Rattle.binfarce_image.specs.machine.Views.{BodyFits}
use Rattle.binfarce_image.proofs.image.write.push_bodies.Given as goal

-- with the bodies that are left the file has all bodies, and all fit
abbrev pub invariant-loop-part : goal.invariant-loop-part
invariant-loop-part l = record {
  bodies : l.file.items ++ flat_map (body (class_of l.layout) (order_of l.layout)) (drop l.part-index l.parts) ≡ l.fn.file.items ++ flat_map (body (class_of l.layout) (order_of l.layout)) l.parts;
  fits : AllByRecursion BodyFits (drop l.part-index l.parts) → AllByRecursion BodyFits l.parts;
}
