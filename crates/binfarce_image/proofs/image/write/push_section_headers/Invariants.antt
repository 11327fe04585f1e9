use Rattle.std.proofs.Common.{◌≡◌, ◌++◌, ◌^◌, ◌<◌, drop}
use Rattle.std.specs.List.{AllByRecursion}
use Rattle.binfarce_image.specs.Image.{class_of, order_of, section_headers, bodies_end}
use Rattle.binfarce_image.specs.machine.Views.{HeaderFits}
use Rattle.binfarce_image.proofs.image.write.push_section_headers.Given as goal

-- with the headers that are left the file has all headers, all fit, and the bodies that are left end where all do
abbrev pub invariant-loop-part : goal.invariant-loop-part
invariant-loop-part l = record {
  headers : l.file.items ++ section_headers (class_of l.layout) (order_of l.layout) l.place (drop l.part-index l.parts) ≡ l.fn.file.items ++ section_headers (class_of l.layout) (order_of l.layout) (class_of l.layout).header_length l.parts;
  fits : AllByRecursion HeaderFits (drop l.part-index l.parts) → AllByRecursion HeaderFits l.parts;
  end : bodies_end (class_of l.layout) l.place (drop l.part-index l.parts) < 2 ^ 32;
}
