-- The bodies of an image's parts are where their section headers say.
use Rattle.std.proofs.Common.{◌≡◌, ℕ, ◌+◌, ◌≤◌, false, List, [], ◌∷◌, ◌++◌, length, take, refl, sym, ap, ◌∙◌, append_assoc, arith}
use Rattle.std.specs.List.{AllByRecursion, AllZip, enumerate_from, flat_map, list_any}
use Rattle.std.proofs.lemmas.Bool.{or_parts}
use Rattle.std.proofs.lemmas.List.{length-append, drop_at, take_at}
use Rattle.binfarce.specs.declared.ByteOrder.{ByteOrder}
use Rattle.binfarce.specs.Number.{bytes_at}
use Rattle.binfarce.specs.Elf.{ElfClass, Section}
use Rattle.binfarce_image.specs.declared.image.ElfLayout.{ElfLayout}
use Rattle.binfarce_image.specs.declared.image.Part.{Part}
use Rattle.binfarce_image.specs.Image.{class_of, order_of, body, body_length}
use Rattle.binfarce_image.specs.ImageRefusal.{claims_table}
use Rattle.binfarce_image.specs.ImageSymbols.{PartFits}
use Rattle.binfarce_image.proofs.Lengths.{length-body}
use Rattle.binfarce_image.proofs.HeadersBack.{section_of_part, sections_from}

-- the section of a file is that of the numbered part, and the part's body is where the section says
pub record IsSectionOf (class : ElfClass) (order : ByteOrder) (file : List ℕ) (section : Section) (found : ℕ × Part) : Type 0 where
  pub place : ℕ
  pub is : section ≡ section_of_part class place found.0 found.1
  pub split_is : bytes_at file place (body_length class found.1) ≡ body class order found.1
  pub inside : place + body_length class found.1 ≤ length file
  pub unclaimed : claims_table found.1 ≡ false
  pub fits : PartFits found.1

module _ (layout : ElfLayout) where
  abbrev class : ElfClass
  class = class_of layout

  abbrev order : ByteOrder
  order = order_of layout

  -- each section is that of its part
  pub bodies_back : (file front behind : List ℕ) (place i : ℕ) (parts : List Part) → file ≡ front ++ (flat_map (body class order) parts ++ behind) → length front ≡ place
      → AllByRecursion PartFits parts → list_any claims_table parts ≡ false
      → AllZip (IsSectionOf class order file) (sections_from class place i parts) (enumerate_from i parts)
  bodies_back file front behind place i [] split_is at fits unclaimed = tt
  bodies_back file front behind place i (part ∷ parts) split_is at fits unclaimed =
      let here = body class order part in
      let bodies = flat_map (body class order) parts in
      let rest = bodies ++ behind in
      let size = body_length class part in
      let long : length here ≡ size = length-body layout order part in
      let u = or_parts (claims_table part) (list_any claims_table parts) unclaimed in
      let split : file ≡ front ++ (here ++ rest) = split_is ∙ ap (λ (xs : List ℕ). front ++ xs) (append_assoc here bodies behind) in
      let further : length (front ++ here) ≡ place + size = length-append front here ∙ ap (λ (n : ℕ). n + length here) at ∙ ap (λ (n : ℕ). place + n) long in
      let found : bytes_at file place size ≡ here = ap (λ (xs : List ℕ). bytes_at xs place size) split ∙ ap (take size) (drop_at front (here ++ rest) place at) ∙ take_at here rest size long in
      let within : place + size ≤ length file = omega (arith, ap length split, length-append front (here ++ rest), length-append here rest) in (
        record { place = place; is = refl; split_is = found; inside = within; unclaimed = u.0; fits = fits.0 },
        bodies_back file (front ++ here) behind (place + size) (i + 1) parts (split ∙ sym (append_assoc front here rest)) further fits.1 u.1,
      )
