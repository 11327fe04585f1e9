-- Which refusal of an image is due.
use Rattle.std.proofs.Common.{◌≡◌, ℕ, ◌+◌, ◌-◌, ◌*◌, ◌^◌, ◌≤◌, ◌<◌, Bool, true, false, nat_lt, nat_le, List, length, Option, Some, None, is_some, is_none, not, min, refl, ap, ◌∙◌, arith}
use Rattle.std.proofs.lemmas.Bool.Decides.{nat_tests}
use Rattle.binfarce_image.specs.declared.image.ElfLayout.{ElfLayout}
use Rattle.binfarce_image.specs.declared.image.Image.{Image}
use Rattle.binfarce_image.specs.declared.image.ImageError.TheVariants.{TooManySections, TableCount, NamesPlace, TooLarge}
use Rattle.binfarce_image.specs.Image.{class_of, bodies_end, bytes}
use Rattle.binfarce_image.specs.declared.image.Part.{Part}
use Rattle.binfarce_image.proofs.Lengths.{length-bytes}
use Rattle.binfarce.specs.Elf.{ElfClass}
use Rattle.binfarce_image.specs.ImageRefusal.{has_one_table, names_of, refusal_due}

missing : {A : Type 0} (o : Option A) (b : Bool) → is_some o ≡ b → is_none o ≡ not b
missing None b h = ap not h
missing (Some x) b h = ap not h

pub many_due : (image : Image) (layout : ElfLayout) → 65535 < length image.parts.items → refusal_due image layout ≡ Some TooManySections
unfolding refusal_due
many_due image layout h =
    let many : nat_lt 65535 (length image.parts.items) ≡ true = grind (arith, nat_tests) in rw many refl

pub table_due : (image : Image) (layout : ElfLayout) → length image.parts.items ≤ 65535 → has_one_table image.parts.items ≡ false → refusal_due image layout ≡ Some TableCount
unfolding refusal_due
table_due image layout h table =
    let few : nat_lt 65535 (length image.parts.items) ≡ false = grind (arith, nat_tests) in rw (few, table) refl

pub names_due : (image : Image) (layout : ElfLayout) → length image.parts.items ≤ 65535 → has_one_table image.parts.items ≡ true → is_some (names_of image) ≡ false → refusal_due image layout ≡ Some NamesPlace
unfolding refusal_due
names_due image layout h table names =
    let few : nat_lt 65535 (length image.parts.items) ≡ false = grind (arith, nat_tests) in
    let none : is_none (names_of image) ≡ true = missing (names_of image) false names in rw (few, table, none) refl

pub large_due : (image : Image) (layout : ElfLayout) → length image.parts.items ≤ 65535 → has_one_table image.parts.items ≡ true → is_some (names_of image) ≡ true → 2 ^ 32 ≤ length (bytes image layout) → refusal_due image layout ≡ Some TooLarge
unfolding refusal_due
large_due image layout h table names long =
    let few : nat_lt 65535 (length image.parts.items) ≡ false = grind (arith, nat_tests) in
    let some : is_none (names_of image) ≡ false = missing (names_of image) true names in
    let large : nat_le (2 ^ 32) (length (bytes image layout)) ≡ true = grind (arith, nat_tests) in rw (few, table, some, large) refl

pub none_due : (image : Image) (layout : ElfLayout) → length image.parts.items ≤ 65535 → has_one_table image.parts.items ≡ true → is_some (names_of image) ≡ true → length (bytes image layout) < 2 ^ 32 → refusal_due image layout ≡ None
unfolding refusal_due
none_due image layout h table names long =
    let few : nat_lt 65535 (length image.parts.items) ≡ false = grind (arith, nat_tests) in
    let some : is_none (names_of image) ≡ false = missing (names_of image) true names in
    let small : nat_le (2 ^ 32) (length (bytes image layout)) ≡ false = grind (arith, nat_tests) in rw (few, table, some, small) refl

-- what the code computes of a file's length: where its bodies end, and the whole
pub record Computes (image : Image) (layout : ElfLayout) (end whole : ℕ) : Type 0 where
  pub end_is : end ≡ min (bodies_end (class_of layout) (class_of layout).header_length image.parts.items) (2 ^ 64 - 1)
  pub whole_is : whole ≡ min (end + (class_of layout).section_length * length image.parts.items) (2 ^ 64 - 1)

pub computes : (image : Image) (layout : ElfLayout) (seen : ElfClass) (parts : List Part) (end whole : ℕ) → seen ≡ class_of layout → parts ≡ image.parts.items
    → end ≡ min (bodies_end seen seen.header_length parts) (2 ^ 64 - 1) → whole ≡ min (end + seen.section_length * length parts) (2 ^ 64 - 1) → Computes image layout end whole
computes image layout seen parts end whole class items e w = record {
  end_is = e ∙ (λ i. min (bodies_end (class i) (class i).header_length (items i)) (2 ^ 64 - 1));
  whole_is = w ∙ (λ i. min (end + (class i).section_length * length (items i)) (2 ^ 64 - 1));
}

pub long : (image : Image) (layout : ElfLayout) (end whole : ℕ) → Computes image layout end whole → 2 ^ 32 ≤ whole → 2 ^ 32 ≤ length (bytes image layout)
long image layout end whole h w = omega (arith, h.end_is, h.whole_is, w, length-bytes image layout)

pub short : (image : Image) (layout : ElfLayout) (end whole : ℕ) → Computes image layout end whole → whole < 2 ^ 32 → length (bytes image layout) < 2 ^ 32
short image layout end whole h w = omega (arith, h.end_is, h.whole_is, w, length-bytes image layout)

pub ends : (image : Image) (layout : ElfLayout) (end whole : ℕ) → Computes image layout end whole → whole < 2 ^ 32
    → (end ≡ bodies_end (class_of layout) (class_of layout).header_length image.parts.items) × (end < 2 ^ 32)
ends image layout end whole h w = (omega (arith, h.end_is, h.whole_is, w), omega (arith, h.end_is, h.whole_is, w))
