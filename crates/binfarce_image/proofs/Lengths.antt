-- How long structures and files are, and where bodies end.
use Rattle.std.proofs.Common.{◌≡◌, ℕ, zero, suc, ◌+◌, ◌-◌, ◌*◌, ◌≤◌, Bool, true, false, ◌&&◌, min, List, [], ◌∷◌, ◌++◌, length, take, replicate, refl, sym, ap, ◌∙◌, arith}
use Rattle.std.proofs.lemmas.Bool.{and_parts}
use Rattle.std.proofs.lemmas.Bool.Decides.{nat_tests}
use Rattle.std.proofs.lemmas.List.{length-append, length-take, length-drop, length-replicate}
use Rattle.std.proofs.Math.Nat.{suc-mul, mul-suc}
use Rattle.std.specs.List.{flat_map}
use Rattle.binfarce.specs.declared.ByteOrder.{ByteOrder}
use Rattle.binfarce.specs.Field.{Field}
use Rattle.binfarce.specs.Elf.{ElfClass, elf32, elf64}
use Rattle.binfarce_image.specs.declared.image.ElfLayout.{ElfLayout}
use Rattle.binfarce_image.specs.declared.image.ElfLayout.TheVariants.{Elf32Little, Elf32Big, Elf64Little, Elf64Big}
use Rattle.binfarce_image.specs.declared.image.Image.{Image}
use Rattle.binfarce_image.specs.declared.image.Part.{Part}
use Rattle.binfarce_image.specs.declared.image.Part.TheVariants.{Bytes, Table}
use Rattle.binfarce_image.specs.declared.image.Row.{Row}
use Rattle.binfarce_image.specs.Structure.{number_bytes, put, filled}
use Rattle.binfarce_image.specs.Image.{class_of, order_of, body_length, bodies_end, symbol_numbers, section_numbers, header_numbers, identification, symbol_bytes, body, section_bytes, section_headers, header_bytes, bytes}
use Rattle.binfarce_image.specs.machine.Views.{fits, all_fit}
use Rattle.binfarce_image.proofs.Bytes.{length-number_bytes}

pub within : (n : ℕ) (f : Field) → fits n f ≡ true → f.offset + f.width ≤ n
within n f h = grind (arith, nat_tests)

-- a number that is put into a field of a structure leaves its length
pub length-put : (order : ByteOrder) (bs : List ℕ) (f : Field) (n : ℕ) → fits (length bs) f ≡ true → length (put order bs (f, n)) ≡ length bs
unfolding put
length-put order bs f n h =
    let inside : f.offset + f.width ≤ length bs = within (length bs) f h in
    let written = number_bytes order f.width n in
    let long : length written ≡ f.width = length-number_bytes order f.width n in
    simp (length-append, length-take, length-drop) (omega (arith, inside, long))

pub length-filled : (order : ByteOrder) (bs : List ℕ) (numbers : List (Field × ℕ)) → all_fit (length bs) numbers ≡ true → length (filled order bs numbers) ≡ length bs
length-filled order bs [] h = refl
length-filled order bs (number ∷ numbers) h =
    let first = and_parts _ (all_fit (length bs) numbers) h in
    let same : length (put order bs number) ≡ length bs = length-put order bs number.0 number.1 first.0 in
    length-filled order (put order bs number) numbers (ap (λ n. all_fit n numbers) same ∙ first.1) ∙ same

-- the fields of each structure lie in it
pub symbol_fits : (layout : ElfLayout) (row : Row) → all_fit (class_of layout).symbol_length (symbol_numbers (class_of layout) row) ≡ true
unfolding elf32 elf64
symbol_fits Elf32Little row = refl
symbol_fits Elf32Big row = refl
symbol_fits Elf64Little row = refl
symbol_fits Elf64Big row = refl

pub section_fits : (layout : ElfLayout) (place : ℕ) (part : Part) → all_fit (class_of layout).section_length (section_numbers (class_of layout) place part) ≡ true
unfolding elf32 elf64
section_fits Elf32Little place part = refl
section_fits Elf32Big place part = refl
section_fits Elf64Little place part = refl
section_fits Elf64Big place part = refl

pub header_fits : (layout : ElfLayout) (image : Image) → all_fit (class_of layout).header_length (header_numbers (class_of layout) image) ≡ true
unfolding elf32 elf64
header_fits Elf32Little image = refl
header_fits Elf32Big image = refl
header_fits Elf64Little image = refl
header_fits Elf64Big image = refl

-- the structures of a class are no longer than 64 bytes
pub record Lengths (class : ElfClass) : Type 0 where
  pub header : class.header_length ≤ 64
  pub identified : 16 ≤ class.header_length
  pub section : class.section_length ≤ 64
  pub symbol : class.symbol_length ≤ 64

pub lengths : (layout : ElfLayout) → Lengths (class_of layout)
unfolding elf32 elf64
lengths Elf32Little = record { header = omega arith; identified = omega arith; section = omega arith; symbol = omega arith }
lengths Elf32Big = record { header = omega arith; identified = omega arith; section = omega arith; symbol = omega arith }
lengths Elf64Little = record { header = omega arith; identified = omega arith; section = omega arith; symbol = omega arith }
lengths Elf64Big = record { header = omega arith; identified = omega arith; section = omega arith; symbol = omega arith }

pub length-symbol_bytes : (layout : ElfLayout) (order : ByteOrder) (row : Row) → length (symbol_bytes (class_of layout) order row) ≡ (class_of layout).symbol_length
unfolding symbol_bytes
length-symbol_bytes layout order row =
    let zeros = length-replicate (class_of layout).symbol_length 0 in
    length-filled order (replicate (class_of layout).symbol_length 0) (symbol_numbers (class_of layout) row) (ap (λ n. all_fit n (symbol_numbers (class_of layout) row)) zeros ∙ symbol_fits layout row) ∙ zeros

pub length-section_bytes : (layout : ElfLayout) (order : ByteOrder) (place : ℕ) (part : Part) → length (section_bytes (class_of layout) order place part) ≡ (class_of layout).section_length
unfolding section_bytes
length-section_bytes layout order place part =
    let zeros = length-replicate (class_of layout).section_length 0 in
    length-filled order (replicate (class_of layout).section_length 0) (section_numbers (class_of layout) place part) (ap (λ n. all_fit n (section_numbers (class_of layout) place part)) zeros ∙ section_fits layout place part) ∙ zeros

-- the header's bytes before its numbers are put in
pub length-blank : (layout : ElfLayout) → length (identification layout ++ replicate ((class_of layout).header_length - 16) 0) ≡ (class_of layout).header_length
unfolding elf32 elf64
length-blank Elf32Little = refl
length-blank Elf32Big = refl
length-blank Elf64Little = refl
length-blank Elf64Big = refl

pub length-header_bytes : (layout : ElfLayout) (image : Image) → length (header_bytes layout image) ≡ (class_of layout).header_length
unfolding header_bytes
length-header_bytes layout image =
    let blank = length-blank layout in
    length-filled (order_of layout) (identification layout ++ replicate ((class_of layout).header_length - 16) 0) (header_numbers (class_of layout) image) (ap (λ n. all_fit n (header_numbers (class_of layout) image)) blank ∙ header_fits layout image) ∙ blank

length-rows : (layout : ElfLayout) (order : ByteOrder) (rows : List Row) → length (flat_map (symbol_bytes (class_of layout) order) rows) ≡ length rows * (class_of layout).symbol_length
length-rows layout order [] = sym (omega arith)
length-rows layout order (row ∷ rows) =
    omega (arith, suc-mul (length rows) (class_of layout).symbol_length, length-append (symbol_bytes (class_of layout) order row) (flat_map (symbol_bytes (class_of layout) order) rows), length-symbol_bytes layout order row, length-rows layout order rows)

pub length-body : (layout : ElfLayout) (order : ByteOrder) (part : Part) → length (body (class_of layout) order part) ≡ body_length (class_of layout) part
length-body layout order (Bytes name kind link body) = refl
length-body layout order (Table name link rows) = length-rows layout order rows.items

-- where bodies end, from another place
pub bodies_end_from : (class : ElfClass) (place : ℕ) (parts : List Part) → bodies_end class place parts ≡ place + bodies_end class 0 parts
bodies_end_from class place [] = omega arith
bodies_end_from class place (part ∷ parts) = omega (arith, bodies_end_from class (place + body_length class part) parts, bodies_end_from class (0 + body_length class part) parts)

pub length-bodies : (layout : ElfLayout) (order : ByteOrder) (place : ℕ) (parts : List Part) → place + length (flat_map (body (class_of layout) order) parts) ≡ bodies_end (class_of layout) place parts
length-bodies layout order place [] = omega arith
length-bodies layout order place (part ∷ parts) =
    omega (arith, length-append (body (class_of layout) order part) (flat_map (body (class_of layout) order) parts), length-body layout order part, length-bodies layout order (place + body_length (class_of layout) part) parts)

pub length-section_headers : (layout : ElfLayout) (order : ByteOrder) (place : ℕ) (parts : List Part) → length (section_headers (class_of layout) order place parts) ≡ (class_of layout).section_length * length parts
length-section_headers layout order place [] = omega arith
length-section_headers layout order place (part ∷ parts) =
    let rest = section_headers (class_of layout) order (place + body_length (class_of layout) part) parts in
    omega (arith, mul-suc (class_of layout).section_length (length parts), length-append (section_bytes (class_of layout) order place part) rest, length-section_bytes layout order place part, length-section_headers layout order (place + body_length (class_of layout) part) parts)

-- how long a file is
pub length-bytes : (image : Image) (layout : ElfLayout) → length (bytes image layout) ≡ bodies_end (class_of layout) (class_of layout).header_length image.parts.items + (class_of layout).section_length * length image.parts.items
unfolding bytes
length-bytes image layout =
    let class = class_of layout in
    let order = order_of layout in
    let parts = image.parts.items in
    let bodies = flat_map (body class order) parts in
    let headers = section_headers class order class.header_length parts in
    omega (arith, length-append (header_bytes layout image) (bodies ++ headers), length-append bodies headers, length-header_bytes layout image, length-bodies layout order class.header_length parts, length-section_headers layout order class.header_length parts)

-- a sum that stops at the greatest number gives the same end, or both are past that number
pub bodies_end_saturated : (class : ElfClass) (place most : ℕ) (part : Part) (parts : List Part) → min (bodies_end class (min (place + min (body_length class part) most) most) parts) most ≡ min (bodies_end class (place + body_length class part) parts) most
bodies_end_saturated class place most part parts =
    omega (arith, bodies_end_from class (min (place + min (body_length class part) most) most) parts, bodies_end_from class (place + body_length class part) parts)

-- a place isn't behind the end of the bodies that begin there
pub bodies_end_above : (class : ElfClass) (place : ℕ) (parts : List Part) → place ≤ bodies_end class place parts
bodies_end_above class place parts = omega (arith, bodies_end_from class place parts)

-- the first of many zeros
pub take_zeros : (n most : ℕ) → n ≤ most → take n (replicate {A = ℕ} most 0) ≡ replicate n 0
take_zeros zero most h = refl
take_zeros (suc n) zero h = absurd (omega arith)
take_zeros (suc n) (suc most) h = ap (λ zeros. 0 ∷ zeros) (take_zeros n most (omega arith))

-- the header's bytes before its numbers are put in, as the first of 64
pub take_blank : (layout : ElfLayout) → take (class_of layout).header_length (identification layout ++ replicate 48 0) ≡ identification layout ++ replicate ((class_of layout).header_length - 16) 0
unfolding elf32 elf64
take_blank Elf32Little = refl
take_blank Elf32Big = refl
take_blank Elf64Little = refl
take_blank Elf64Big = refl
