-- The form of the grammar at a position of a v0 mangling: the front of a production, up to its first path, type or const (RFC 2603, "Syntax of
-- mangled names"). A position is None after invalid syntax; there is no form there.
use Rattle.std.specs.Prelude.{◌≡◌, ℕ, ◌+◌, List, Option, Some, None, Bool, true, false, ◌||◌, ◌&&◌, not, if◌then◌else◌, ◌==◌, nat_lt, slice_index, length, codes}
use Rattle.std.proofs.Common.{refl}
use Rattle.std.specs.Option.{option_map_or}
use Rattle.std.specs.Char.{is_ascii_alphabetic}
use Rattle.binfarce_text.specs.Letters.{'A', 'B', 'C', 'D', 'F', 'G', 'I', 'K', 'L', 'M', 'N', 'O', 'P', 'Q', 'R', 'S', 'T', 'U', 'X', 'Y', 'a', 'b', 'c', 'd', 'e', 'f', 'h', 'i', 'j', 'l', 'm', 'n', 'o', 'p', 's', 't', 'u', 'v', 'x', 'y', 'z'}
use Rattle.binfarce_text.specs.Characters.{is_scalar}
use Rattle.binfarce_text.specs.Steps.{◌>>=◌}
use Rattle.binfarce_v0_grammar.specs.Base62.{digit_62, base_62_number, optional_base_62_number, back_reference, hex_digits, hex_number}
use Rattle.binfarce_v0_grammar.specs.Identifiers.{is_empty, UndisambiguatedIdentifier, undisambiguated_identifier, Identifier, identifier, past}

-- a position has this byte
abbrev pub has_byte : (part : List ℕ) (byte : ℕ) (at : Option ℕ) → Bool
has_byte part byte None = false
has_byte part byte (Some at) = slice_index part at == byte

-- the position after a byte
abbrev pub after_byte : (at : Option ℕ) → Option ℕ
after_byte None = None
after_byte (Some at) = Some (at + 1)

-- the identifier at a position, if there is a position
abbrev pub identifier_at : (part : List ℕ) (at : Option ℕ) → Option (Identifier × ℕ)
identifier_at part at = at >>= identifier part

abbrev pub undisambiguated_at : (part : List ℕ) (at : Option ℕ) → Option (UndisambiguatedIdentifier × ℕ)
undisambiguated_at part at = at >>= undisambiguated_identifier part

-- <path>, with <impl-path> = [<disambiguator>] <path>
pub data PathForm : Type 0 where
  -- none of the forms, or one whose number, name or namespace is invalid
  NoPathForm : PathForm
  -- "C" <identifier>
  CrateRoot : (root : Identifier) (after : ℕ) → PathForm
  -- "N" <namespace> <path> <identifier>
  NestedIn : (namespace after : ℕ) → PathForm
  -- "M" <impl-path> <type>
  InherentImpl : (after : ℕ) → PathForm
  -- "X" <impl-path> <type> <path>
  TraitImpl : (after : ℕ) → PathForm
  -- "Y" <type> <path>
  TraitDefinition : (after : ℕ) → PathForm
  -- "I" <path> {<generic-arg>} "E"
  WithArguments : (after : ℕ) → PathForm
  -- <backref>
  BackToPath : (target after : ℕ) → PathForm

-- <namespace> = <a-zA-Z>
abbrev pub nested_form : (namespace after : ℕ) → PathForm
nested_form namespace after = if is_ascii_alphabetic namespace then NestedIn namespace after else NoPathForm

unfoldable pub path_form : (part : List ℕ) (at : Option ℕ) → PathForm
path_form part None = NoPathForm
path_form part (Some at) =
    let tag = slice_index part at in
    if tag == 'C' then option_map_or (λ i. CrateRoot i.0 i.1) (identifier part (at + 1)) NoPathForm else (
    if tag == 'N' then nested_form (slice_index part (at + 1)) (at + 2) else (
    if tag == 'M' then option_map_or (λ d. InherentImpl d.1) (optional_base_62_number part 's' (at + 1)) NoPathForm else (
    if tag == 'X' then option_map_or (λ d. TraitImpl d.1) (optional_base_62_number part 's' (at + 1)) NoPathForm else (
    if tag == 'Y' then TraitDefinition (at + 1) else (
    if tag == 'I' then WithArguments (at + 1) else (
    if tag == 'B' then option_map_or (λ b. BackToPath b.0 b.1) (back_reference part at) NoPathForm else NoPathForm))))))

-- an optional lifetime
pub data Lifetime : Type 0 where
  -- no "L"
  NoLifetime : Lifetime
  -- an "L" whose number is invalid
  InvalidLifetime : Lifetime
  -- <lifetime> = "L" <base-62-number>
  IndexedLifetime : (index : ℕ) → Lifetime

-- [<lifetime>]: the lifetime, and the position after it
unfoldable pub lifetime : (part : List ℕ) (at : Option ℕ) → Lifetime × Option ℕ
lifetime part None = (NoLifetime, None)
lifetime part (Some at) =
    if slice_index part at == 'L'
    then option_map_or (λ n. (IndexedLifetime n.0, Some n.1)) (base_62_number part (at + 1)) (InvalidLifetime, None)
    else (NoLifetime, Some at)

-- <basic-type>
unfoldable pub basic_type : (letter : ℕ) → Option (List ℕ)
basic_type c =
    if c == 'b' then Some (codes "bool") else (
    if c == 'c' then Some (codes "char") else (
    if c == 'e' then Some (codes "str") else (
    if c == 'u' then Some (codes "()") else (
    if c == 'a' then Some (codes "i8") else (
    if c == 's' then Some (codes "i16") else (
    if c == 'l' then Some (codes "i32") else (
    if c == 'x' then Some (codes "i64") else (
    if c == 'n' then Some (codes "i128") else (
    if c == 'i' then Some (codes "isize") else (
    if c == 'h' then Some (codes "u8") else (
    if c == 't' then Some (codes "u16") else (
    if c == 'm' then Some (codes "u32") else (
    if c == 'y' then Some (codes "u64") else (
    if c == 'o' then Some (codes "u128") else (
    if c == 'j' then Some (codes "usize") else (
    if c == 'f' then Some (codes "f32") else (
    if c == 'd' then Some (codes "f64") else (
    if c == 'z' then Some (codes "!") else (
    if c == 'p' then Some (codes "_") else (
    if c == 'v' then Some (codes "...") else None))))))))))))))))))))

-- the front of a function type, "F" <fn-sig> with <fn-sig> = [<binder>] ["U"] ["K" <abi>] {<type>} "E" <type>, up to its types
pub record Signature : Type 0 where
  pub binder : ℕ
  pub is_unsafe : Bool
  pub abi : Option (List ℕ)

-- <type>
pub data TypeForm : Type 0 where
  -- no byte, or a form whose binder or back reference is invalid
  NoTypeForm : TypeForm
  -- <basic-type>, by its name
  BasicType : (name : List ℕ) (after : ℕ) → TypeForm
  -- "R" [<lifetime>] <type>, and "Q" [<lifetime>] <type> for a mutable one
  ReferenceTo : (mutable : Bool) (life : Lifetime) (after : ℕ) → TypeForm
  -- the same with an "L" whose number is invalid
  InvalidReference : TypeForm
  -- "P" <type>, and "O" <type> for a mutable one
  PointerTo : (mutable : Bool) (after : ℕ) → TypeForm
  -- "S" <type>
  SliceOf : (after : ℕ) → TypeForm
  -- "A" <type> <const>
  ArrayOf : (after : ℕ) → TypeForm
  -- "T" {<type>} "E"
  TupleOf : (after : ℕ) → TypeForm
  -- "F" <fn-sig>
  FunctionOf : (signature : Signature) (after : ℕ) → TypeForm
  -- the same with an <abi> that is invalid
  InvalidAbi : (binder : ℕ) → TypeForm
  -- "D" <dyn-bounds> <lifetime>, with <dyn-bounds> = [<binder>] {<dyn-trait>} "E" and <dyn-trait> = <path> {"p" <undisambiguated-identifier> <type>}
  DynOf : (binder after : ℕ) → TypeForm
  -- the same with a binder that is invalid
  InvalidDyn : TypeForm
  -- <backref>
  BackToType : (target after : ℕ) → TypeForm
  -- another byte: <path>
  PathType : TypeForm

-- "R" [<lifetime>] and "Q" [<lifetime>], from the lifetime on
abbrev pub reference_form : (mutable : Bool) (life : Lifetime × Option ℕ) → TypeForm
reference_form mutable life = option_map_or (ReferenceTo mutable life.0) life.1 InvalidReference

-- ["K" <abi>], with <abi> = "C" | <undisambiguated-identifier>: an identifier has an ASCII part, and no Punycode part
unfoldable pub abi : (part : List ℕ) (at : ℕ) → Option (Option (List ℕ) × ℕ)
abi part at =
    let named : UndisambiguatedIdentifier × ℕ → Option (Option (List ℕ) × ℕ) = λ i. if not (is_empty i.0.ascii) && is_empty i.0.punycode then Some (Some i.0.ascii, i.1) else None in
    if slice_index part at == 'K' then (if slice_index part (at + 1) == 'C' then Some (Some (codes "C"), at + 2) else (undisambiguated_identifier part (at + 1) >>= named)) else Some (None, at)

-- "F" [<binder>] ["U"] ["K" <abi>], from the "U" on
abbrev pub function_form : (part : List ℕ) (binder : Option (ℕ × ℕ)) → TypeForm
function_form part None = NoTypeForm
function_form part (Some b) =
    let is_unsafe = slice_index part b.1 == 'U' in
    option_map_or (λ a. FunctionOf (record { binder = b.0; is_unsafe = is_unsafe; abi = a.0 }) a.1) (abi part (past part 'U' b.1)) (InvalidAbi b.0)

-- a type that isn't a basic type, by its letter
unfoldable pub type_form_by : (part : List ℕ) (at tag : ℕ) → TypeForm
type_form_by part at tag =
    if tag == 'R' then reference_form false (lifetime part (Some (at + 1))) else (
    if tag == 'Q' then reference_form true (lifetime part (Some (at + 1))) else (
    if tag == 'P' then PointerTo false (at + 1) else (
    if tag == 'O' then PointerTo true (at + 1) else (
    if tag == 'S' then SliceOf (at + 1) else (
    if tag == 'A' then ArrayOf (at + 1) else (
    if tag == 'T' then TupleOf (at + 1) else (
    if tag == 'F' then function_form part (optional_base_62_number part 'G' (at + 1)) else (
    if tag == 'D' then option_map_or (λ b. DynOf b.0 b.1) (optional_base_62_number part 'G' (at + 1)) InvalidDyn else (
    if tag == 'B' then option_map_or (λ b. BackToType b.0 b.1) (back_reference part at) NoTypeForm else PathType)))))))))

unfoldable pub type_form : (part : List ℕ) (at : Option ℕ) → TypeForm
type_form part None = NoTypeForm
type_form part (Some at) =
    let tag = slice_index part at in
    if nat_lt at (length part) then option_map_or (λ name. BasicType name (at + 1)) (basic_type tag) (type_form_by part at tag) else NoTypeForm

-- the value of a const
pub data ConstValue : Type 0 where
  -- an integer: whether it has a sign, and its hexadecimal digits
  Integer : (negative : Bool) (digits : List ℕ) → ConstValue
  Boolean : (value : Bool) → ConstValue
  -- a char, by its code point
  Character : (code_point : ℕ) → ConstValue

-- <const>
pub data ConstForm : Type 0 where
  -- another type, or a back reference that is invalid
  NoConstForm : ConstForm
  -- "p"
  UntypedPlaceholderConst : (after : ℕ) → ConstForm
  -- <type> "p"
  PlaceholderConst : (type_name : List ℕ) (after : ℕ) → ConstForm
  -- <type> <const-data>
  ValueConst : (type_name : List ℕ) (value : ConstValue) (after : ℕ) → ConstForm
  -- the same with a value that is invalid
  InvalidConst : (negative : Bool) (type_name : List ℕ) → ConstForm
  -- <backref>
  BackToConst : (target after : ℕ) → ConstForm

-- the types of unsigned integers, and of signed ones
abbrev pub is_unsigned : (letter : ℕ) → Bool
is_unsigned c = c == 'h' || (c == 't' || (c == 'm' || (c == 'y' || (c == 'o' || c == 'j'))))

abbrev pub is_signed : (letter : ℕ) → Bool
is_signed c = c == 'a' || (c == 's' || (c == 'l' || (c == 'x' || (c == 'n' || c == 'i'))))

-- the types of consts: integers, bool and char
unfoldable pub const_type : (letter : ℕ) → Option (List ℕ)
const_type c = if is_unsigned c || (is_signed c || (c == 'b' || c == 'c')) then basic_type c else None

-- "n" is the sign of a signed integer
unfoldable pub has_sign : (part : List ℕ) (letter at : ℕ) → Bool
has_sign part letter at = is_signed letter && slice_index part at == 'n'

-- 0 is false, and 1 is true
abbrev pub boolean_of : (n : ℕ) → Option ConstValue
boolean_of n = if n == 0 then Some (Boolean false) else (if n == 1 then Some (Boolean true) else None)

-- a char is a Unicode scalar value
abbrev pub character_of : (n : ℕ) → Option ConstValue
character_of n = if is_scalar n then Some (Character n) else None

-- hexadecimal digits as a value of a type
unfoldable pub value_of : (letter : ℕ) (negative : Bool) (digits : List ℕ) → Option ConstValue
value_of letter negative digits =
    if letter == 'b' then (hex_number digits >>= boolean_of) else (
    if letter == 'c' then (hex_number digits >>= character_of) else Some (Integer negative digits))

-- <const-data> = ["n"] {<0-9a-f>} "_"
unfoldable pub const_value : (part : List ℕ) (letter : ℕ) (negative : Bool) (at : ℕ) → Option (ConstValue × ℕ)
const_value part letter negative at =
    hex_digits part (if negative then at + 1 else at) >>= λ d. (value_of letter negative d.0 >>= λ v. Some (v, d.1))

-- <type> "p" and <type> <const-data>, after the type's letter
abbrev pub typed_form : (part : List ℕ) (letter at : ℕ) (type_name : Option (List ℕ)) → ConstForm
typed_form part letter at None = NoConstForm
typed_form part letter at (Some type_name) =
    let negative = has_sign part letter at in
    let value = option_map_or (λ v. ValueConst type_name v.0 v.1) (const_value part letter negative at) (InvalidConst negative type_name) in
    if slice_index part at == 'p' then PlaceholderConst type_name (at + 1) else value

unfoldable pub const_form : (part : List ℕ) (at : Option ℕ) → ConstForm
const_form part None = NoConstForm
const_form part (Some at) =
    let tag = slice_index part at in
    if tag == 'B' then option_map_or (λ b. BackToConst b.0 b.1) (back_reference part at) NoConstForm else (
    if tag == 'p' then UntypedPlaceholderConst (at + 1) else typed_form part tag (at + 1) (const_type tag))

-- the fronts of a nested path, of `&'a u8` under a binder, and of the const -128 of the type i8
worked_path : path_form (codes "NvC1a1b") (Some 0) ≡ NestedIn 'v' 2
unfolding path_form
worked_path = refl

worked_type : type_form (codes "RL0_h") (Some 0) ≡ ReferenceTo false (IndexedLifetime 1) 4
unfolding type_form type_form_by basic_type lifetime base_62_number digit_62
worked_type = refl

worked_const : const_form (codes "an80_") (Some 0) ≡ ValueConst (codes "i8") (Integer true (codes "80")) 5
unfolding const_form const_type basic_type has_sign const_value hex_digits value_of
worked_const = refl
