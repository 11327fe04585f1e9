-- The texts of the leaves of a v0 mangling: identifiers, lifetimes, binders, namespaces, signatures, and the values of consts.
use Rattle.std.specs.Prelude.{◌≡◌, ℕ, ◌+◌, List, [], ◌++◌, Option, Some, None, Bool, true, false, ◌&&◌, if◌then◌else◌, ◌==◌, nat_le, codes, encode_utf8_all, zero, suc, ◌-◌, ◌∷◌, not, ◌||◌, map}
use Rattle.std.proofs.Common.{refl}
use Rattle.std.specs.Option.{option_map_or}
use Rattle.std.specs.Char.{is_ascii_uppercase}
use Rattle.binfarce_text.specs.Letters.{'_', 'a', 'C', 'S', '-'}
use Rattle.binfarce_v0_grammar.specs.Base62.{hex_number}
use Rattle.binfarce_v0_grammar.specs.Punycode.{digit_of, weight, integer, scaled_bias, adapted_bias, decoder_after, text_of, punycode_decoded}
use Rattle.std.specs.Fmt.{decimal, digits}
use Rattle.std.specs.Int.{is_in_range}
use Rattle.binfarce_v0_grammar.specs.Identifiers.{UndisambiguatedIdentifier, Identifier, is_empty}
use Rattle.binfarce_v0_grammar.specs.Forms.{Lifetime, IndexedLifetime, Signature, ConstValue, Integer, Boolean, Character}
use Rattle.binfarce_v0_grammar.specs.Tree.{is_announced}

-- Identifiers

-- an identifier without a character
abbrev pub is_unnamed : (i : UndisambiguatedIdentifier) → Bool
is_unnamed i = is_empty i.ascii && is_empty i.punycode

-- the text of Punycode that can't be decoded
abbrev pub undecoded : (ascii punycode : List ℕ) → List ℕ
undecoded ascii punycode =
    codes "punycode{" ++ ((if is_empty ascii then [] else ascii ++ codes "-") ++ (punycode ++ codes "}"))

-- the text of an identifier: its ASCII part, or the decoded text of both parts
unfoldable pub identifier_text : (i : UndisambiguatedIdentifier) → List ℕ
identifier_text i =
    if is_empty i.punycode then i.ascii else option_map_or encode_utf8_all (punycode_decoded i.ascii i.punycode) (undecoded i.ascii i.punycode)

-- `bücher`, written in Punycode
worked_text : identifier_text (record { ascii = codes "bcher"; punycode = codes "kva" }) ≡ encode_utf8_all (codes "bücher")
unfolding identifier_text punycode_decoded text_of decoder_after adapted_bias scaled_bias integer weight digit_of
worked_text = refl

-- Lifetimes and binders

-- the lifetime of a number, counted from the outermost binder in: 'a to 'z for 0 to 25, and '_26 and so on after them
abbrev pub numbered_lifetime : (n : ℕ) → List ℕ
numbered_lifetime n = if nat_le 26 n then codes "'_" ++ decimal n else codes "'" ++ ('a' + n) ∷ []

-- the lifetime of an index under a depth of binders: '_ for 0, its number's for one that is announced, and '? for any other
unfoldable pub lifetime_text : (binder_depth index : ℕ) → List ℕ
lifetime_text binder_depth zero = codes "'_"
lifetime_text binder_depth (suc k) = if is_announced binder_depth (suc k) then numbered_lifetime (binder_depth - suc k) else codes "'?"

-- the lifetimes that a binder announces after its first, each shown as index 1 under the depth that it raises
abbrev pub more_announced : (binder_depth n : ℕ) → List ℕ
more_announced binder_depth zero = []
more_announced binder_depth (suc n) = codes ", " ++ (lifetime_text (binder_depth + 1) 1 ++ more_announced (binder_depth + 1) n)

-- a binder of so many lifetimes
unfoldable pub binder_text : (binder_depth n : ℕ) → List ℕ
binder_text binder_depth zero = []
binder_text binder_depth (suc n) =
    codes "for<" ++ (lifetime_text (binder_depth + 1) 1 ++ (more_announced (binder_depth + 1) n ++ codes "> "))

-- the lifetime of a reference. It isn't used for an invalid one: such a reference is an `InvalidReferenceType`
abbrev pub reference_lifetime : (binder_depth : ℕ) (life : Lifetime) → List ℕ
reference_lifetime binder_depth (IndexedLifetime k) = if k == 0 then [] else lifetime_text binder_depth k ++ codes " "
reference_lifetime binder_depth _ = []

-- the lifetime of an argument. There always is one: the "L" makes the argument a lifetime
abbrev pub argument_lifetime : (binder_depth : ℕ) (life : Lifetime) → List ℕ
argument_lifetime binder_depth (IndexedLifetime k) = lifetime_text binder_depth k
argument_lifetime binder_depth _ = codes "?"

-- the lifetime of a dyn type, which is required
abbrev pub dyn_lifetime : (binder_depth : ℕ) (life : Lifetime) → List ℕ
dyn_lifetime binder_depth (IndexedLifetime k) = if k == 0 then [] else codes " + " ++ lifetime_text binder_depth k
dyn_lifetime binder_depth _ = codes "?"

-- a crate's disambiguator in lower-case hexadecimal, in the complete text
abbrev pub disambiguator_text : (full : Bool) (disambiguator : ℕ) → List ℕ
disambiguator_text false disambiguator = []
disambiguator_text true disambiguator = codes "[" ++ (digits 16 false disambiguator ++ codes "]")

-- the name of a special namespace, as "closure"
abbrev pub namespace_text : (namespace : ℕ) → List ℕ
namespace_text namespace =
    if namespace == 'C' then codes "closure" else (if namespace == 'S' then codes "shim" else namespace ∷ [])

-- an identifier after a mark, or nothing if it has no character
abbrev pub after_mark : (mark : List ℕ) (name : UndisambiguatedIdentifier) → List ℕ
after_mark mark name = if is_unnamed name then [] else mark ++ identifier_text name

-- what a nested path adds to its parent: an upper-case namespace is a special one
unfoldable pub nested_text : (namespace : ℕ) (i : Identifier) → List ℕ
nested_text namespace i =
    if is_ascii_uppercase namespace
    then codes "::{" ++ (namespace_text namespace ++ (after_mark (codes ":") i.name ++ (codes "#" ++ (decimal i.disambiguator ++ codes "}"))))
    else after_mark (codes "::") i.name

-- the one text where a flag is set, and else the other
abbrev pub mutable_text : (flag : Bool) (set unset : List ℕ) → List ℕ
mutable_text true set unset = set
mutable_text false set unset = unset

-- the name of an ABI, in which "_" means "-"
abbrev pub abi_text : (abi : Option (List ℕ)) → List ℕ
abi_text None = []
abi_text (Some name) = codes "extern \"" ++ (map (λ c. if c == '_' then '-' else c) name ++ codes "\" ")

-- "unsafe ", the ABI and "fn("
unfoldable pub signature_text : (s : Signature) → List ℕ
signature_text s = mutable_text s.is_unsafe (codes "unsafe ") [] ++ (abi_text s.abi ++ codes "fn(")

-- at most 16 hexadecimal digits are shown in decimal, and more in hexadecimal
unfoldable pub number_text : (hex : List ℕ) → List ℕ
number_text hex = option_map_or decimal (hex_number hex) (codes "0x" ++ hex)

abbrev pub sign_text : (negative : Bool) → List ℕ
sign_text true = codes "-"
sign_text false = []

-- "'" and "\", which can't be in the name of a definition
abbrev pub quote : ℕ
quote = 0x27

abbrev pub backslash : ℕ
backslash = 0x5C

-- printable ASCII is shown unescaped between quotes, except a quote and a backslash
abbrev pub is_unescaped : (c : ℕ) → Bool
is_unescaped c = is_in_range 0x20 0x7E c && not (c == quote || c == backslash)

-- any other character is shown by its number in lower-case hexadecimal
unfoldable pub character_text : (c : ℕ) → List ℕ
character_text c = if is_unescaped c then c ∷ [] else codes "\\u{" ++ (digits 16 false c ++ codes "}")

unfoldable pub value_text : (value : ConstValue) → List ℕ
value_text (Integer negative digits) = sign_text negative ++ number_text digits
value_text (Boolean false) = codes "false"
value_text (Boolean true) = codes "true"
value_text (Character c) = codes "'" ++ (character_text c ++ codes "'")
