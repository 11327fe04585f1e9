-- The views of a symbol's name and of a mangling that clauses use: texts as bytes.
use Rattle.std.specs.Prelude.{ℕ, List, Option, Bool, true, false, nat_lt, length, if◌then◌else◌}
use Rattle.std.specs.Option.{option_map}
use Rattle.std.specs.String.{string_bytes}
use Rattle.binfarce_names.specs.declared.demangle.Kind.{Kind}
use Rattle.binfarce_names.specs.declared.demangle.SymbolName.{SymbolName}
use Rattle.binfarce_names.specs.declared.demangle.Demangled.{Demangled}

-- the answer for one name
pub record Name : Type 0 where
  pub complete : List ℕ
  pub trimmed : List ℕ
  pub crate_name : Option (List ℕ)
  pub kind : Kind

-- a `SymbolName`, its texts as bytes
abbrev pub name_view : (s : SymbolName) → Name
name_view s = record { complete = string_bytes s.complete; trimmed = string_bytes s.trimmed; crate_name = option_map string_bytes s.crate_name; kind = s.kind }

-- the complete text of an answer, or the trimmed one
abbrev pub text_of : (full : Bool) (answer : Name) → List ℕ
text_of true answer = answer.complete
text_of false answer = answer.trimmed

-- a text, or another in place of one that has so many bytes or more
abbrev pub short_or : (below : ℕ) (other text : List ℕ) → List ℕ
short_or below other text = if nat_lt (length text) below then text else other

-- the kind of a name, and the part of it that is kept
pub record Mangled : Type 0 where
  pub part : List ℕ
  pub kind : Kind

-- a `Demangled`, its text as bytes
abbrev pub mangled_view : (d : Demangled) → Mangled
mangled_view d = record { part = d.part.now; kind = d.kind }
