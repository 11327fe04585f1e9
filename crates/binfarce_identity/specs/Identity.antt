-- The identity of a file: what says from which build it is.
use Rattle.std.specs.Prelude.{ℕ, List, Option, Result}
use Rattle.binfarce_bytes.specs.Refusal.{Refusal}
use Rattle.binfarce_identity.specs.declared.identity.Identity as code
use Rattle.binfarce_identity.specs.declared.identity.Kind.{Kind}

-- its kind, and its bytes as the file has them
pub record Identity : Type 0 where
  pub kind : Kind
  pub bytes : List ℕ

abbrev pub identity : Kind → List ℕ → Identity
identity kind bytes = record { kind = kind; bytes = bytes }

-- an `Identity`
abbrev pub identity_view : code.Identity → Identity
identity_view i = identity i.kind i.bytes.items

-- a file's identity, if it has one, or why the file is refused
abbrev pub Answer : Type 0
Answer = Result (Option Identity) Refusal
