-- The bytes of a source, and the parts that it was asked for.
use Rattle.binfarce_bytes.specs.Part.{Part, PartSet, HasAll}
use Rattle.std.specs.Prelude.{◌≡◌, ◌⊎◌, ◌+◌, ◌<◌, ◌≤◌, ℕ, Bool, true, List, take, drop, length, Option, IfSome}

-- the bytes from an offset on, as many as size; fewer where the source ends
abbrev pub bytes_at : List ℕ → ℕ → ℕ → List ℕ
bytes_at bytes offset size = take size (drop offset bytes)

-- part is what the source holds from the offset on, up to its end or to before, where its bytes are known
abbrev pub IsPart : Option (List ℕ) → ℕ → List ℕ → Type 0
IsPart known offset part = IfSome known (λ bytes. (offset + length part ≤ length bytes) × (part ≡ bytes_at bytes offset (length part)))

-- a read of size bytes from the offset on may fail: the source may fail, or it ends before, where its bytes are known
abbrev pub MayMiss : Bool → Option (List ℕ) → ℕ → ℕ → Type 0
MayMiss may_fail known offset size = (may_fail ≡ true) ⊎ IfSome known (λ bytes. length bytes < offset + size)

-- a log of the parts that a source was asked for: its answer to the question whether a set has all of them
abbrev pub PartLog : Type 0
PartLog = PartSet → Bool

-- the set has all parts of the log
abbrev pub HasLog : PartSet → PartLog → Type 0
HasLog set log = log set ≡ true

-- from the log before to the log after, a source was asked for nothing but these parts: a set that has these parts and all parts of the log before has all
-- parts of the log after
abbrev pub AskedFor : PartLog → PartLog → List Part → Type 0
AskedFor before after parts = (set : PartSet) → HasAll set parts → HasLog set before → HasLog set after

-- a reading asked a source for nothing but these parts; and if the source surely gives each of them, the reading didn't fail because of the source
pub record ReadsOnly (sure : PartSet) (before after : PartLog) (parts : List Part) (readable : Type 0) : Type 0 where
  pub asked : AskedFor before after parts
  pub given : HasAll sure parts → readable
