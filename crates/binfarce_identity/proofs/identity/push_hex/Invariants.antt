use Rattle.std.proofs.Common.{◌≡◌, ◌++◌, take}
use Rattle.std.specs.List.{flat_map}
use Rattle.std.specs.String.{string_bytes}
use Rattle.binfarce_identity.specs.Texts.{byte_digits}
use Rattle.binfarce_identity.proofs.identity.push_hex.Given as goal

-- the bytes so far
abbrev pub invariant-loop-byte : goal.invariant-loop-byte
invariant-loop-byte l = string_bytes l.text ≡ string_bytes l.initial.text ++ flat_map (byte_digits l.is_upper) (take l.byte-index l.bytes)
