-- How much memory is kept from one name for the next.
use Rattle.std.specs.Prelude.{ℕ, ◌+◌, ◌*◌, Option, Some, None, vec_capacity, string_capacity}
use Rattle.binfarce_v0_state.specs.declared.fragments.Fragments as fragments
use Rattle.binfarce_v0_state.specs.declared.memory.Memory as memory
use Rattle.binfarce_v0_state.specs.declared.state.Buffers as buffers

-- the bytes that the fragments of a printing have room for: 176 for each fragment with its entry in the index, 8 for each word of targets
abbrev pub fragments_bytes : fragments.Fragments → ℕ
fragments_bytes f = vec_capacity f.fragments * 176 + vec_capacity f.targets.far * 8 + string_capacity f.copy

-- the bytes that the buffers of a printing have room for
abbrev pub buffers_bytes : buffers.Buffers → ℕ
buffers_bytes b = fragments_bytes b.kept + string_capacity b.complete + string_capacity b.trimmed + string_capacity b.text

-- the bytes that the kept buffers have room for
abbrev pub kept_bytes : memory.Memory → ℕ
kept_bytes m = held m.buffers where
  held : Option buffers.Buffers → ℕ
  held None = 0
  held (Some b) = buffers_bytes b
