-- The build ID among notes (System V gABI, "Note Section"; the GNU ABI's NT_GNU_BUILD_ID).
use Rattle.std.specs.Prelude.{ℕ, zero, suc, ◌+◌, ◌-◌, ◌*◌, ◌/◌, Bool, ◌&&◌, List, [], ◌∷◌, length, Option, Some, None, Result, Ok, Err, nat_eq, nat_lt, if◌then◌else◌}
use Rattle.std.specs.Str.{bytes_eq}
use Rattle.binfarce_bytes.specs.declared.ByteOrder.{ByteOrder}
use Rattle.binfarce_bytes.specs.Field.{Field, field, value_at}
use Rattle.binfarce_bytes.specs.Number.{bytes_at}
use Rattle.binfarce_bytes.specs.Refusal.{Refusal, malformed_input}

-- a note begins with three words of 4 bytes in both classes: how many bytes its name has, how many its descriptor, and its type
pub record Head (A : Type 0) : Type 0 where
  pub namesz : A
  pub descsz : A
  pub kind : A

abbrev pub head_fields : Head Field
head_fields = record { namesz = field 0 4; descsz = field 4 4; kind = field 8 4 }

abbrev pub head_length : ℕ
head_length = 12

-- the head of the note that begins at start
abbrev pub head_at : ByteOrder → (notes : List ℕ) → (start : ℕ) → Head ℕ
head_at order notes start = record {
  namesz = value_at order notes start head_fields.namesz;
  descsz = value_at order notes start head_fields.descsz;
  kind = value_at order notes start head_fields.kind;
}

-- notes are made of words of 4 bytes, or of 8, if the section or the segment is aligned to 8 bytes
abbrev pub word_of : (align : ℕ) → ℕ
word_of align = if nat_eq align 8 then 8 else 4

-- so many bytes with those that fill the last word
abbrev pub padded : (word n : ℕ) → ℕ
padded word n = (n + (word - 1)) / word * word

-- the descriptor begins with the word behind the name, and the next note with the word behind the descriptor, counted from the note's beginning
abbrev pub descriptor_offset : (word : ℕ) → Head ℕ → ℕ
descriptor_offset word head = padded word (head_length + head.namesz)

abbrev pub descriptor_end : (word : ℕ) → Head ℕ → ℕ
descriptor_end word head = descriptor_offset word head + head.descsz

-- a build ID: a note of the name "GNU", with its NUL, and the type NT_GNU_BUILD_ID (3), with a descriptor of some bytes
abbrev pub gnu : List ℕ
gnu = 71 ∷ 78 ∷ 85 ∷ 0 ∷ []

abbrev pub is_build_id : (notes : List ℕ) → (start : ℕ) → Head ℕ → Bool
is_build_id notes start head =
    nat_eq head.kind 3 && (nat_eq head.namesz 4 && (nat_lt 0 head.descsz && bytes_eq (bytes_at notes (start + head_length) 4) gnu))

-- the first build ID of at most n notes from start on. They end where no further head fits. A note whose descriptor ends past them is malformed
unfoldable pub build_id_from : ByteOrder → (word : ℕ) → (notes : List ℕ) → (n start : ℕ) → Result (Option (List ℕ)) Refusal
build_id_from order word notes zero start = Ok None
build_id_from order word notes (suc n) start =
    let head = head_at order notes start in
    if nat_lt (length notes) (start + head_length) then Ok None
    else if nat_lt (length notes) (start + descriptor_end word head) then Err malformed_input
    else if is_build_id notes start head then Ok (Some (bytes_at notes (start + descriptor_offset word head) head.descsz))
    else build_id_from order word notes n (start + padded word (descriptor_end word head))

-- the first build ID among all of them, of which each has some bytes
abbrev pub build_id : ByteOrder → (align : ℕ) → (notes : List ℕ) → Result (Option (List ℕ)) Refusal
build_id order align notes = build_id_from order (word_of align) notes (length notes) 0
