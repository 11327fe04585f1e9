-- The first bytes of a Mach-O file that hold its load commands, what clauses see of its symbol table's command, and where the file is loaded.
use Rattle.std.specs.Prelude.{ℕ, zero, suc, ◌+◌, Bool, true, false, ◌&&◌, List, length, codes, Option, Some, None, Result, Ok, nat_eq, nat_lt, nat_le, if◌then◌else◌}
use Rattle.std.specs.Option.{option_map}
use Rattle.std.specs.Str.{bytes_eq}
use Rattle.binfarce_bytes.specs.Field.{field, number_in}
use Rattle.binfarce_bytes.specs.Refusal.{◌>>=◌, Refusal, if_as_long_as}
use Rattle.binfarce_bytes.specs.Walk.{first}
use Rattle.binfarce_macho.specs.declared.symbols.SymtabCommand as raw
use Rattle.binfarce_macho.specs.Macho.{Command, header_of, header_length, least_length, command_length, command_at, commands, body_of, is_segment, name_in, section_count, section_offset}
use Rattle.binfarce_macho.specs.MachoSymbols.{SymtabCommand, symbol_table_length}

-- what is read of a command's body lies in these bytes: the section structures of a segment command, the four numbers of a symbol table's
abbrev pub holds_body : List ℕ → Command → Bool
holds_body bytes command =
    if is_segment command then nat_le (section_offset (body_of command) (section_count bytes (body_of command))) (length bytes)
    else if nat_eq command.kind 2 then nat_le (body_of command + symbol_table_length) (length bytes)
    else true

-- so do at most n commands from an offset on, with these fields, up to one that is refused for its size
unfoldable pub holds_from : List ℕ → ℕ → ℕ → Bool
holds_from bytes zero offset = true
holds_from bytes (suc n) offset =
    if nat_lt (length bytes) (offset + command_length) then false
    else if nat_lt (command_at bytes offset).size command_length then true
    else holds_body bytes (command_at bytes offset) && holds_from bytes n (offset + (command_at bytes offset).size)

-- so do all commands of the header
abbrev pub holds_commands : List ℕ → Bool
holds_commands bytes = holds_from bytes (header_of bytes).ncmds header_length

-- a `SymtabCommand`
abbrev pub table_view : raw.SymtabCommand → SymtabCommand ℕ
table_view t = record { symbol_offset = t.symbol_offset; row_count = t.row_count; strings_offset = t.strings_offset; strings_size = t.strings_size }

-- segment_command_64, in its body: its name, and its address in memory (vmaddr), which end at 24
abbrev pub segment_name : List ℕ → ℕ → Option (List ℕ)
segment_name file body = name_in file body (field 0 16)

abbrev pub segment_address : List ℕ → ℕ → ℕ
segment_address file body = number_in file body (field 16 8)

abbrev pub is_text_name : Option (List ℕ) → Bool
is_text_name None = false
is_text_name (Some name) = bytes_eq name (codes "__TEXT")

-- a segment named `__TEXT`, whose name and address lie in the file
abbrev pub is_text_segment : List ℕ → Command → Bool
is_text_segment file command = is_segment command && (nat_le (body_of command + 24) (length file) && is_text_name (segment_name file (body_of command)))

-- where a program or a library is loaded unless the loader slides it: at the address of its first segment `__TEXT`, which begins with the file's header. None
-- without one, as in an object, whose one segment has no name. A bad command before it is refused
unfoldable pub load_address : List ℕ → Result (Option ℕ) Refusal
load_address file = first (is_text_segment file) (commands file) >>= λ found. Ok (option_map (λ command. segment_address file (body_of command)) found)

-- that of a file that has a header
abbrev pub file_load_address : List ℕ → Result (Option ℕ) Refusal
file_load_address file = if_as_long_as least_length file (load_address file)
