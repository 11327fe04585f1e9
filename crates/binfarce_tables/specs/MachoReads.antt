-- The parts of a Mach-O file that are read, and no others.
use Rattle.std.specs.Prelude.{ℕ, ◌+◌, ◌*◌, List, [], ◌∷◌, ◌++◌, length, min, Option, Result, Ok, Err, if◌then◌else◌}
use Rattle.binfarce_bytes.specs.Number.{bytes_at}
use Rattle.binfarce_bytes.specs.Part.{Part, part, whole_part, parts_if}
use Rattle.binfarce_bytes.specs.Refusal.{Refusal}
use Rattle.binfarce_macho.specs.Macho.{header_of, header_length, least_length}
use Rattle.binfarce_macho.specs.MachoParts.{holds_commands}
use Rattle.binfarce_macho.specs.MachoSymbols.{SymtabCommand, symbol_length, table_of}

-- where the commands end, as the header states, but within the file
abbrev pub said_end : List ℕ → ℕ
said_end file = min (header_length + (header_of file).sizeofcmds) (length file)

-- the file's bytes up to there; or all, where the commands or their fields extend past it
abbrev pub command_bytes : List ℕ → List ℕ
command_bytes file = if holds_commands (bytes_at file 0 (said_end file)) then bytes_at file 0 (said_end file) else file

-- the whole file, where the commands or their fields extend past the end that the header states
abbrev pub whole_file : List ℕ → List Part
whole_file file = if holds_commands (bytes_at file 0 (said_end file)) then [] else part 0 (length file) ∷ []

-- what a reading of the sections reads: the header of 28 bytes, and the bytes that have the load commands
unfoldable pub macho_section_parts : List ℕ → List Part
macho_section_parts file = part 0 least_length ∷ part 0 (said_end file) ∷ whole_file file

-- the string table and the symbol table, each where it lies in the file
abbrev pub table_parts : List ℕ → SymtabCommand ℕ → List Part
table_parts file table = whole_part file table.strings_offset table.strings_size ++ whole_part file table.symbol_offset (symbol_length * table.row_count)

-- those of a file's symbol table, if it has one
abbrev pub found_parts : List ℕ → Result (Option (SymtabCommand ℕ)) Refusal → List Part
found_parts file (Ok table) = parts_if table (table_parts file)
found_parts file (Err why) = []

-- what a reading of the symbols reads, whichever sections are selected
unfoldable pub macho_parts : List ℕ → List Part
macho_parts file = macho_section_parts file ++ found_parts file (table_of file)
