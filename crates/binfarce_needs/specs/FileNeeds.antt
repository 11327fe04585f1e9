-- What a file of any format needs, and what is read of it.
use Rattle.std.specs.Prelude.{ℕ, List, Result, Ok}
use Rattle.std.specs.Option.{option_map}
use Rattle.binfarce_bytes.specs.declared.ByteOrder.{ByteOrder}
use Rattle.binfarce_bytes.specs.Refusal.{◌>>=◌, Refusal}
use Rattle.binfarce_elf.specs.Classes.{class_of}
use Rattle.binfarce_elf.specs.declared.class.Width.{Width}
use Rattle.binfarce_tables.specs.Readings.{answer_of}
use Rattle.binfarce_needs.specs.Needs.{Need, NeedTables, needs_of}
use Rattle.binfarce_needs.specs.NeedsReading.{needs_reading}
use Rattle.binfarce_needs.specs.declared.needs.Need as code
use Rattle.binfarce_needs.specs.declared.reading.Tables.{Tables}

-- a `Tables`
abbrev pub tables_view : Tables → NeedTables
tables_view t = record { rows = t.rows.items; strings = t.strings.items; versions = t.versions.items; needed = t.needed.items }

-- a `Need`
abbrev pub need_view : code.Need → Need
need_view n = record { name = n.name.now; info = n.info; version = option_map (λ t. t.now) n.version; from = option_map (λ t. t.now) n.from }

-- the symbols that an ELF file of this class needs, or why it is refused
abbrev pub file_needs : Width → ByteOrder → (file : List ℕ) → Result (List Need) Refusal
file_needs width order file = answer_of file (needs_reading width order) >>= λ tables. Ok (needs_of (class_of width) order tables)
