-- What private clauses see of the types of the readings.
use Rattle.std.specs.Prelude.{ℕ}
use Rattle.binfarce_identity.specs.ElfIdentity as elf
use Rattle.binfarce_identity.specs.Notes.{Head}
use Rattle.binfarce_identity.specs.PeIdentity as pe
use Rattle.binfarce_identity.specs.declared.elf.Form.{Form}
use Rattle.binfarce_identity.specs.declared.elf.Form.TheVariants.{Sections, Segments}
use Rattle.binfarce_identity.specs.declared.elf.NotePlace.{NotePlace}
use Rattle.binfarce_identity.specs.declared.elf.Table.{Table}
use Rattle.binfarce_identity.specs.declared.notes.NoteHead.{NoteHead}
use Rattle.binfarce_identity.specs.declared.pe.Place.{Place}

-- a `NoteHead`
abbrev pub head_view : NoteHead → Head ℕ
head_view h = record { namesz = h.namesz; descsz = h.descsz; kind = h.kind }

-- a `Form`
abbrev pub shape_of : Form → elf.Shape
shape_of (Sections width) = elf.section_shape width
shape_of (Segments width) = elf.program_shape width

-- a `Table`
abbrev pub table_view : Table → elf.Table
table_view t = record { shape = shape_of t.form; offset = t.offset; count = t.count }

-- a `NotePlace`
abbrev pub note_place_view : NotePlace → elf.Place
note_place_view p = record { offset = p.offset; size = p.size; align = p.align }

-- a `Place`
abbrev pub place_view : Place → pe.Place
place_view p = record { at = p.at; size = p.size }
