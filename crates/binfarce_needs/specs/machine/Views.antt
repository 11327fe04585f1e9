-- What private clauses see of the types of the reading, and of the offsets of names.
use Rattle.std.specs.Prelude.{◌≡◌, ℕ, ◌<◌, List, Option}
use Rattle.std.specs.BTreeMap.{get}
use Rattle.std.specs.Option.{option_map, option_or}
use Rattle.std.specs.Ordering.{nat_cmp}
use Rattle.binfarce_elf.specs.ElfViews.{section_view, table_sections_view}
use Rattle.binfarce_needs.specs.NeededVersions as needed
use Rattle.binfarce_needs.specs.NeededVersions.{Version, of_index}
use Rattle.binfarce_needs.specs.Needs as needs
use Rattle.binfarce_needs.specs.declared.reading.NeedSections.{NeedSections}
use Rattle.binfarce_needs.specs.declared.versions.FileEntry.{FileEntry}
use Rattle.binfarce_needs.specs.declared.versions.Offsets.{Offsets}
use Rattle.binfarce_needs.specs.declared.versions.VersionEntry.{VersionEntry}

-- a `NeedSections`
abbrev pub sections_view : NeedSections → needs.NeedSections
sections_view s = record { table = table_sections_view s.table; versions = option_map (section_view (λ n. n)) s.versions; needed = option_map (section_view (λ n. n)) s.needed }

-- a `FileEntry`
abbrev pub file_view : FileEntry → needed.FileEntry
file_view f = record { count = f.count; name = f.name; versions = f.versions; next = f.next }

-- a `VersionEntry`
abbrev pub version_view : VersionEntry → needed.VersionEntry
version_view v = record { index = v.index; name = v.name; next = v.next }

-- what is found at an index, or if nothing is in the versions that are left, is what is in all
abbrev pub AreFound : (found : ℕ → Option ℕ) → (part : Version → ℕ) → (left all : List Version) → Type 0
AreFound found part left all = (index : ℕ) → index < 32768 → option_or (found index) (of_index part left index) ≡ of_index part all index

-- so of the offsets of names, and of those of files
pub record Found (offsets : Offsets) (left all : List Version) : Type 0 where
  pub names : AreFound (get nat_cmp offsets.names) (λ v. v.name) left all
  pub files : AreFound (get nat_cmp offsets.files) (λ v. v.file) left all
