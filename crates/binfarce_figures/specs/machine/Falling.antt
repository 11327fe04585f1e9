-- Function symbols, inner ones before outer ones, by what they are sorted by.
use Rattle.std.specs.Prelude.{ℕ, suc, ◌<◌, ◌≤◌, List, length, slice_index_or}
use Rattle.std.specs.declared.cmp.Reverse.{Reverse}
use denote.Ref.{Bor}
use Rattle.binfarce.specs.SectionEntries.{SectionEntry}
use Rattle.binfarce.specs.SymbolViews.{section_function_view}
use Rattle.binfarce_bytes.specs.declared.functions.SectionFunction.{SectionFunction}
use Rattle.binfarce_figures.specs.Claims.{place_of}

abbrev pub inner_key : SectionFunction → Reverse ℕ × ℕ × Bor (List ℕ)
inner_key f = (record { 0 = place_of (section_function_view f) }, f.function.size, f.function.name)

-- no entry begins after the one before it
abbrev pub Falls : List SectionEntry → Type 0
Falls entries = (k : ℕ) (d : SectionEntry) → suc k < length entries → place_of (slice_index_or entries (suc k) d) ≤ place_of (slice_index_or entries k d)
