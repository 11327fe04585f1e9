-- What the function symbols of a file's answer add, each byte counted once.
use Rattle.std.specs.Prelude.{◌≡◌, ℕ, List, Option, Some, None, Ok, Err}
use Rattle.binfarce.specs.SectionEntries.{SectionEntry, SelectedSymbols}
use Rattle.binfarce.specs.declared.SymbolTable.{SymbolTable}
use Rattle.binfarce_tools.specs.Answer.{selected_answer, MemoryIn}
use Rattle.binfarce_tools.specs.ReportWords.{outcome_of}
use Rattle.binfarce_tools.specs.Tables.{section_names}
use Rattle.binfarce_tools.specs.Writing.{EndsAs}
use Rattle.binfarce_tools.specs.declared.report.ReportError.{ReportError}
use Rattle.binfarce_tools.specs.declared.tables.Tables.{Tables}
use Rattle.binfarce_figures.specs.Claims.{AreClaimsOf, SumFits}

-- claims: the tables that they were read from, the size of the selected section, if one is selected, and the function symbols, each with the bytes that it adds as its size
pub record Claimed : Type 0 where
  pub tables : Tables
  pub size : Option ℕ
  pub entries : List SectionEntry

-- claims are those of an answer, whose sum fits; where all sections are selected, the tables have their names
pub record AreClaimsFor (selected : SelectedSymbols) (claims : Claimed) : Type 0 where
  pub fits : SumFits selected
  pub added : AreClaimsOf selected.entries claims.entries
  pub size_is : claims.size ≡ selected.section_size
  pub names_are : selected.section_size ≡ None → section_names claims.tables ≡ selected.section_name

-- so of a file's answer for a selection
abbrev pub AreClaimsIn : SymbolTable → (file : List ℕ) → (section : Option (List ℕ)) → Claimed → Type 0
AreClaimsIn which file section claims = (selected : SelectedSymbols) × (selected_answer which section file ≡ Some (Ok selected)) × AreClaimsFor selected claims

-- an error is why a file's answer for a selection can't be summed
abbrev pub IsFaultOf : SymbolTable → (file : List ℕ) → (section : Option (List ℕ)) → ReportError → Type 0
IsFaultOf which file section e = EndsAs SumFits (MemoryIn file section) (selected_answer which section file) (outcome_of (Err e))
