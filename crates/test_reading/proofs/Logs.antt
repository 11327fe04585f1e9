-- What a log of parts has, where a source was asked for some parts alone.
use Rattle.std.proofs.Common.{◌≡◌, ℕ, Bool, true, false, List, [], ◌∷◌, ◌++◌, ◌&&◌, Option, ap, ap₂, refl, sym, subst}
use Rattle.std.specs.Prelude.{Contains, slice_index_or, nat_eq, if◌then◌else◌}
use Rattle.std.specs.List.{list_any}
use Rattle.std.proofs.lemmas.Bool.{and_parts, eq-eqb, eqb-true}
use Rattle.std.proofs.lemmas.List.Elements.{All-head}
use Rattle.std.proofs.lemmas.List.Folds.{Any-from_list_any, list_any_at, list_all-append}
use Rattle.std.proofs.lemmas.List.Sums.{AllPass-from_list_all}
use Rattle.binfarce_bytes.specs.Part.{Part, PartSet, part, HasAll}
use Rattle.binfarce_bytes.specs.Source.{AskedFor}
use Rattle.binfarce.specs.Format.{format_of}
use Rattle.binfarce.specs.declared.Format.{Format}
use Rattle.binfarce.specs.declared.SymbolTable.{SymbolTable}
use Rattle.binfarce_tools.specs.Parts.{head_part, format_parts, parts_in}
use Rattle.test_reading.specs.Logged.{part_view, log_view, LogsOnly}
use Rattle.test_reading.specs.declared.recording.LoggedPart as code

-- a part was added to a log, or nothing
pub asked_for_one : (added : Bool) (before after : List code.LoggedPart) (p : code.LoggedPart)
    → after ≡ (if added then before ++ p ∷ [] else before) → AskedFor (log_view before) (log_view after) (part_view p ∷ [])
asked_for_one true before after p is set has all =
    rw (is, list_all-append (λ q. set (part_view q)) before (p ∷ []), all, All-head (λ q. set q ≡ true) (part_view p) [] has) refl
asked_for_one false before after p is set has all = rw is all

-- the set of these parts: whether one of them is this part
abbrev same : Part → Part → Bool
same p q = nat_eq p.offset q.offset && nat_eq p.size q.size

abbrev among : List Part → PartSet
among parts p = list_any (same p) parts

has_all : (parts : List Part) → HasAll (among parts) parts
has_all parts k d lt =
    let p = slice_index_or parts k d in
    list_any_at (same p) parts k d lt (rw (eq-eqb p.offset p.offset refl, eq-eqb p.size p.size refl) refl)

is_same : (p q : Part) → same p q ≡ true → q ≡ p
is_same p q e =
    let both = and_parts (nat_eq p.offset q.offset) (nat_eq p.size q.size) e in
    sym (ap₂ part (eqb-true p.offset q.offset both.0) (eqb-true p.size q.size both.1))

is_among : (parts : List Part) (p : Part) → among parts p ≡ true → Contains parts p
is_among parts p e =
    let found = Any-from_list_any (same p) parts e in
    (found.0, found.2, subst (λ (x : Part). slice_index_or parts found.0 x ≡ x) (is_same p found.1 found.4) found.3)

-- a log that was empty before has these parts alone
pub only_these : (parts : List Part) (before log : List code.LoggedPart) → before ≡ [] → AskedFor (log_view before) (log_view log) parts → LogsOnly parts log
only_these parts before log none asked =
    let has_none = ap (λ b. log_view b (among parts)) none in
    let all = AllPass-from_list_all (λ q. among parts (part_view q)) log (asked (among parts) (has_all parts) has_none) in
    λ k d lt. is_among parts (part_view (slice_index_or log k d)) (all k d lt)

-- these are the parts of the file's format
pub in_format : (which : SymbolTable) (file : List ℕ) (format : Format) (log : List code.LoggedPart)
    → format_of file ≡ format → LogsOnly (parts_in which file) log → LogsOnly (head_part file ∷ format_parts which format file) log
in_format which file format log is only = subst (λ (f : Format). LogsOnly (head_part file ∷ format_parts which f file) log) is only
