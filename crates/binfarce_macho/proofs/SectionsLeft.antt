-- The sections that an iterator has left: those of a segment, and after them those of the commands.
use Rattle.std.proofs.Common.{◌≡◌, ℕ, suc, ◌+◌, ◌-◌, ◌<◌, ◌≤◌, List, length, Some, None, Result, Ok, Err, MatchResult, refl, sym, ap, subst, ◌∙◌, arith}
use Rattle.std.proofs.lemmas.Bool.{le-leb, lt-leb, le-ltb}
use Rattle.binfarce_bytes.specs.Refusal.{Refusal, unexpected_eof}
use Rattle.binfarce_bytes.specs.Walk.{Walk, ended, ahead_of, and_then}
use Rattle.binfarce_bytes.specs.Field.{field, number_in}
use Rattle.binfarce_macho.specs.Macho.{Command, Section, section_at, section_offset, whole_headers, segment, commands_from}
use Rattle.binfarce_macho.specs.declared.commands.Damage.{Damage}
use Rattle.binfarce_macho.specs.declared.sections.Segment.{Segment}
use Rattle.binfarce_macho.specs.machine.RawMacho.{damage_refusal, section_count, segment_from, sections_from, StepsSegment}
use Rattle.binfarce_macho.proofs.Walks.{sections_left, no_left}
use Rattle.binfarce_macho.proofs.CommandWalks.{none_left}

-- structure k has the section that comes next
pub next_is : (file : List ℕ) (s : Segment) (k : ℕ) (section : Section) → s.next ≡ k → k < section_count file s → section_at file (section_offset s.body k) ≡ Some section
    → segment_from file s ≡ ahead_of section (segment_from file (record s { next = k + 1 }))
next_is file s k section at lt e =
    let one : section_count file s - s.next ≡ suc (section_count file s - (k + 1)) = omega arith in
    rw (one, at, e) refl

-- structure k has none, since a name isn't valid
pub passed : (file : List ℕ) (s : Segment) (k : ℕ) → s.next ≡ k → k < section_count file s → section_at file (section_offset s.body k) ≡ None
    → segment_from file s ≡ segment_from file (record s { next = k + 1 })
passed file s k at lt e =
    let one : section_count file s - s.next ≡ suc (section_count file s - (k + 1)) = omega arith in
    rw (one, at, e) refl

-- no structure is left
pub end_is : (file : List ℕ) (s : Segment) → s.count ≤ s.next → s.next ≤ section_count file s → segment_from file s ≡ ended None
end_is file s le within =
    let none : section_count file s - s.next ≡ 0 = omega arith in
    rw (none, le-leb s.count (whole_headers file s.body) (omega arith)) refl

-- the next structure is truncated
pub truncated_is : (file : List ℕ) (s : Segment) → s.next < s.count → whole_headers file s.body ≤ s.next → segment_from file s ≡ ended (Some unexpected_eof)
truncated_is file s lt truncated =
    let none : section_count file s - s.next ≡ 0 = omega arith in
    rw (none, lt-leb s.count (whole_headers file s.body) (omega arith)) refl

-- a segment of which nothing was given yet
pub all_left : (file : List ℕ) (s : Segment) → s.next ≡ 0 → s.body + 60 ≤ length file → s.count ≡ number_in file s.body (field 56 4) → segment_from file s ≡ segment file s.body
unfolding segment
all_left file s at whole is =
    let all : section_count file s - s.next ≡ section_count file s = omega arith in
    rw (le-ltb (length file) (s.body + 60) whole, all, at, is) refl

go_on : Walk Section → Walk Section → Walk Section
go_on after w = and_then w.items w.refusal after

pub goes_on : (file : List ℕ) (s : Segment) (left : Walk Command) → segment_from file s ≡ ended None → sections_from file s left ≡ sections_left file left
unfolding go_on
goes_on file s left e = ap (go_on (sections_left file left)) e

pub refuses : (file : List ℕ) (s : Segment) (left : Walk Command) (why : Refusal) → segment_from file s ≡ ended (Some why) → sections_from file s left ≡ ended (Some why)
unfolding go_on
refuses file s left why e = ap (go_on (sections_left file left)) e

-- nothing is left where no commands are, and no segment is begun
pub nothing_left : (file : List ℕ) (offset : ℕ) → sections_from file (record { body = 0; count = 0; next = 0 }) (commands_from file 0 offset) ≡ ended None
nothing_left file offset =
    let none : Segment = record { body = 0; count = 0; next = 0 } in
    goes_on file none (commands_from file 0 offset) (end_is file none (omega arith) (omega arith))
    ∙ ap (sections_left file) (none_left file 0 offset refl)
    ∙ no_left file None

-- what the segment of a command is, is what is left
pub steps_segment : (file bytes : List ℕ) (commands : Walk Command) (command : Command) (left : Walk Command) (result : Result Segment Damage) → bytes ≡ file → command.offset + 8 ≤ length file
    → sections_left file commands ≡ and_then (segment file (command.offset + 8)).items (segment file (command.offset + 8)).refusal (sections_left file left)
    → MatchResult result (λ s. (s.body ≡ command.offset + 8) × (s.next ≡ 0) × (segment_from bytes s ≡ segment bytes (command.offset + 8))) (λ d. segment bytes (command.offset + 8) ≡ ended (Some (damage_refusal d)))
    → StepsSegment file commands (Some result) left
unfolding go_on
steps_segment file bytes commands command left (Ok s) same head e is =
    let here : segment_from file s ≡ segment file (command.offset + 8) = subst (λ (f : List ℕ). segment_from f s ≡ segment f (command.offset + 8)) same is.2 in
    (omega (arith, is.0), is.1, e ∙ sym (ap (go_on (sections_left file left)) here))
steps_segment file bytes commands command left (Err damage) same head e is =
    let here : segment file (command.offset + 8) ≡ ended (Some (damage_refusal damage)) = subst (λ (f : List ℕ). segment f (command.offset + 8) ≡ ended (Some (damage_refusal damage))) same is in
    e ∙ ap (go_on (sections_left file left)) here
