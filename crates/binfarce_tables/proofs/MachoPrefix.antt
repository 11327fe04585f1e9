-- A prefix of a Mach-O file that has its load commands.
use Rattle.std.proofs.Common.{◌≡◌, ℕ, zero, suc, ◌+◌, ◌-◌, ◌<◌, ◌≤◌, Bool, true, false, cond, ltb, eqb, ◌&&◌, List, [], ◌∷◌, ◌++◌, length, map, drop, take, min, find, codes, Option, Some, None, Result, Ok, Err, refl, sym, ap, ap₂, ◌∙◌, arith}
use Rattle.std.proofs.Math.Nat.{div-mul-le_self}
use Rattle.std.proofs.lemmas.Bool.{and_parts, ltb-false, ltb-true, leb-true, eqb-true, le-ltb, le-leb}
use Rattle.std.proofs.lemmas.List.{length-take-le, take_all}
use Rattle.std.proofs.lemmas.List.Elements.{All-nil, All-head, All-tail, All-same, All-append, All-take}
use Rattle.std.proofs.lemmas.Nat.{le-div}
use Rattle.std.specs.Prelude.{All}
use Rattle.std.specs.Option.{option_map}
use Rattle.binfarce_bytes.specs.declared.ByteOrder.TheVariants.{LittleEndian}
use Rattle.binfarce_bytes.specs.Field.{Field, field, number_in}
use Rattle.binfarce_bytes.specs.Number.{bytes_at, number}
use Rattle.binfarce_bytes.specs.Refusal.{◌>>=◌, Refusal, required, symbols_section_is_missing}
use Rattle.binfarce_bytes.specs.SectionEntries.{unless}
use Rattle.binfarce_bytes.specs.Walk.{Walk, first, found_or_end, ahead_of, and_then}
use Rattle.binfarce_macho.specs.Macho.{Command, Section, header_of, header_fields, header_length, command_at, body_of, commands_from, commands, section_at, section_fields, flags_at, section_offset, section_count, whole_headers, sections_below, segment, is_segment, sections_of, walk, is_named}
use Rattle.binfarce_macho.specs.MachoSections.{NumberedSection, first_starts, starts_in, starts_among, section_starts, has_instructions, extent_at, numbered_at, numbered_sections}
use Rattle.binfarce_macho.specs.MachoSelection.{code_of, sections_in}
use Rattle.binfarce_macho.specs.MachoSymbols.{SymtabCommand, symbol_table_at, symbol_table_fields, Extent, some_size, text_extent, symbol_command, whole_table, named_table, table_of}
use Rattle.binfarce_macho.specs.MachoParts.{holds_body, holds_from, holds_commands, segment_address, is_text_segment, load_address}
use Rattle.binfarce_macho.proofs.AllWalks.{each_start}
use Rattle.binfarce_macho.proofs.CommandWalks.{bad, given}
use Rattle.binfarce_tables.specs.BeginningReading.{Begins, macho_sections}
use Rattle.binfarce_tables.specs.MachoReads.{said_end, command_bytes}
use Rattle.binfarce_tables.proofs.HeadersAlone.{bytes_in}
use Rattle.binfarce_tables.proofs.PeAlone.{filter_map_same}

-- the text among these sections
abbrev text_in : Walk Section → Result Extent Refusal
text_in sections = do
  found ← first (λ section. is_named (codes "__TEXT") (codes "__text") section) sections >>= required symbols_section_is_missing
  text ← some_size found
  Ok (record { address = text.address; size = text.size })

-- what there is, unless it is refused
unless_refused : {A : Type 0} (refusal : Option Refusal) (all given : A) → unless refusal all ≡ Ok given → given ≡ all
unless_refused None all given is = cc
unless_refused (Some why) all given is = absurd cc

-- bytes that a file begins with
module _ (file bytes : List ℕ) (short : length bytes ≤ length file) (same : (k width : ℕ) → k + width ≤ length bytes → bytes_at bytes k width ≡ bytes_at file k width) where
  number_same : (start : ℕ) (f : Field) → start + f.offset + f.width ≤ length bytes → number_in bytes start f ≡ number_in file start f
  number_same start f h = ap (number LittleEndian) (same (start + f.offset) f.width h)

  command_same : (offset : ℕ) → offset + 8 ≤ length bytes → command_at bytes offset ≡ command_at file offset
  command_same offset h = cc (number_same offset (field 0 4) (omega (arith, h)), number_same offset (field 4 4) (omega (arith, h)))

  -- what is read of the bodies of these commands lies in the bytes
  AreHeld : List Command → Type 0
  AreHeld [] = Unit {0}
  AreHeld (command ∷ others) = (holds_body bytes command ≡ true) × AreHeld others

  -- the same commands, which are held
  abbrev Agrees : ℕ → ℕ → Type 0
  Agrees n offset = (commands_from bytes n offset ≡ commands_from file n offset) × AreHeld (commands_from bytes n offset).items

  stepped : (f : List ℕ) (n offset : ℕ) → offset + 8 ≤ length f → 8 ≤ (command_at f offset).size
      → commands_from f (suc n) offset ≡ ahead_of (command_at f offset) (commands_from f n (offset + (command_at f offset).size))
  stepped f n offset whole enough =
      given f (suc n) offset (omega arith) whole enough
      ∙ ap (λ (m : ℕ). ahead_of (command_at f offset) (commands_from f m (offset + (command_at f offset).size))) (less n)
    where
      less : (n : ℕ) → suc n - 1 ≡ n
      less n = omega arith

  -- after a command that is held
  after : (n offset : ℕ) → offset + 8 ≤ length bytes → 8 ≤ (command_at bytes offset).size → holds_body bytes (command_at bytes offset) ≡ true
      → Agrees n (offset + (command_at bytes offset).size) → Agrees (suc n) offset
  unfolding AreHeld
  after n offset whole enough held rest =
      let here = command_same offset whole in
      let size : (command_at bytes offset).size ≡ (command_at file offset).size = ap (λ (c : Command). c.size) here in
      let ours = stepped bytes n offset whole enough in
      let theirs = stepped file n offset (omega (arith, whole, short)) (omega (arith, enough, size)) in (
        ours
            ∙ ap₂ (λ (c : Command) (w : Walk Command). ahead_of c w) here (rest.0 ∙ ap (λ (s : ℕ). commands_from file n (offset + s)) size)
            ∙ sym theirs,
        rw ours (held, rest.1),
      )

  -- up to a command that is refused for its size
  up_to : (n offset : ℕ) → offset + 8 ≤ length bytes → (command_at bytes offset).size < 8 → Agrees (suc n) offset
  unfolding AreHeld
  up_to n offset whole little =
      let size : (command_at bytes offset).size ≡ (command_at file offset).size = ap (λ (c : Command). c.size) (command_same offset whole) in
      let ours = bad bytes (suc n) offset (omega arith) whole little in
      let theirs = bad file (suc n) offset (omega arith) (omega (arith, whole, short)) (omega (arith, little, size)) in
      (ours ∙ sym theirs, rw ours tt)

  commands_held : (n offset : ℕ) → holds_from bytes n offset ≡ true → Agrees n offset
  unfolding holds_from commands_from AreHeld
  commands_held zero offset held = (refl, tt)
  commands_held (suc n) offset held = by_head (ltb (length bytes) (offset + 8)) refl (λ rest. commands_held n (offset + (command_at bytes offset).size) rest) held
    where
      by_size : (b : Bool) → ltb (command_at bytes offset).size 8 ≡ b → offset + 8 ≤ length bytes → (holds_from bytes n (offset + (command_at bytes offset).size) ≡ true → Agrees n (offset + (command_at bytes offset).size))
          → cond b true (holds_body bytes (command_at bytes offset) && holds_from bytes n (offset + (command_at bytes offset).size)) ≡ true → Agrees (suc n) offset
      by_size true is whole again held = up_to n offset whole (ltb-true (command_at bytes offset).size 8 is)
      by_size false is whole again held =
          let held_here = and_parts (holds_body bytes (command_at bytes offset)) (holds_from bytes n (offset + (command_at bytes offset).size)) held in
          after n offset whole (ltb-false (command_at bytes offset).size 8 is) held_here.0 (again held_here.1)

      by_head : (b : Bool) → ltb (length bytes) (offset + 8) ≡ b → (holds_from bytes n (offset + (command_at bytes offset).size) ≡ true → Agrees n (offset + (command_at bytes offset).size))
          → cond b false (cond (ltb (command_at bytes offset).size 8) true (holds_body bytes (command_at bytes offset) && holds_from bytes n (offset + (command_at bytes offset).size))) ≡ true → Agrees (suc n) offset
      by_head true is again held = absurd cc
      by_head false is again held = by_size (ltb (command_at bytes offset).size 8) refl (ltb-false (length bytes) (offset + 8) is) again held

  section_same : (start : ℕ) → start + 80 ≤ length bytes → section_at bytes start ≡ section_at file start
  unfolding section_at section_fields flags_at
  section_same start h = rw (
    same (start + 0) 16 (omega (arith, h)),
    same (start + 16) 16 (omega (arith, h)),
    same (start + 32) 8 (omega (arith, h)),
    same (start + 40) 8 (omega (arith, h)),
    same (start + 48) 4 (omega (arith, h)),
    le-leb (start + 68) (length bytes) (omega (arith, h)),
    le-leb (start + 68) (length file) (omega (arith, h, short)),
    same (start + 64) 4 (omega (arith, h)),
  ) refl

  -- a segment whose sections the bytes hold
  segment_same : (body : ℕ) → body + 60 ≤ length bytes → section_offset body (section_count bytes body) ≤ length bytes → section_count bytes body ≤ whole_headers bytes body → segment bytes body ≡ segment file body
  unfolding segment
  segment_same body whole held all =
      let count : section_count bytes body ≡ section_count file body = number_same body (field 56 4) (omega (arith, whole)) in
      let room = div-mul-le_self (length bytes + 28 - (body + 64)) 80 in
      let more : section_count bytes body ≤ whole_headers file body = le-div (section_count bytes body) (length file + 28 - (body + 64)) 80 (omega arith) (omega (arith, all, room, short)) in
      let ours : min (section_count bytes body) (whole_headers bytes body) ≡ section_count bytes body = omega (arith, all) in
      let theirs : min (section_count file body) (whole_headers file body) ≡ section_count bytes body = omega (arith, more, count) in
      let items : sections_below bytes body (section_count bytes body) ≡ sections_below file body (section_count bytes body) =
      filter_map_same (λ i. section_at bytes (section_offset body i)) (λ i. section_at file (section_offset body i)) 0 (section_count bytes body)
      (λ i lt. section_same (section_offset body i) (omega (arith, lt, held))) in
      rw (
        le-ltb (length bytes) (body + 60) whole,
        le-ltb (length file) (body + 60) (omega (arith, whole, short)),
        le-leb (section_count bytes body) (whole_headers bytes body) all,
        le-leb (section_count file body) (whole_headers file body) (omega (arith, more, count)),
        ours,
        theirs,
        items,
      ) refl

  -- the structures of a segment's sections lie in the bytes
  structures_held : (command : Command) → is_segment command ≡ true → holds_body bytes command ≡ true → section_offset (body_of command) (section_count bytes (body_of command)) ≤ length bytes
  structures_held command is held = leb-true (section_offset (body_of command) (section_count bytes (body_of command))) (length bytes) (rw is at held)

  -- what a command of a segment says
  segment_held : (command : Command) → is_segment command ≡ true → holds_body bytes command ≡ true → segment bytes (body_of command) ≡ segment file (body_of command)
  segment_held command is held =
      let whole = structures_held command is held in
      segment_same (body_of command) (omega (arith, whole)) whole (le-div (section_count bytes (body_of command)) (length bytes + 28 - (body_of command + 64)) 80 (omega arith) (omega (arith, whole)))

  sections_same : (commands : List Command) (refusal : Option Refusal) → AreHeld commands → sections_of bytes commands refusal ≡ sections_of file commands refusal
  unfolding sections_of AreHeld
  sections_same [] refusal held = refl
  sections_same (command ∷ others) refusal held = by_kind (is_segment command) refl (sections_same others refusal held.1)
    where
      by_kind : (b : Bool) → is_segment command ≡ b → sections_of bytes others refusal ≡ sections_of file others refusal
          → cond b (and_then (segment bytes (body_of command)).items (segment bytes (body_of command)).refusal (sections_of bytes others refusal)) (sections_of bytes others refusal)
          ≡ cond b (and_then (segment file (body_of command)).items (segment file (body_of command)).refusal (sections_of file others refusal)) (sections_of file others refusal)
      by_kind true is rest = ap₂ (λ (s r : Walk Section). and_then s.items s.refusal r) (segment_held command is held.0) rest
      by_kind false is rest = rest

  -- the command of the symbol table is held
  found_held : (commands : List Command) (command : Command) → AreHeld commands → find (λ c. eqb c.kind 2) commands ≡ Some command → (eqb command.kind 2 ≡ true) × (holds_body bytes command ≡ true)
  unfolding AreHeld
  found_held [] command held is = absurd cc
  found_held (head ∷ others) command held is = by_kind (eqb head.kind 2) refl (λ found. found_held others command held.1 found) is
    where
      by_kind : (b : Bool) → eqb head.kind 2 ≡ b → (find (λ c. eqb c.kind 2) others ≡ Some command → (eqb command.kind 2 ≡ true) × (holds_body bytes command ≡ true)) → cond b (Some head) (find (λ c. eqb c.kind 2) others) ≡ Some command → (eqb command.kind 2 ≡ true) × (holds_body bytes command ≡ true)
      by_kind true kind again is = let it : head ≡ command = cc in (ap (λ (c : Command). eqb c.kind 2) (sym it) ∙ kind, ap (holds_body bytes) (sym it) ∙ held.0)
      by_kind false kind again is = again is

  table_same : (body : ℕ) → body + 16 ≤ length bytes → symbol_table_at bytes body ≡ symbol_table_at file body
  unfolding symbol_table_at symbol_table_fields
  table_same body h = cc (
    number_same body symbol_table_fields.symbol_offset (omega (arith, h)),
    number_same body symbol_table_fields.row_count (omega (arith, h)),
    number_same body symbol_table_fields.strings_offset (omega (arith, h)),
    number_same body symbol_table_fields.strings_size (omega (arith, h)),
  )

  whole_same : (command : Command) → eqb command.kind 2 ≡ true → holds_body bytes command ≡ true → whole_table bytes command ≡ whole_table file command
  whole_same command kind held =
      let body = body_of command in
      let two : command.kind ≡ 2 = eqb-true command.kind 2 kind in
      let other : is_segment command ≡ false = ap (λ (k : ℕ). eqb k 0x19) two in
      let whole : body + 16 ≤ length bytes = leb-true (body + 16) (length bytes) (rw (other, kind) at held) in
      rw (le-leb (body + 16) (length bytes) whole, le-leb (body + 16) (length file) (omega (arith, whole, short))) (ap Ok (table_same body whole))

  named_same : (found : Option Command) (end : Option Refusal) → ((command : Command) → found ≡ Some command → whole_table bytes command ≡ whole_table file command)
      → (found_or_end found end >>= named_table bytes) ≡ (found_or_end found end >>= named_table file)
  named_same None None each = refl
  named_same None (Some refusal) each = refl
  named_same (Some command) end each = ap (λ (r : Result (SymtabCommand ℕ) Refusal). r >>= λ table. Ok (Some table)) (each command refl)

  -- a section structure lies in the bytes
  abbrev IsHeld : ℕ → Type 0
  IsHeld start = start + 80 ≤ length bytes

  -- where its sections begin
  count_held : (command : Command) → is_segment command ≡ true → holds_body bytes command ≡ true → section_count bytes (body_of command) ≡ section_count file (body_of command)
  count_held command is held =
      number_same (body_of command) (field 56 4) (omega (arith, structures_held command is held))

  -- functions that agree on what is held
  map_held : {X : Type 0} (f g : ℕ → X) (starts : List ℕ) → ((start : ℕ) → IsHeld start → f start ≡ g start) → All IsHeld starts → map f starts ≡ map g starts
  map_held f g [] same held = refl
  map_held f g (start ∷ starts) same held = ap₂ (λ y ys. y ∷ ys) (same start (All-head IsHeld start starts held)) (map_held f g starts same (All-tail IsHeld start starts held))

  starts_held : (commands : List Command) → AreHeld commands → starts_among bytes commands ≡ starts_among file commands
  unfolding AreHeld
  starts_held [] held = refl
  starts_held (command ∷ others) held = by_kind (is_segment command) refl (starts_held others held.1)
    where
      by_kind : (b : Bool) → is_segment command ≡ b → starts_among bytes others ≡ starts_among file others
          → (cond b (starts_in bytes (body_of command)) [] ++ starts_among bytes others) ≡ (cond b (starts_in file (body_of command)) [] ++ starts_among file others)
      by_kind true is rest = ap₂ (λ (xs ys : List ℕ). xs ++ ys) (ap (λ (n : ℕ). first_starts (body_of command) n) (count_held command is held.0)) rest
      by_kind false is rest = rest

  -- each of its structures lies in the bytes
  room_held : (command : Command) → is_segment command ≡ true → holds_body bytes command ≡ true → All IsHeld (starts_in bytes (body_of command))
  room_held command is held =
      each_start IsHeld (body_of command) 0 (section_count bytes (body_of command)) (λ i lt. omega (arith, lt, structures_held command is held))

  starts_whole : (commands : List Command) → AreHeld commands → All IsHeld (starts_among bytes commands)
  unfolding AreHeld
  starts_whole [] held = All-nil IsHeld
  starts_whole (command ∷ others) held = by_kind (is_segment command) refl (starts_whole others held.1)
    where
      by_kind : (b : Bool) → is_segment command ≡ b → All IsHeld (starts_among bytes others)
          → All IsHeld (cond b (starts_in bytes (body_of command)) [] ++ starts_among bytes others)
      by_kind true is rest = All-append IsHeld (starts_in bytes (body_of command)) (starts_among bytes others) (room_held command is held.0) rest
      by_kind false is rest = rest

  -- what is read of a section
  numbered_same : (start : ℕ) → start + 80 ≤ length bytes → numbered_at bytes start ≡ numbered_at file start
  unfolding numbered_at extent_at has_instructions section_fields flags_at
  numbered_same start h = rw (
    number_same start section_fields.address (omega (arith, h)),
    number_same start section_fields.size (omega (arith, h)),
    le-leb (start + 68) (length bytes) (omega (arith, h)),
    le-leb (start + 68) (length file) (omega (arith, h, short)),
    number_same start (field 64 4) (omega (arith, h)),
    section_same start (omega (arith, h)),
  ) refl

  -- the name and the address of a segment
  text_same : (command : Command) → is_segment command ≡ true → holds_body bytes command ≡ true
      → (is_text_segment bytes command ≡ is_text_segment file command) × (segment_address bytes (body_of command) ≡ segment_address file (body_of command))
  text_same command is held =
      let body = body_of command in
      let room : body + 24 ≤ length bytes = omega (arith, structures_held command is held) in (
        rw (le-leb (body + 24) (length bytes) room, le-leb (body + 24) (length file) (omega (arith, room, short)), same (body + 0) 16 (omega (arith, room))) refl,
        number_same body (field 16 8) (omega (arith, room)),
      )

  abbrev address_in : List ℕ → Option Command → Option ℕ
  address_in f found = option_map (λ command. segment_address f (body_of command)) found

  addresses_same : (commands : List Command) → AreHeld commands → address_in bytes (find (is_text_segment bytes) commands) ≡ address_in file (find (is_text_segment file) commands)
  unfolding AreHeld
  addresses_same [] held = refl
  addresses_same (command ∷ others) held = by_kind (is_segment command) refl (addresses_same others held.1)
    where
      rest_of : List ℕ → Option Command
      rest_of f = find (is_text_segment f) others

      by_test : (b : Bool) → segment_address bytes (body_of command) ≡ segment_address file (body_of command) → address_in bytes (rest_of bytes) ≡ address_in file (rest_of file)
          → address_in bytes (cond b (Some command) (rest_of bytes)) ≡ address_in file (cond b (Some command) (rest_of file))
      by_test true here rest = ap (λ (a : ℕ). Some a) here
      by_test false here rest = rest

      by_kind : (b : Bool) → is_segment command ≡ b → address_in bytes (rest_of bytes) ≡ address_in file (rest_of file)
          → address_in bytes (cond (is_text_segment bytes command) (Some command) (rest_of bytes)) ≡ address_in file (cond (is_text_segment file command) (Some command) (rest_of file))
      by_kind true is rest = let same_text = text_same command is held.0 in rw same_text.0 (by_test (is_text_segment file command) same_text.1 rest)
      by_kind false is rest = rw is rest

  found_same : (x y : Option Command) (end : Option Refusal) → address_in bytes x ≡ address_in file y
      → (found_or_end x end >>= λ found. Ok (address_in bytes found)) ≡ (found_or_end y end >>= λ found. Ok (address_in file found))
  found_same None None None is = refl
  found_same None None (Some refusal) is = refl
  found_same (Some x) (Some y) end is = ap (λ (a : Option ℕ). Ok a) is
  found_same None (Some y) end is = absurd cc
  found_same (Some x) None end is = absurd cc

  -- where they hold all commands of the header, the same sections are selected
  module _ (whole : 28 ≤ length bytes) (held : holds_commands bytes ≡ true) where
    agrees : Agrees (header_of bytes).ncmds header_length
    agrees = commands_held (header_of bytes).ncmds header_length held

    commands_same : commands bytes ≡ commands file
    unfolding header_of header_fields
    commands_same = agrees.0 ∙ ap (λ (n : ℕ). commands_from file n header_length) (number_same 0 header_fields.ncmds (omega (arith, whole)))

    pub walk_same : walk bytes ≡ walk file
    unfolding walk
    walk_same = sections_same (commands bytes).items (commands bytes).refusal agrees.1 ∙ ap (λ (w : Walk Command). sections_of file w.items w.refusal) commands_same

    named_held : (symbol_command bytes >>= named_table bytes) ≡ (symbol_command file >>= named_table file)
    named_held =
        named_same (find (λ c. eqb c.kind 2) (commands bytes).items) (commands bytes).refusal
        (λ command is. let found = found_held (commands bytes).items command agrees.1 is in whole_same command found.0 found.1)
        ∙ ap (λ (w : Walk Command). first (λ c. eqb c.kind 2) w >>= named_table file) commands_same

    pub among_same : starts_among bytes (commands bytes).items ≡ starts_among file (commands file).items
    among_same = starts_held (commands bytes).items agrees.1 ∙ ap (λ (w : Walk Command). starts_among file w.items) commands_same

    starts_same : section_starts bytes ≡ section_starts file
    unfolding section_starts
    starts_same =
        ap₂ (λ (end : Option Refusal) (starts : List ℕ). unless end (take 255 starts)) (ap (λ (w : Walk Section). w.refusal) walk_same) among_same

    each_whole : (starts : List ℕ) → section_starts bytes ≡ Ok starts → All IsHeld starts
    unfolding section_starts
    each_whole starts is =
        let all = starts_among bytes (commands bytes).items in
        All-same IsHeld starts (take 255 all) (unless_refused (walk bytes).refusal (take 255 all) starts is) (All-take IsHeld 255 all (starts_whole (commands bytes).items agrees.1))

    numbered_held : numbered_sections bytes ≡ numbered_sections file
    unfolding numbered_sections
    numbered_held = by_starts (section_starts bytes) refl ∙ ap (λ (r : Result (List ℕ) Refusal). r >>= λ starts. Ok (map (numbered_at file) starts)) starts_same
      where
        by_starts : (r : Result (List ℕ) Refusal) → section_starts bytes ≡ r → (r >>= λ starts. Ok (map (numbered_at bytes) starts)) ≡ (r >>= λ starts. Ok (map (numbered_at file) starts))
        by_starts (Err why) is = refl
        by_starts (Ok starts) is = ap Ok (map_held (numbered_at bytes) (numbered_at file) starts numbered_same (each_whole starts is))

    pub sections_held : (section : Option (List ℕ)) → sections_in section bytes ≡ sections_in section file
    unfolding sections_in
    sections_held section =
        ap (λ (r : Result (List NumberedSection) Refusal). r >>= λ sections. code_of section sections >>= λ code. Ok (record { sections = sections; code = code })) numbered_held

    pub table_held : table_of bytes ≡ table_of file
    table_held = named_held

    -- and the file is loaded at the same address
    pub load_same : load_address bytes ≡ load_address file
    unfolding load_address
    load_same =
        found_same (find (is_text_segment bytes) (commands bytes).items) (find (is_text_segment file) (commands bytes).items) (commands bytes).refusal (addresses_same (commands bytes).items agrees.1)
        ∙ ap (λ (w : Walk Command). first (is_text_segment file) w >>= λ found. Ok (address_in file found)) commands_same

  -- where the header says that its commands end
  pub said_same : 28 ≤ length bytes → (header_of bytes).sizeofcmds ≡ (header_of file).sizeofcmds
  unfolding header_of header_fields
  said_same whole = number_same 0 header_fields.sizeofcmds (omega (arith, whole))

-- the bytes that a file begins with
pub prefix_long : (file : List ℕ) (size : ℕ) → size ≤ length file → length (bytes_at file 0 size) ≡ size
prefix_long file size inside = length-take-le size (drop 0 file) inside

pub prefix_same : (file : List ℕ) (size k width : ℕ) → size ≤ length file → k + width ≤ length (bytes_at file 0 size) → bytes_at (bytes_at file 0 size) k width ≡ bytes_at file k width
prefix_same file size k width inside h =
    bytes_in file 0 size k width (omega (arith, h, prefix_long file size inside)) ∙ ap (λ n. bytes_at file n width) (from_start k)
  where
    from_start : (n : ℕ) → 0 + n ≡ n
    from_start n = omega arith

pub header_said : (file : List ℕ) → 28 ≤ length file → (header_of (bytes_at file 0 28)).sizeofcmds ≡ (header_of file).sizeofcmds
header_said file inside =
    let long = prefix_long file 28 inside in
    said_same file (bytes_at file 0 28) (omega (arith, long, inside)) (λ k width h. prefix_same file 28 k width inside h) (omega (arith, long))

pub command_bytes_long : (file : List ℕ) → 28 ≤ length file → 28 ≤ length (command_bytes file)
command_bytes_long file inside = by_held (holds_commands (bytes_at file 0 (said_end file)))
  where
    by_held : (b : Bool) → 28 ≤ length (cond b (bytes_at file 0 (said_end file)) file)
    by_held true = let long = prefix_long file (said_end file) (omega arith) in omega (arith, long, inside)
    by_held false = inside

-- the file's sections
walk_of_bytes : (file : List ℕ) → 28 ≤ length file → walk (command_bytes file) ≡ walk file
walk_of_bytes file inside = by_held (holds_commands (bytes_at file 0 (said_end file))) refl
  where
    by_held : (b : Bool) → holds_commands (bytes_at file 0 (said_end file)) ≡ b → walk (cond b (bytes_at file 0 (said_end file)) file) ≡ walk file
    by_held true held =
        let long = prefix_long file (said_end file) (omega arith) in
        walk_same file (bytes_at file 0 (said_end file)) (omega (arith, long)) (λ k width h. prefix_same file (said_end file) k width (omega arith) h) (omega (arith, long, inside)) held
    by_held false held = refl

pub text_of_bytes : (file : List ℕ) → 28 ≤ length file → text_extent (command_bytes file) ≡ text_extent file
text_of_bytes file inside = ap text_in (walk_of_bytes file inside)

pub sections_of_bytes : (file bytes : List ℕ) → 28 ≤ length file → bytes ≡ command_bytes file → macho_sections bytes ≡ macho_sections file
sections_of_bytes file bytes inside is =
    ap macho_sections is ∙ rw (le-ltb (length (command_bytes file)) 28 (command_bytes_long file inside), le-ltb (length file) 28 inside) (ap Ok (walk_of_bytes file inside))

pub begins_with_commands : (file bytes : List ℕ) → bytes ≡ command_bytes file → Begins file bytes
begins_with_commands file bytes is = by_held (holds_commands (bytes_at file 0 (said_end file))) is
  where
    by_held : (b : Bool) → bytes ≡ cond b (bytes_at file 0 (said_end file)) file → Begins file bytes
    by_held true is = (said_end file, is)
    by_held false is = (length file, is ∙ sym (take_all (length file) file (omega arith)))

-- what the bytes that its commands are in say of a file's sections, of its symbol table, and of where it is loaded
pub record SameSections (file bytes : List ℕ) : Type 0 where
  pub sections : (section : Option (List ℕ)) → sections_in section bytes ≡ sections_in section file
  pub among : starts_among bytes (commands bytes).items ≡ starts_among file (commands file).items
  pub table : table_of bytes ≡ table_of file
  pub loaded : load_address bytes ≡ load_address file

pub same_sections : (file bytes : List ℕ) → 28 ≤ length file → bytes ≡ command_bytes file → SameSections file bytes
same_sections file bytes inside is = rw is (by_held (holds_commands (bytes_at file 0 (said_end file))) refl)
  where
    by_held : (b : Bool) → holds_commands (bytes_at file 0 (said_end file)) ≡ b → SameSections file (cond b (bytes_at file 0 (said_end file)) file)
    by_held true held =
        let begins = bytes_at file 0 (said_end file) in
        let long = prefix_long file (said_end file) (omega arith) in
        let short : length begins ≤ length file = omega (arith, long) in
        let whole : 28 ≤ length begins = omega (arith, long, inside) in
        record {
          sections = sections_held file begins short (λ k width h. prefix_same file (said_end file) k width (omega arith) h) whole held;
          among = among_same file begins short (λ k width h. prefix_same file (said_end file) k width (omega arith) h) whole held;
          table = table_held file begins short (λ k width h. prefix_same file (said_end file) k width (omega arith) h) whole held;
          loaded = load_same file begins short (λ k width h. prefix_same file (said_end file) k width (omega arith) h) whole held;
        }
    by_held false held = record { sections = λ section. refl; among = refl; table = refl; loaded = refl }
