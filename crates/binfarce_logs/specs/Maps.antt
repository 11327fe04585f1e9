-- Where a file is loaded, by a text in the form of /proc/PID/maps (proc(5)): each line is `start-end perms offset dev inode path`, with blanks before the path.
-- A log may have words of its own before that in a line, and carriage returns behind it. Also by lines of faults (`Faults`).
use Rattle.std.specs.Prelude.{◌≡◌, ◌+◌, ◌-◌, ◌^◌, ◌%◌, ◌&&◌, ◌||◌, ℕ, List, [], ◌∷◌, codes, length, take, drop, reverse, min, nat_eq, nat_le, nat_lt, Bool, true, false, not, Option, Some, None, Result, Ok, Err, is_some, if◌then◌else◌}
use Rattle.std.proofs.Common.{refl}
use Rattle.std.specs.List.{after_first, before_first, ends_with, list_all, list_any, position_or_len, slice_split}
use Rattle.std.specs.Option.{ok_or, option_and_then, option_map, option_or}
use Rattle.binfarce_rows.specs.Address.{hexadecimal}
use Rattle.binfarce_addresses.specs.Stream.{trim_start}
use Rattle.binfarce_logs.specs.Faults.{fault_in}
use Rattle.binfarce_logs.specs.Pages.{beginning, largest_page, only_beginning}
use Rattle.binfarce_logs.specs.declared.maps.Mapping.{Mapping}
use Rattle.binfarce_logs.specs.declared.maps.NoBase.{NoBase}
use Rattle.binfarce_logs.specs.declared.maps.NoBase.TheVariants.{NotMaps, NotMapped, NoCode, Several}
use Rattle.binfarce_elf_memory.specs.declared.segments.CodeSegment.{CodeSegment}
use Rattle.binfarce_elf_memory.specs.declared.segments.LoadAddress.{LoadAddress}

-- the text before its first blank, and behind it
abbrev pub before_blank : (text : List ℕ) → List ℕ
before_blank text = before_first (nat_eq 32) text

abbrev pub behind_blank : (text : List ℕ) → List ℕ
behind_blank text = after_first (nat_eq 32) text

-- permissions are four letters of `rwxsp`, or `-` in place of one
abbrev pub is_permission : ℕ → Bool
is_permission b = list_any (nat_eq b) (codes "rwxsp-")

abbrev pub are_permissions : List ℕ → Bool
are_permissions field = nat_eq (length field) 4 && list_all is_permission field

-- the mapping with these permissions, range and offset in the file, if they are permissions
abbrev pub mapping_at : (permissions : List ℕ) (start end place : ℕ) → Option Mapping
mapping_at permissions start end place = if are_permissions permissions then Some (record {
  start = start;
  size = end - start;
  offset = place;
  has_offset = true;
  is_code = list_any (λ b. nat_eq b 120) permissions;
}) else None

-- the same where start and end, with `-` between, and the offset are hexadecimal numbers
abbrev pub mapping_with : (range permissions offset : List ℕ) → Option Mapping
mapping_with range permissions offset =
    option_and_then (λ start. option_and_then (λ end. option_and_then (mapping_at permissions start end) (hexadecimal offset)) (hexadecimal (after_first (nat_eq 45) range))) (hexadecimal (before_first (nat_eq 45) range))

-- the mapping of a line: its first field has start and end, its second an `x` if it may be executed, and its third the offset in the file
abbrev pub mapping_of : (line : List ℕ) → Option Mapping
mapping_of line = mapping_with (before_blank line) (before_blank (behind_blank line)) (before_blank (behind_blank (behind_blank line)))

-- a text from the first word on from which it has the form of a mapping; words are behind blanks, and one may begin at its first byte, or none does. Empty if there is none
abbrev pub begun_at : (may_begin : Bool) (text : List ℕ) → List ℕ
begun_at may_begin [] = []
begun_at may_begin (b ∷ text) = if may_begin && is_some (mapping_of (b ∷ text)) then b ∷ text else begun_at (nat_eq b 32) text

-- a line without the carriage return at its end
abbrev pub without_return : (line : List ℕ) → List ℕ
without_return line = if ends_with nat_eq line (codes "\r") then take (length line - 1) line else line

-- the part of a line that has the form of a mapping
abbrev pub begun : (line : List ℕ) → List ℕ
begun line = begun_at true (without_return line)

-- the path of a mapping, after five fields, without the mark of a file that was deleted; it is empty where no file is mapped
abbrev pub without_mark : (path : List ℕ) → List ℕ
without_mark path = if ends_with nat_eq path (codes " (deleted)") then take (length path - 10) path else path

abbrev pub path_of : (line : List ℕ) → List ℕ
path_of line = without_mark (trim_start (behind_blank (behind_blank (behind_blank (behind_blank (behind_blank line))))))

-- a path ends with this one: it is this one, or a `/` comes before it
abbrev pub ends_with_path : (end path : List ℕ) → Bool
ends_with_path end path = ends_with nat_eq path end && (nat_eq (length path) (length end) || ends_with nat_eq (take (length path - length end) path) (codes "/"))

-- the file's name: what comes behind the last `/` of a path
abbrev pub name_of : (path : List ℕ) → List ℕ
name_of path = drop (length path - position_or_len (nat_eq 47) (reverse path)) path

-- what a text in the form of a mapping says: the mapping, and the path of its file
abbrev pub listed_in : (text : List ℕ) → Option (Mapping × List ℕ)
listed_in text = option_map (λ mapping. (mapping, path_of text)) (mapping_of text)

-- what a line says: a mapping and a path, also within other words, or those of a fault
abbrev pub mapped_in : (line : List ℕ) → Option (Mapping × List ℕ)
mapped_in line = option_or (listed_in (begun line)) (fault_in (without_return line))

-- the mapping, where its path ends with this one
abbrev pub if_named : (end : List ℕ) → Mapping × List ℕ → Option Mapping
if_named end mapped = if ends_with_path end mapped.1 then Some mapped.0 else None

-- the mapping in a line, whatever its path is, and where that ends with this one
abbrev pub mapping_in : (line : List ℕ) → Option Mapping
mapping_in line = option_map (λ (mapped : Mapping × List ℕ). mapped.0) (mapped_in line)

abbrev pub mapping_for : (end line : List ℕ) → Option Mapping
mapping_for end line = option_and_then (if_named end) (mapped_in line)

-- the less of two addresses, of which there may be none
abbrev pub less_of : Option ℕ → Option ℕ → Option ℕ
less_of None other = other
less_of (Some a) None = Some a
less_of (Some a) (Some b) = Some (min a b)

-- the lowest value among those that lines have
abbrev pub lowest_among : (value : List ℕ → Option ℕ) (lines : List (List ℕ)) → Option ℕ
lowest_among value [] = None
lowest_among value (line ∷ lines) = less_of (value line) (lowest_among value lines)

-- so of the lines of a text
abbrev pub lowest : (value : List ℕ → Option ℕ) (maps : List ℕ) → Option ℕ
lowest value maps = lowest_among value (slice_split (nat_eq 10) maps)

-- the first address of a mapping
abbrev pub start_of : Option Mapping → Option ℕ
start_of mapping = option_map (λ (m : Mapping). m.start) mapping

-- a less b, modulo 2^64
abbrev pub minus : (a b : ℕ) → ℕ
minus a b = (a + (2 ^ 64 - b)) % 2 ^ 64

-- bytes of this segment are in the mapping: neither begins at the end of the other in the file, or past it. A difference that would be below 0 is 0 here, so for
-- the one that begins first it only says that the other one has bytes
abbrev pub shares_bytes : CodeSegment → Mapping → Bool
shares_bytes segment mapping = nat_lt (mapping.offset - segment.offset) segment.size && nat_lt (segment.offset - mapping.offset) mapping.size

-- where a file of this address is loaded by a mapping of its code segment. An address in memory less an offset in the file is the same for all of the
-- mapping, whatever a page's size, and so is an address in the file less an offset for all of the segment: the difference of both is what the loader added
abbrev pub base_by_code : (address : ℕ) → CodeSegment → Mapping → ℕ
base_by_code address segment mapping = (minus (minus mapping.start mapping.offset) (minus segment.address segment.offset) + address) % 2 ^ 64

-- where it is by a mapping that begins with this address of the file
abbrev pub base_by_beginning : (address : ℕ) → Mapping → (beginning : ℕ) → ℕ
base_by_beginning address mapping beginning = (minus mapping.start beginning + address) % 2 ^ 64

-- where it is by a mapping of its code whose offset isn't known: there the page begins in which the segment does
abbrev pub base_by_page : (address : ℕ) → CodeSegment → Mapping → Option ℕ
base_by_page address segment mapping = option_map (base_by_beginning address mapping) (only_beginning (largest_page segment.align) segment.address)

abbrev pub base_in_segment : LoadAddress → CodeSegment → Mapping → Option ℕ
base_in_segment loaded segment mapping =
    if not mapping.has_offset then base_by_page loaded.address segment mapping
    else if mapping.is_code && shares_bytes segment mapping then Some (base_by_code loaded.address segment mapping) else None

abbrev pub base_in : LoadAddress → Option CodeSegment → Mapping → Option ℕ
base_in loaded None mapping = None
base_in loaded (Some segment) mapping = base_in_segment loaded segment mapping

-- where the file is loaded by the mapping of a line: none where that has no byte of its code segment, or may not be executed
abbrev pub base_by : LoadAddress → Option Mapping → Option ℕ
base_by loaded mapping = option_and_then (base_in loaded loaded.code) mapping

-- the offset in the file of a mapping that may be executed, if that is known
abbrev pub code_offset_of : Option Mapping → Option ℕ
code_offset_of mapping = option_and_then (λ (m : Mapping). if m.is_code && m.has_offset then Some m.offset else None) mapping

-- a debug file has no bytes of its code segment (`p_filesz` is 0), and doesn't say at which offset the program's file has them. They are in all mappings that
-- may be executed, and at the lowest offset of these the page begins in which the segment does
abbrev pub is_debug : CodeSegment → Bool
is_debug segment = nat_eq segment.size 0

abbrev pub placed_by : CodeSegment → (lowest : ℕ) → (beginning : Option ℕ) → CodeSegment
placed_by segment lowest None = segment
placed_by segment lowest (Some beginning) = record { address = beginning; offset = lowest; size = 2 ^ 64 - 1; memory_size = segment.memory_size; align = segment.align }

abbrev pub placed : (lowest : Option ℕ) → CodeSegment → CodeSegment
placed None segment = segment
placed (Some lowest) segment = if is_debug segment then placed_by segment lowest (beginning (largest_page segment.align) lowest segment.address) else segment

abbrev pub placed_in : (maps end : List ℕ) → LoadAddress → LoadAddress
placed_in maps end loaded = record { address = loaded.address; code = option_map (placed (lowest (λ line. code_offset_of (mapping_for end line)) maps)) loaded.code }

-- one that isn't this one
abbrev pub other_than : (one : ℕ) → Option ℕ → Option ℕ
other_than one None = None
other_than one (Some a) = if nat_eq one a then None else Some a

-- one that is this one
abbrev pub same_as : (one : ℕ) → Option ℕ → Option ℕ
same_as one None = None
same_as one (Some a) = if nat_eq one a then Some a else None

-- a mapping is one of the file if its path ends with the given one, where any does; or else if it ends with the name in it
abbrev pub end_in : (maps path : List ℕ) → List ℕ
end_in maps path = if is_some (lowest (λ line. start_of (mapping_for path line)) maps) then path else name_of path

-- the first address of a mapping of the file's first byte
abbrev pub first_start_of : Option Mapping → Option ℕ
first_start_of mapping = option_and_then (λ (m : Mapping). if m.has_offset && nat_eq m.offset 0 then Some m.start else None) mapping

-- the file's first byte is in no mapping but that of its lowest segment, which begins with this address: a page of any size begins there, and the code, which
-- is as long as the largest, is between that byte and other segments
abbrev pub begins_alone : (largest address : ℕ) → CodeSegment → Bool
begins_alone largest address segment = nat_lt 1 largest && (nat_eq (address % largest) 0 && nat_le largest segment.memory_size)

-- where the file is loaded by its first byte, which all its mappings have at the same place
abbrev pub base_by_first : (maps end : List ℕ) → (first : Option ℕ) → Result ℕ NoBase
base_by_first maps end None = Err NoCode
base_by_first maps end (Some first) = if is_some (lowest (λ line. other_than first (first_start_of (mapping_for end line))) maps) then Err Several else Ok first

-- where it is by mappings of which none has its code: without code at the lowest address of any of them, and else at that of its first byte
abbrev pub base_without : (maps end : List ℕ) → (address : ℕ) → Option CodeSegment → Result ℕ NoBase
base_without maps end address (Some segment) =
    if begins_alone (largest_page segment.align) address segment then base_by_first maps end (lowest (λ line. first_start_of (mapping_for end line)) maps) else Err NoCode
base_without maps end address None = ok_or (lowest (λ line. start_of (mapping_for end line)) maps) NotMapped

-- why no mapping is one of the file: no line is a mapping, or all are others'
abbrev pub unmapped : (maps : List ℕ) → NoBase
unmapped maps = if is_some (lowest (λ line. start_of (mapping_in line)) maps) then NotMapped else NotMaps

-- where the file is loaded, whose mappings' paths have this end: where all mappings of its code say that it is; several differ where it is loaded more than
-- once
abbrev pub base_with : (maps end : List ℕ) → LoadAddress → Option ℕ → Result ℕ NoBase
base_with maps end loaded (Some base) = if is_some (lowest (λ line. other_than base (base_by loaded (mapping_for end line))) maps) then Err Several else Ok base
base_with maps end loaded None = if is_some (lowest (λ line. start_of (mapping_for end line)) maps) then base_without maps end loaded.address loaded.code else Err (unmapped maps)

abbrev pub base_at : (maps end : List ℕ) → LoadAddress → Result ℕ NoBase
base_at maps end loaded = base_with maps end loaded (lowest (λ line. base_by loaded (mapping_for end line)) maps)

-- mappings of the file's first byte, if there are any, and a base are as one loader makes them: one of them begins there. A program may have others, to
-- read the file
abbrev pub agrees : (maps end : List ℕ) → (base : ℕ) → Bool
agrees maps end base = is_some (lowest (λ line. same_as base (first_start_of (mapping_for end line))) maps) || not (is_some (lowest (λ line. first_start_of (mapping_for end line)) maps))

-- that decides for a debug file, whose code may be at a higher offset than those of the maps are
abbrev pub if_agreed : (maps end : List ℕ) → Option CodeSegment → Result ℕ NoBase → Result ℕ NoBase
if_agreed maps end (Some segment) (Ok base) = if is_debug segment && not (agrees maps end base) then Err NoCode else Ok base
if_agreed maps end None (Ok base) = Ok base
if_agreed maps end code (Err why) = Err why

abbrev pub base_for : (maps end : List ℕ) → LoadAddress → Result ℕ NoBase
base_for maps end loaded = if_agreed maps end loaded.code (base_at maps end (placed_in maps end loaded))

-- where the file at this path is loaded, which says that it is loaded there, or why that isn't known: no line is a mapping, none is one of this file, none
-- says where its code is, or it is loaded several times
abbrev pub base_of : (maps path : List ℕ) → LoadAddress → Result ℕ NoBase
base_of maps path loaded = base_for maps (end_in maps path) loaded

-- a line of a program's own maps
worked_path : ends_with_path (codes "app") (path_of (codes "5616487fc000-5616487fd000 r-xp 00001000 fe:00 11002235                   /tmp/app")) ≡ true
worked_path = refl

worked_longer : ends_with_path (codes "app") (path_of (codes "5616487fc000-5616487fd000 r-xp 00001000 fe:00 11002235                   /tmp/myapp")) ≡ false
worked_longer = refl

worked_deleted : path_of (codes "5616487fc000-5616487fd000 r-xp 00001000 fe:00 11002235                   /tmp/app (deleted)") ≡ codes "/tmp/app"
worked_deleted = refl

worked_name : name_of (codes "/tmp/app") ≡ codes "app"
worked_name = refl

worked_start : start_of (mapping_of (codes "00400000-00401000 r--p 00000000 fe:00 11002236                           /tmp/app")) ≡ Some 0x400000
worked_start = refl

-- one in a log, with the words of that before it and a carriage return behind it
worked_begun : begun (codes "app[12]: 00400000-00401000 r--p 00000000 fe:00 11 /tmp/app\r") ≡ codes "00400000-00401000 r--p 00000000 fe:00 11 /tmp/app"
worked_begun = refl

-- a date, a time and a number before it are no mapping
worked_dated : begun (codes "11-29 05:55:01.123 12345 12346 I app: 00400000-00401000 r--p 00000000 fe:00 11 /tmp/app") ≡ codes "00400000-00401000 r--p 00000000 fe:00 11 /tmp/app"
worked_dated = refl

-- one that maps no file
worked_none : path_of (codes "7fa8dc3e4000-7fa8dc3e7000 rw-p 00000000 00:00 0 ") ≡ []
worked_none = refl

-- a shared object by lld, whose code at 0x970 is linked at 0x1970, is loaded where its code is, and not where the program mapped it to read it
worked_read : base_of (codes "7fb14231b000-7fb14231f000 r--p 00000000 fe:00 5431306 /x/lib.so\n7fb14231f000-7fb142320000 r--p 00000000 fe:00 5431306 /x/lib.so\n7fb142320000-7fb142321000 r-xp 00000000 fe:00 5431306 /x/lib.so") (codes "y/lib.so") (record { address = 0; code = Some (record { address = 0x1970; offset = 0x970; size = 0x370; memory_size = 0x370; align = 0x1000 }) }) ≡ Ok 0x7fb14231f000
worked_read = refl

-- it is loaded twice; one of them has the given path
worked_twice : base_of (codes "7fb142320000-7fb142321000 r-xp 00000000 fe:00 5431306 /x/lib.so\n7fb142330000-7fb142331000 r-xp 00000000 fe:00 5431307 /y/lib.so") (codes "lib.so") (record { address = 0; code = Some (record { address = 0x1970; offset = 0x970; size = 0x370; memory_size = 0x370; align = 0x1000 }) }) ≡ Err Several
worked_twice = refl

worked_one : base_of (codes "7fb142320000-7fb142321000 r-xp 00000000 fe:00 5431306 /x/lib.so\n7fb142330000-7fb142331000 r-xp 00000000 fe:00 5431307 /y/lib.so") (codes "y/lib.so") (record { address = 0; code = Some (record { address = 0x1970; offset = 0x970; size = 0x370; memory_size = 0x370; align = 0x1000 }) }) ≡ Ok 0x7fb14232f000
worked_one = refl

-- a debug file, which has no bytes of the code at 0x1351; `mprotect` has divided the mapping
worked_debug : base_of (codes "7fb14231f000-7fb142320000 r--p 00000000 fe:00 5431306 /x/app\n7fb142320000-7fb142321000 r-xp 00001000 fe:00 5431306 /x/app\n7fb142321000-7fb142322000 rwxp 00002000 fe:00 5431306 /x/app") (codes "app") (record { address = 0; code = Some (record { address = 0x1351; offset = 0; size = 0; memory_size = 0x21; align = 0x1000 }) }) ≡ Ok 0x7fb14231f000
worked_debug = refl

-- a file without code is at the lowest address of its mappings
worked_lowest : base_of (codes "7fb142320000-7fb142321000 r--p 00001000 fe:00 5431306 /x/app.exe\n7fb14231f000-7fb142320000 r--p 00000000 fe:00 5431306 /x/app.exe") (codes "app.exe") (record { address = 0x140000000; code = None }) ≡ Ok 0x7fb14231f000
worked_lowest = refl

-- the line of a fault by Linux 6.18 of a program whose code at 0x1040 is linked at the same address; and one by an older kernel
worked_fault : base_of (codes "[ 3074.339987] segv[5191]: segfault at 0 ip 0000557084b26139 sp 00007ffe96183da0 error 4 in segv[1139,557084b26000+1000] likely on CPU 2 (core 2, socket 0)") (codes "/tmp/segv") (record { address = 0; code = Some (record { address = 0x1000; offset = 0x1000; size = 0x14d; memory_size = 0x14d; align = 0x1000 }) }) ≡ Ok 0x557084b25000
worked_fault = refl

worked_old_fault : base_of (codes "app[7]: segfault at 0 ip 000055555556c123 sp 00007ffe96183da0 error 4 in app[55555556b000+48000]") (codes "app") (record { address = 0; code = Some (record { address = 0x17450; offset = 0x16450; size = 0x40000; memory_size = 0x40000; align = 0x1000 }) }) ≡ Ok 0x555555554000
worked_old_fault = refl

-- a mapping of other bytes of a file with code doesn't say where that is loaded; one of its first byte does, where the code is as long as a page
worked_no_code : base_of (codes "7fb14231f000-7fb142320000 r--p 00005000 fe:00 5431306 /x/lib.so") (codes "lib.so") (record { address = 0; code = Some (record { address = 0x4970; offset = 0x3970; size = 0x1370; memory_size = 0x1370; align = 0x1000 }) }) ≡ Err NoCode
worked_no_code = refl

worked_first : base_of (codes "7fb14231f000-7fb142320000 r--p 00000000 fe:00 5431306 /x/lib.so") (codes "lib.so") (record { address = 0; code = Some (record { address = 0x4970; offset = 0x3970; size = 0x1370; memory_size = 0x1370; align = 0x1000 }) }) ≡ Ok 0x7fb14231f000
worked_first = refl

-- and not in a smaller file, whose data may be mapped with its first byte, too
worked_small : base_of (codes "7fb142321000-7fb142322000 r--p 00000000 fe:00 5431306 /x/lib.so") (codes "lib.so") (record { address = 0; code = Some (record { address = 0x1970; offset = 0x970; size = 0x370; memory_size = 0x370; align = 0x1000 }) }) ≡ Err NoCode
worked_small = refl

-- a debug file of a program by lld, aligned to 64 KiB, whose code at 0x1a20 is linked at 0x11a20, in pages of 4 and of 64 KiB; these begin four mappings at
-- the file's first byte
worked_debug_4 : base_of (codes "7fb142300000-7fb142302000 r--p 00000000 fe:00 5431306 /x/app\n7fb142311000-7fb142313000 r-xp 00001000 fe:00 5431306 /x/app\n7fb142322000-7fb142323000 r--p 00002000 fe:00 5431306 /x/app") (codes "app") (record { address = 0; code = Some (record { address = 0x11a20; offset = 0x1a20; size = 0; memory_size = 0xcc0; align = 0x10000 }) }) ≡ Ok 0x7fb142300000
worked_debug_4 = refl

worked_debug_64 : base_of (codes "7fb142300000-7fb142310000 r--p 00000000 fe:00 5431306 /x/app\n7fb142310000-7fb142320000 r-xp 00000000 fe:00 5431306 /x/app\n7fb142320000-7fb142330000 r--p 00000000 fe:00 5431306 /x/app\n7fb142330000-7fb142340000 rw-p 00000000 fe:00 5431306 /x/app") (codes "app") (record { address = 0; code = Some (record { address = 0x11a20; offset = 0x1a20; size = 0; memory_size = 0xcc0; align = 0x10000 }) }) ≡ Ok 0x7fb142300000
worked_debug_64 = refl

-- the code alone: the offset says that the page has 4 KiB; the other doesn't tell code that is mapped with the file's first byte from that byte's segment
worked_debug_code : base_of (codes "7fb142311000-7fb142313000 r-xp 00001000 fe:00 5431306 /x/app") (codes "app") (record { address = 0; code = Some (record { address = 0x11a20; offset = 0x1a20; size = 0; memory_size = 0xcc0; align = 0x10000 }) }) ≡ Ok 0x7fb142300000
worked_debug_code = refl

worked_debug_first : base_of (codes "7fb142310000-7fb142320000 r-xp 00000000 fe:00 5431306 /x/app") (codes "app") (record { address = 0; code = Some (record { address = 0x11a20; offset = 0x1a20; size = 0; memory_size = 0xcc0; align = 0x10000 }) }) ≡ Err NoCode
worked_debug_first = refl

-- a longer one in pages of 16 KiB: the code, of which a part is at 0x26351, the file's first byte alone, and both with mappings of another start
worked_debug_16 : base_of (codes "7fb142300000-7fb142328000 r--p 00000000 fe:00 5431306 /x/app\n7fb142334000-7fb142348000 r-xp 00024000 fe:00 5431306 /x/app") (codes "app") (record { address = 0; code = Some (record { address = 0x36351; offset = 0; size = 0; memory_size = 0x12345; align = 0x10000 }) }) ≡ Ok 0x7fb142300000
worked_debug_16 = refl

worked_debug_lowest : base_of (codes "7fb142300000-7fb142328000 r--p 00000000 fe:00 5431306 /x/app") (codes "app") (record { address = 0; code = Some (record { address = 0x36351; offset = 0; size = 0; memory_size = 0x12345; align = 0x10000 }) }) ≡ Ok 0x7fb142300000
worked_debug_lowest = refl

worked_debug_read : base_of (codes "7fb142200000-7fb142250000 r--p 00000000 fe:00 5431306 /x/app\n7fb142300000-7fb142328000 r--p 00000000 fe:00 5431306 /x/app\n7fb142334000-7fb142348000 r-xp 00024000 fe:00 5431306 /x/app") (codes "app") (record { address = 0; code = Some (record { address = 0x36351; offset = 0; size = 0; memory_size = 0x12345; align = 0x10000 }) }) ≡ Ok 0x7fb142300000
worked_debug_read = refl

worked_debug_twice : base_of (codes "7fb142200000-7fb142228000 r--p 00000000 fe:00 5431306 /x/app\n7fb142300000-7fb142328000 r--p 00000000 fe:00 5431306 /x/app") (codes "app") (record { address = 0; code = Some (record { address = 0x36351; offset = 0; size = 0; memory_size = 0x12345; align = 0x10000 }) }) ≡ Err Several
worked_debug_twice = refl

-- a part of the code that isn't its beginning
worked_debug_part : base_of (codes "7fb142300000-7fb142328000 r--p 00000000 fe:00 5431306 /x/app\n7fb142344000-7fb142348000 r-xp 00034000 fe:00 5431306 /x/app") (codes "app") (record { address = 0; code = Some (record { address = 0x36351; offset = 0; size = 0; memory_size = 0x12345; align = 0x10000 }) }) ≡ Err NoCode
worked_debug_part = refl

-- one by GNU ld, not PIE, which aligns the code to 64 KiB; as an older kernel writes its fault, too, which says nothing of the other's page
worked_gnu : base_of (codes "410000-411000 r-xp 00010000 fe:00 5431306 /x/app") (codes "app") (record { address = 0x400000; code = Some (record { address = 0x410000; offset = 0; size = 0; memory_size = 0xbc5; align = 0x10000 }) }) ≡ Ok 0x400000
worked_gnu = refl

worked_gnu_fault : base_of (codes "app[7]: segfault at 0 ip 0000000000410123 sp 00007ffe96183da0 error 4 in app[410000+10000]") (codes "app") (record { address = 0x400000; code = Some (record { address = 0x410000; offset = 0; size = 0; memory_size = 0xbc5; align = 0x10000 }) }) ≡ Ok 0x400000
worked_gnu_fault = refl

worked_page_fault : base_of (codes "app[7]: segfault at 0 ip 00007fb142336400 sp 00007ffe96183da0 error 4 in app[7fb142336000+12000]") (codes "app") (record { address = 0; code = Some (record { address = 0x36351; offset = 0x26351; size = 0x12345; memory_size = 0x12345; align = 0x10000 }) }) ≡ Err NoCode
worked_page_fault = refl
