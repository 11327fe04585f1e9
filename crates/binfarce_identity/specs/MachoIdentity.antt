-- The identity of a Mach-O file, its UUID (Apple's <mach-o/loader.h>, `uuid_command`).
use Rattle.std.specs.Prelude.{ℕ, ◌+◌, Bool, List, Option, Some, None, Ok, Err, nat_eq, if◌then◌else◌}
use Rattle.binfarce_bytes.specs.Number.{bytes_at}
use Rattle.binfarce_bytes.specs.Refusal.{◌>>=◌, malformed_input, if_as_long_as}
use Rattle.binfarce_bytes.specs.Walk.{first}
use Rattle.binfarce_macho.specs.Macho.{Command, body_of, commands, header_length, header_of, least_length}
use Rattle.binfarce_identity.specs.Identity.{Answer, identity}
use Rattle.binfarce_tables.specs.Readings.{answered, with_part}
use Rattle.binfarce_identity.specs.Reading.{Reading}
use Rattle.binfarce_identity.specs.declared.identity.Kind.TheVariants.{Uuid}

-- LC_UUID
abbrev pub is_uuid : Command → Bool
is_uuid command = nat_eq command.kind 0x1B

-- the 16 bytes of its body; a command of another size than 24 is malformed
abbrev pub uuid_in : (bytes : List ℕ) → Option Command → Answer
uuid_in bytes None = Ok None
uuid_in bytes (Some command) =
    if nat_eq command.size 24 then if_as_long_as (body_of command + 16) bytes (Ok (Some (identity Uuid (bytes_at bytes (body_of command) 16))))
    else Err malformed_input

-- that of the first such command in the bytes up to the end of the commands; refused for a bad command before it
unfoldable pub uuid_of : (bytes : List ℕ) → Answer
uuid_of bytes = first is_uuid (commands bytes) >>= uuid_in bytes

-- of a file, whose header states how many bytes the commands have
unfoldable pub macho_reading : Reading
macho_reading = with_part 0 least_length (λ head. with_part 0 (header_length + (header_of head).sizeofcmds) (λ bytes. answered (uuid_of bytes)))
