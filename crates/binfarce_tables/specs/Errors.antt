-- The error of a reading for a source's error.
use Rattle.std.specs.declared.io.ErrorKind.{ErrorKind}
use Rattle.std.specs.declared.io.ErrorKind.TheVariants as kinds
use Rattle.binfarce_tables.specs.declared.error.ReadError.{ReadError}
use Rattle.binfarce_tables.specs.declared.error.ReadError.TheVariants.{Unreadable, OutOfMemory}

-- an error of this kind: a failed allocation is reported as such
abbrev pub read_error : ErrorKind → ReadError
read_error kinds.OutOfMemory = OutOfMemory
read_error kind = Unreadable
