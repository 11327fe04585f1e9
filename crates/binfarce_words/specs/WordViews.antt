-- The views of a call, of its options and operands, and of a wrong call that clauses use.
use Rattle.std.specs.Prelude.{◌≡◌, ◌⊎◌, ◌++◌, ℕ, List, codes, map, Some, None, Result, Ok, Err}
use Rattle.std.specs.Fmt.{decimal}
use Rattle.binfarce_words.specs.Named.{IsNearest}
use Rattle.binfarce_words.specs.Words as words
use Rattle.binfarce_words.specs.Words.{commands, command_name, flags_of, flag_name}
use Rattle.binfarce_words.specs.declared.call.Call.{Call}
use Rattle.binfarce_words.specs.declared.call.Call.TheVariants as calls
use Rattle.binfarce_words.specs.declared.argument.Argument.{Argument}
use Rattle.binfarce_words.specs.declared.argument.Argument.TheVariants as arguments
use Rattle.binfarce_words.specs.declared.given.Arguments.{Arguments}
use Rattle.binfarce_words.specs.declared.reading.Reading.{Reading}
use Rattle.binfarce_words.specs.declared.takes.Limit.{Limit}
use Rattle.binfarce_words.specs.declared.takes.Limit.TheVariants.{Bytes, Percent}
use Rattle.binfarce_words.specs.declared.wrong.Wrong.{Wrong}
use Rattle.binfarce_words.specs.declared.wrong.Wrong.TheVariants.{NoCommand, UnknownCommand, UnknownOption, NoValue, Exclusive, Needs, NotEach, NoAddress, NotMaps, BadValue, OnlyFunctions, OnlyGrowth, NoFile, NoSecondFile, TooMany, BytesAsJson, NotUtf8, OutOfMemory}

-- the printed words of a limit
abbrev pub limit_words : Limit → List ℕ
limit_words (Bytes most) = decimal most
limit_words (Percent most) = decimal most ++ codes "%"

abbrev pub argument_view : Argument → words.Argument
argument_view (arguments.Text word) = words.utf8 word.now
argument_view (arguments.NotUtf8 at) = words.no_utf8 at

abbrev pub given_view : Arguments → words.Arguments
given_view g = record { options = map (λ it. (it.0, it.1.now)) g.options.items; operands = map argument_view g.operands.items }

abbrev pub reading_view : Reading → words.Reading
reading_view r = record { given = given_view r.given; waiting = r.waiting; are_operands = r.are_operands }

abbrev pub call_view : Call → words.Call
call_view (calls.Help topic) = words.show_help topic
call_view calls.Version = words.show_version
call_view (calls.Run command given) = words.run command (given_view given)

-- the printed words of a wrong call
abbrev pub wrong_words : Wrong → List ℕ
wrong_words NoCommand = codes "no command; binfarce --help shows them"
wrong_words (UnknownCommand word None) = codes "no command " ++ (word.now ++ codes "; binfarce --help shows them")
wrong_words (UnknownCommand word (Some near)) = codes "no command " ++ (word.now ++ (codes "; the nearest is " ++ command_name near))
wrong_words (UnknownOption command word None) =
    codes "no option " ++ (word.now ++ (codes " of " ++ (command_name command ++ (codes "; binfarce " ++ (command_name command ++ codes " --help shows them")))))
wrong_words (UnknownOption command word (Some near)) =
    codes "no option " ++ (word.now ++ (codes " of " ++ (command_name command ++ (codes "; the nearest is " ++ flag_name near))))
wrong_words (NoValue flag) = flag_name flag ++ codes " has no value"
wrong_words (Exclusive one other) = flag_name one ++ (codes " and " ++ (flag_name other ++ codes " exclude each other"))
wrong_words (Needs one other) = flag_name one ++ (codes " needs " ++ flag_name other)
wrong_words (NotEach flag) = flag_name flag ++ codes " comes once for each file, in their order, or not at all"
wrong_words (NoAddress word) = codes "not an address: " ++ word.now
wrong_words (NotMaps path) = codes "no line of " ++ (path.now ++ codes " is one of /proc/PID/maps")
wrong_words (BadValue flag word) = flag_name flag ++ (codes " takes " ++ (words.values_of (words.form_of flag).2 ++ (codes ", and not " ++ word.now)))
wrong_words (OnlyFunctions flag) = flag_name flag ++ codes " goes with --by=function-section, and not with --by=section"
wrong_words (OnlyGrowth word) = codes "--fail-above=" ++ (word.now ++ codes " is for diff; size takes a number of bytes")
wrong_words (NoFile command) = codes "no file; binfarce " ++ (command_name command ++ codes " --help shows how it is called")
wrong_words NoSecondFile = codes "diff compares two files, and has one"
wrong_words (TooMany word) = codes "one argument too many: " ++ word.now
wrong_words BytesAsJson = codes "--json lists sections, and has no form for the bytes of one"
wrong_words (NotUtf8 at) = codes "argument " ++ (decimal at ++ codes " is not UTF-8")
wrong_words OutOfMemory = codes "out of memory"

-- why a call is wrong, without the nearest name
abbrev pub wrong_view : Wrong → words.Wrong
wrong_view NoCommand = words.no_command
wrong_view (UnknownCommand word nearest) = words.unknown_command word.now
wrong_view (UnknownOption command word nearest) = words.unknown_option command word.now
wrong_view (NoValue flag) = words.no_value flag
wrong_view (Exclusive one other) = words.exclusive one other
wrong_view (Needs one other) = words.needs one other
wrong_view (NotEach flag) = words.not_each flag
wrong_view (NoAddress word) = words.no_address word.now
wrong_view (NotMaps path) = words.not_maps path.now
wrong_view (BadValue flag word) = words.not_taken flag word.now
wrong_view (OnlyFunctions flag) = words.only_functions flag
wrong_view (OnlyGrowth word) = words.only_growth word.now
wrong_view (NoFile command) = words.no_file command
wrong_view NoSecondFile = words.no_second_file
wrong_view (TooMany word) = words.too_many word.now
wrong_view BytesAsJson = words.bytes_as_json
wrong_view (NotUtf8 at) = words.not_utf8 at
wrong_view OutOfMemory = words.no_memory

-- an unknown name comes with the nearest one
abbrev pub HasNearest : Wrong → Type 0
HasNearest (UnknownCommand word nearest) = IsNearest command_name commands word.now 0 nearest
HasNearest (UnknownOption command word nearest) = IsNearest flag_name (flags_of command) word.now 2 nearest
HasNearest wrong = Unit {0}

-- an allocation failed, or the answer is that the call is wrong for this reason
abbrev pub IsWrong : {X : Type 0} → Result X words.Wrong → Wrong → Type 0
IsWrong answer e = (e ≡ OutOfMemory) ⊎ ((answer ≡ Err (wrong_view e)) × HasNearest e)

-- the result for this answer
abbrev pub Gives : {T X : Type 0} → (T → X) → Result X words.Wrong → Result T Wrong → Type 0
Gives view answer (Ok x) = answer ≡ Ok (view x)
Gives view answer (Err e) = IsWrong answer e

-- a value after a call that changes it to this answer
abbrev pub Changes : {T X : Type 0} → (T → X) → Result X words.Wrong → T → Result (Unit {0}) Wrong → Type 0
Changes view answer new (Ok x) = answer ≡ Ok (view new)
Changes view answer new (Err e) = IsWrong answer e

-- the result for a call that was read, of which an argument isn't UTF-8, the first one at this position
abbrev pub IsChecked : (at : ℕ) → (read result : Result Call Wrong) → Type 0
IsChecked at read result = (call : Result words.Call words.Wrong) → Gives call_view call read → Gives call_view (words.utf8_checked (Some at) call) result
