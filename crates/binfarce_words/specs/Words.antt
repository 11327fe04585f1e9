-- The call that the arguments mean: `COMMAND [OPTION..] [OPERAND..]`.
use Rattle.std.specs.Prelude.{◌==◌, count_by, ◌^◌, ◌%◌, ◌-◌, ◌*◌, ◌++◌, ◌&&◌, ◌||◌, ℕ, Bool, true, false, not, List, [], ◌∷◌, codes, drop, take, find, map, reverse, length, nat_eq, nat_lt, suc, slice_get, slice_index, Option, Some, None, is_some, Result, Ok, Err, if◌then◌else◌}
use Rattle.std.specs.Char.{digit_value}
use Rattle.std.specs.Fmt.{decimal}
use Rattle.std.specs.Option.{option_map, option_and_then}
use Rattle.std.specs.List.{filter, filter_map, list_all, starts_with, ends_with, position_or_len, before_first, after_first}
use Rattle.std.specs.Str.{byte, bytes_eq}
use Rattle.std.specs.Str.Parse.{digits_value, without_leading_plus}
use Rattle.binfarce_rows.specs.Address.{address_of}
use Rattle.binfarce_words.specs.declared.command.Command.{Command}
use Rattle.binfarce_words.specs.declared.command.Command.TheVariants.{List as Listing, Size, Map, Diff, Filter, At, Section}
use Rattle.binfarce_words.specs.declared.flag.Flag.{Flag}
use Rattle.binfarce_words.specs.declared.flag.Flag.TheVariants as flags
use Rattle.binfarce_words.specs.declared.takes.Takes.{Takes}
use Rattle.binfarce_words.specs.declared.takes.Limit.{Limit}
use Rattle.binfarce_words.specs.declared.takes.Limit.TheVariants.{Bytes, Percent}
use Rattle.binfarce_words.specs.declared.takes.Takes.TheVariants.{Nothing, Text, Page, Count, Limit as TakesLimit, Order as TakesOrder, Key as TakesKey}
use Rattle.binfarce_words.specs.declared.takes.Key.{Key}
use Rattle.binfarce_words.specs.declared.takes.Key.TheVariants as keys
use Rattle.binfarce_words.specs.declared.takes.Order.{Order}
use Rattle.binfarce_words.specs.declared.takes.Order.TheVariants as orders

-- the commands, and the name of each
abbrev pub commands : List Command
commands = Listing ∷ Size ∷ Map ∷ Diff ∷ Filter ∷ At ∷ Section ∷ []

abbrev pub command_name : Command → List ℕ
command_name Listing = codes "list"
command_name Size = codes "size"
command_name Map = codes "map"
command_name Diff = codes "diff"
command_name Filter = codes "filter"
command_name At = codes "at"
command_name Section = codes "section"

-- the options of a command, first those that not all commands on function symbols have
abbrev pub flags_of : Command → List Flag
flags_of Listing = flags.Sort ∷ flags.First ∷ flags.NoTotal ∷ flags.Raw ∷ flags.Full ∷ flags.Json ∷ flags.Undefined ∷ flags.Section ∷ flags.Dynamic ∷ flags.All ∷ flags.Help ∷ []
flags_of Size = flags.By ∷ flags.First ∷ flags.Percent ∷ flags.Std ∷ flags.Json ∷ flags.FailAbove ∷ flags.Limits ∷ flags.Section ∷ flags.Dynamic ∷ flags.All ∷ flags.Help ∷ []
flags_of Map = flags.First ∷ flags.Std ∷ flags.Folded ∷ flags.Section ∷ flags.Dynamic ∷ flags.All ∷ flags.Help ∷ []
flags_of Diff = flags.By ∷ flags.First ∷ flags.Percent ∷ flags.Std ∷ flags.Json ∷ flags.FailAbove ∷ flags.Limits ∷ flags.Section ∷ flags.Dynamic ∷ flags.All ∷ flags.Help ∷ []
flags_of Filter = flags.Full ∷ flags.Help ∷ []
flags_of At = flags.Return ∷ flags.Annotate ∷ flags.Bare ∷ flags.Base ∷ flags.Maps ∷ flags.Offsets ∷ flags.As ∷ flags.Json ∷ flags.Section ∷ flags.Dynamic ∷ flags.All ∷ flags.Help ∷ []
flags_of Section = flags.Id ∷ flags.Json ∷ flags.Help ∷ []

-- how an option is written: its name, its short name if it has one, and what it takes
abbrev pub form_of : Flag → List ℕ × List ℕ × Takes
form_of flags.Help = (codes "--help", codes "-h", Nothing)
form_of flags.Section = (codes "--section", [], Text)
form_of flags.Full = (codes "--full", [], Nothing)
form_of flags.Base = (codes "--base", [], Page)
form_of flags.Maps = (codes "--maps", [], Text)
form_of flags.As = (codes "--as", [], Text)
form_of flags.Offsets = (codes "--offsets", [], Nothing)
form_of flags.Return = (codes "--return", [], Nothing)
form_of flags.Annotate = (codes "--annotate", [], Nothing)
form_of flags.Bare = (codes "--bare", [], Nothing)
form_of flags.Dynamic = (codes "--dynamic", [], Nothing)
form_of flags.All = (codes "--all", [], Nothing)
form_of flags.Sort = (codes "--sort", [], TakesOrder)
form_of flags.First = (codes "--first", codes "-n", Count)
form_of flags.NoTotal = (codes "--no-total", [], Nothing)
form_of flags.Raw = (codes "--raw", [], Nothing)
form_of flags.By = (codes "--by", [], TakesKey)
form_of flags.Percent = (codes "--percent", [], Nothing)
form_of flags.Std = (codes "--std", [], Nothing)
form_of flags.Json = (codes "--json", [], Nothing)
form_of flags.FailAbove = (codes "--fail-above", [], TakesLimit)
form_of flags.Limits = (codes "--limits", [], Text)
form_of flags.Folded = (codes "--folded", [], Nothing)
form_of flags.Id = (codes "--id", [], Nothing)
form_of flags.Undefined = (codes "--undefined", [], Nothing)

-- the order of lines that a name names
abbrev pub order_named : List ℕ → Option Order
order_named name = if bytes_eq name (codes "address") then Some orders.Address
    else if bytes_eq name (codes "size") then Some orders.Size
    else if bytes_eq name (codes "name") then Some orders.Name
    else None

-- the key of sums that a name names
abbrev pub key_named : List ℕ → Option Key
key_named name = if bytes_eq name (codes "crate") then Some keys.Crate
    else if bytes_eq name (codes "function") then Some keys.Function
    else if bytes_eq name (codes "function-section") then Some keys.Section
    else if bytes_eq name (codes "generic") then Some keys.Generic
    else if bytes_eq name (codes "module") then Some keys.Module
    else if bytes_eq name (codes "section") then Some keys.Section
    else None

abbrev pub flag_name : Flag → List ℕ
flag_name flag = (form_of flag).0

-- an argument: a text in UTF-8; or one that isn't UTF-8, at this position, from 1 on
pub data Argument : Type 0 where
  utf8 : (word : List ℕ) → Argument
  no_utf8 : (at : ℕ) → Argument

-- the argument at this position that has this text; or none, since it isn't UTF-8
abbrev pub argument_of : (at : ℕ) → (text : Option (List ℕ)) → Argument
argument_of at (Some word) = utf8 word
argument_of at None = no_utf8 at

-- the arguments with these texts, from this position on
abbrev pub arguments_from : (at : ℕ) → (texts : List (Option (List ℕ))) → List Argument
arguments_from at [] = []
arguments_from at (text ∷ others) = argument_of at text ∷ arguments_from (suc at) others

-- the text of an argument, if it has one
abbrev pub text_of : Argument → Option (List ℕ)
text_of (utf8 word) = Some word
text_of (no_utf8 at) = None

-- the name of an argument in messages: its text, or its position
abbrev pub name_of : Argument → List ℕ
name_of (utf8 word) = word
name_of (no_utf8 at) = codes "argument " ++ decimal at

-- the position of the first argument that isn't UTF-8
abbrev pub first_no_utf8 : List Argument → Option ℕ
first_no_utf8 [] = None
first_no_utf8 (utf8 word ∷ others) = first_no_utf8 others
first_no_utf8 (no_utf8 at ∷ others) = Some at

-- why a call is wrong; `not_maps`, where its file of maps is; the last two, where its words can't be taken
pub data Wrong : Type 0 where
  no_command : Wrong
  unknown_command : (word : List ℕ) → Wrong
  unknown_option : (command : Command) (word : List ℕ) → Wrong
  no_value : (flag : Flag) → Wrong
  exclusive : (one other : Flag) → Wrong
  needs : (one other : Flag) → Wrong
  not_each : (flag : Flag) → Wrong
  no_address : (word : List ℕ) → Wrong
  not_maps : (path : List ℕ) → Wrong
  not_taken : (flag : Flag) (word : List ℕ) → Wrong
  only_functions : (flag : Flag) → Wrong
  only_growth : (word : List ℕ) → Wrong
  no_file : (command : Command) → Wrong
  no_second_file : Wrong
  too_many : (word : List ℕ) → Wrong
  bytes_as_json : Wrong
  not_utf8 : (at : ℕ) → Wrong
  no_memory : Wrong

-- steps that end at the first fault
infixl 10 ◌>>=◌
abbrev pub ◌>>=◌ : {A B : Type 0} → Result A Wrong → (A → Result B Wrong) → Result B Wrong
(Ok x) >>= f = f x
(Err wrong) >>= f = Err wrong

-- the value, or else the fault
abbrev pub required : {A : Type 0} → Wrong → Option A → Result A Wrong
required wrong None = Err wrong
required wrong (Some x) = Ok x

-- the text of an argument that has to be one
abbrev pub required_text : Argument → Result (List ℕ) Wrong
required_text (utf8 word) = Ok word
required_text (no_utf8 at) = Err (not_utf8 at)

-- the options with their values, and the other arguments, each in their order
pub record Arguments : Type 0 where
  pub options : List (Flag × List ℕ)
  pub operands : List Argument

-- the text of the operand at a place, from 0 on
abbrev pub operand_at : (at : ℕ) → Arguments → Option (List ℕ)
operand_at at given = option_and_then text_of (slice_get given.operands at)

-- the texts of the operands
abbrev pub operand_texts : Arguments → List (List ℕ)
operand_texts given = filter_map text_of given.operands

-- the value of an option, as it was given last
abbrev pub value_given : Flag → Arguments → Option (List ℕ)
value_given flag given = option_map (λ it. it.1) (find (λ it. bytes_eq (flag_name it.0) (flag_name flag)) (reverse given.options))

-- all values of an option, in their order
abbrev pub values_given : Flag → Arguments → List (List ℕ)
values_given flag given = map (λ it. it.1) (filter (λ it. bytes_eq (flag_name it.0) (flag_name flag)) given.options)

abbrev pub number_in : Option (List ℕ) → Option ℕ
number_in None = None
number_in (Some value) = address_of value

-- the address that is its value
abbrev pub number_given : Flag → Arguments → Option ℕ
number_given flag given = number_in (value_given flag given)

-- the number below 2^64 that decimal digits write, perhaps behind a plus
abbrev pub count_of : (digits : List ℕ) → Option ℕ
count_of digits = if nat_lt 0 (length digits) && (list_all (λ c. nat_lt (digit_value c) 10) digits && nat_lt (digits_value 10 digits) (2 ^ 64)) then Some (digits_value 10 digits) else None

abbrev pub count_in : (value : List ℕ) → Option ℕ
count_in value = count_of (without_leading_plus value)

-- the number that is the option's value
abbrev pub count_given : Flag → Arguments → Option ℕ
count_given flag given = option_and_then count_in (value_given flag given)

-- the unit that a number of bytes ends with, if it does, and how many bytes it has: K and M, in either case, as in linker scripts (GNU ld, "Constants");
-- KiB and MiB, as in IEC 80000-13
abbrev pub unit_of : (value : List ℕ) → List ℕ × ℕ
unit_of value = if ends_with nat_eq value (codes "k") then (codes "k", 1024)
    else if ends_with nat_eq value (codes "K") then (codes "K", 1024)
    else if ends_with nat_eq value (codes "KiB") then (codes "KiB", 1024)
    else if ends_with nat_eq value (codes "m") then (codes "m", 1048576)
    else if ends_with nat_eq value (codes "M") then (codes "M", 1048576)
    else if ends_with nat_eq value (codes "MiB") then (codes "MiB", 1048576)
    else ([], 1)

-- what comes before a unit that a value ends with
abbrev pub before_unit : (unit value : List ℕ) → Option (List ℕ)
before_unit unit value = if ends_with nat_eq value unit then Some (take (length value - length unit) value) else None

-- a number, if it is below 2^64
abbrev pub word : ℕ → Option ℕ
word n = if nat_lt n (2 ^ 64) then Some n else None

-- the number of bytes that a number before a unit is
abbrev pub size_with : (unit : List ℕ × ℕ) → (value : List ℕ) → Option ℕ
size_with unit value = option_and_then (λ number. option_and_then (λ n. word (n * unit.1)) (count_in number)) (before_unit unit.0 value)

-- the number of bytes that a value is
abbrev pub size_in : (value : List ℕ) → Option ℕ
size_in value = size_with (unit_of value) value

-- the limit that a value is: a number of per cent before `%`, or else a number of bytes
abbrev pub limit_in : (value : List ℕ) → Option Limit
limit_in value = if position_or_len (λ b. b == byte "%") value == length value then option_map (λ n. Bytes n) (size_in value)
    else if length (after_first (λ b. b == byte "%") value) == 0 then option_map (λ n. Percent n) (count_in (before_first (λ b. b == byte "%") value))
    else None

-- a limit is a number of per cent
abbrev pub is_percent : Option Limit → Bool
is_percent (Some (Percent n)) = true
is_percent limit = false

abbrev pub is_relative : (value : List ℕ) → Bool
is_relative value = is_percent (limit_in value)

-- the limit that is given
abbrev pub limit_given : Arguments → Option Limit
limit_given given = option_and_then limit_in (value_given flags.FailAbove given)

-- the order that is asked for
abbrev pub order_given : Arguments → Option Order
order_given given = option_and_then order_named (value_given flags.Sort given)

-- the key that is asked for
abbrev pub key_given : Arguments → Option Key
key_given given = option_and_then key_named (value_given flags.By given)

-- the values that an option that takes this takes, in words
abbrev pub values_of : Takes → List ℕ
values_of Nothing = codes "no value"
values_of Text = codes "a text"
values_of Page = codes "the address of a page, a multiple of 0x1000"
values_of Count = codes "a number"
values_of TakesLimit = codes "a number of bytes, also as 600k or 2M, or of per cent as 2%"
values_of TakesOrder = codes "address, size or name"
values_of TakesKey = codes "crate, function, function-section, generic, module or section"

-- an address is that of a page
abbrev pub is_page : Option ℕ → Bool
is_page (Some address) = nat_eq (address % 4096) 0
is_page None = false

-- whether an option that takes this takes the value
abbrev pub is_met_by : Takes → (value : List ℕ) → Bool
is_met_by Nothing value = true
is_met_by Text value = true
is_met_by Page value = is_page (address_of value)
is_met_by Count value = is_some (count_in value)
is_met_by TakesLimit value = is_some (limit_in value)
is_met_by TakesOrder value = is_some (order_named value)
is_met_by TakesKey value = is_some (key_named value)

-- why an option doesn't take the value
abbrev pub bad_value_of : Takes → Flag → (value : List ℕ) → Wrong
bad_value_of Page flag value = if is_some (address_of value) then not_taken flag value else no_address value
bad_value_of takes flag value = not_taken flag value

abbrev pub bad_value : Flag → (value : List ℕ) → Wrong
bad_value flag value = bad_value_of (form_of flag).2 flag value

-- the options with one more, whose value must be what it takes
abbrev pub with_option : Arguments → Flag → (value : List ℕ) → Result Arguments Wrong
with_option given flag value = if is_met_by (form_of flag).2 value
    then Ok (record given { options = given.options ++ (flag, value) ∷ [] })
    else Err (bad_value flag value)

abbrev pub with_operand : Arguments → Argument → Arguments
with_operand given argument = record given { operands = given.operands ++ argument ∷ [] }

-- the state after some arguments: the options and operands, the option whose value comes next, and whether `--` came, after which all are operands
pub record Reading : Type 0 where
  pub given : Arguments
  pub waiting : Option Flag
  pub are_operands : Bool

-- an option begins with `-`, and has more
abbrev pub is_option : List ℕ → Bool
is_option [] = false
is_option (first ∷ []) = false
is_option (first ∷ second ∷ others) = first == byte "-"

-- the value directly after `-n`
abbrev pub after_short : List ℕ → Option (List ℕ)
after_short word = if starts_with nat_eq word (codes "-n") && (nat_lt 2 (length word) && not (nat_eq (slice_index word 2) (byte "="))) then Some (drop 2 word) else None

-- the option and the value of a word: `-n3`; the parts before and after its first `=`; or the word alone
abbrev pub parts_of : List ℕ → List ℕ × Option (List ℕ)
parts_of word = if is_some (after_short word) then (codes "-n", after_short word)
    else if position_or_len (λ b. b == byte "=") word == length word then (word, None)
    else (before_first (λ b. b == byte "=") word, Some (after_first (λ b. b == byte "=") word))

-- an option is written with its name or with its short name
abbrev pub is_named : (name : List ℕ) → Flag → Bool
is_named name flag = bytes_eq (form_of flag).0 name || bytes_eq (form_of flag).1 name

-- the option of a command that is written with this name
abbrev pub flag_named : Command → (word name : List ℕ) → Result Flag Wrong
flag_named command word name = required (unknown_option command word)
    (find (is_named name) (flags_of command))

abbrev pub read_on : Bool → Result Arguments Wrong → Result Reading Wrong
read_on are_operands (Err wrong) = Err wrong
read_on are_operands (Ok given) = Ok (record { given = given; waiting = None; are_operands = are_operands })

-- the reading after an option that takes this, with the value in its word, if there is one
abbrev pub after_option : Command → Arguments → (word : List ℕ) → Flag → Takes → (value : Option (List ℕ)) → Result Reading Wrong
after_option command given word flag Nothing None = read_on false (with_option given flag [])
after_option command given word flag Nothing (Some value) = Err (unknown_option command word)
after_option command given word flag takes (Some value) = read_on false (with_option given flag value)
after_option command given word flag takes None = Ok (record { given = given; waiting = Some flag; are_operands = false })

-- the reading after one word more: the value of the option before, an operand, `--`, or an option
abbrev pub after_waiting : Command → Arguments → Bool → (word : List ℕ) → Option Flag → Result Reading Wrong
after_waiting command given are_operands word (Some flag) = read_on are_operands (with_option given flag word)
after_waiting command given are_operands word None =
    if are_operands || not (is_option word) then read_on are_operands (Ok (with_operand given (utf8 word)))
    else if bytes_eq word (codes "--") then read_on true (Ok given)
    else flag_named command word (parts_of word).0 >>= λ flag. after_option command given word flag (form_of flag).2 (parts_of word).1

unfoldable pub after_word : Command → Reading → List ℕ → Result Reading Wrong
after_word command r word = after_waiting command r.given r.are_operands word r.waiting

-- the reading after one argument more that isn't UTF-8: it is an operand, and no value of an option
abbrev pub after_no_utf8 : Reading → (at : ℕ) → (waiting : Option Flag) → Result Reading Wrong
after_no_utf8 r at (Some flag) = Err (not_utf8 at)
after_no_utf8 r at None = Ok (record r { given = with_operand r.given (no_utf8 at) })

-- the reading after one argument more
abbrev pub after_argument : Command → Reading → Argument → Result Reading Wrong
after_argument command r (utf8 word) = after_word command r word
after_argument command r (no_utf8 at) = after_no_utf8 r at r.waiting

-- the options and operands after all arguments
abbrev pub finished : Arguments → Option Flag → Result Arguments Wrong
finished given None = Ok given
finished given (Some flag) = Err (no_value flag)

abbrev pub go_on : (Reading → Result Arguments Wrong) → Result Reading Wrong → Result Arguments Wrong
go_on others (Err wrong) = Err wrong
go_on others (Ok next) = others next

-- the options and operands after these further arguments
unfoldable pub given_after : Command → Reading → List Argument → Result Arguments Wrong
given_after command r [] = finished r.given r.waiting
given_after command r (argument ∷ others) = go_on (λ next. given_after command next others) (after_argument command r argument)

-- nothing was read
abbrev pub begun : Reading
begun = record { given = record { options = []; operands = [] }; waiting = None; are_operands = false }

-- the options and operands of the arguments after a command
abbrev pub given_of : Command → List Argument → Result Arguments Wrong
given_of command arguments = given_after command begun arguments

-- a call
pub data Call : Type 0 where
  show_help : (topic : Option Command) → Call
  show_version : Call
  run : (command : Command) (given : Arguments) → Call

-- the command of this name
abbrev pub command_named : List ℕ → Result Command Wrong
command_named word = required (unknown_command word) (find (λ command. bytes_eq (command_name command) word) commands)

abbrev pub asks_help : List ℕ → Bool
asks_help word = bytes_eq word (codes "help") || (bytes_eq word (codes "--help") || bytes_eq word (codes "-h"))

abbrev pub asks_version : List ℕ → Bool
asks_version word = bytes_eq word (codes "--version") || bytes_eq word (codes "-V")

-- `help`, and the command that it is about, if one is named
abbrev pub help_call : List Argument → Result Call Wrong
help_call [] = Ok (show_help None)
help_call (topic ∷ others) = required_text topic >>= λ word. command_named word >>= λ command. Ok (show_help (Some command))

-- a call with this argument has one too many
abbrev pub exceeded : (more : Argument) → Result (Unit {0}) Wrong
exceeded more = required_text more >>= λ word. Err (too_many word)

-- the operands of a command: it needs a file, or it takes no more than two; those of `section --id` are all files
abbrev pub operands_checked : Command → (has_id : Bool) → List Argument → Result (Unit {0}) Wrong
operands_checked Filter has_id operands = Ok tt
operands_checked command has_id [] = Err (no_file command)
operands_checked Diff has_id (file ∷ []) = Err no_second_file
operands_checked Diff has_id (old ∷ new ∷ more ∷ others) = exceeded more
operands_checked Section false (file ∷ section ∷ more ∷ others) = exceeded more
operands_checked Map has_id (file ∷ more ∷ others) = exceeded more
operands_checked command has_id operands = Ok tt

-- how often an option is given
abbrev pub times_given : Flag → Arguments → ℕ
times_given flag given = count_by (λ it. bytes_eq (flag_name it.0) (flag_name flag)) given.options

-- an option that is given for each of several files comes as often as there are files, or not at all
abbrev pub is_each : Flag → Arguments → Bool
is_each flag given = nat_lt (length given.operands) 2 || (nat_eq (times_given flag given) 0 || nat_eq (times_given flag given) (length given.operands))

-- both options are given
abbrev pub are_given : (one other : Flag) → Arguments → Bool
are_given one other given = is_some (value_given one given) && is_some (value_given other given)

-- the bytes of a section are asked for
abbrev pub is_of_bytes : Command → Arguments → Bool
is_of_bytes Section given = not (is_some (value_given flags.Id given)) && nat_eq (length given.operands) 2
is_of_bytes command given = false

-- the bytes of sections are summed
abbrev pub is_section : Option (List ℕ) → Bool
is_section (Some value) = bytes_eq value (codes "section")
is_section None = false

abbrev pub is_by_section : Arguments → Bool
is_by_section given = is_section (value_given flags.By given)

-- the first of these options that is given
abbrev pub first_given : List Flag → Arguments → Option Flag
first_given options given = find (λ flag. is_some (value_given flag given)) options

-- the options that function symbols alone have, and not what a file needs
abbrev pub options_of_symbols : List Flag
options_of_symbols = flags.Sort ∷ flags.First ∷ flags.NoTotal ∷ flags.Section ∷ flags.Dynamic ∷ flags.All ∷ []

-- the first of them that is given
abbrev pub of_symbols : Arguments → Option Flag
of_symbols given = first_given options_of_symbols given

-- such an option is wrong beside `--undefined`
abbrev pub alone : Option Flag → Result (Unit {0}) Wrong
alone None = Ok tt
alone (Some flag) = Err (exclusive flags.Undefined flag)

abbrev pub undefined_checked : Arguments → Result (Unit {0}) Wrong
undefined_checked given = if is_some (value_given flags.Undefined given) then alone (of_symbols given) else Ok tt

-- the options of a command that only sums of functions have
abbrev pub options_of_functions : Command → List Flag
options_of_functions Size = flags.Std ∷ flags.Section ∷ flags.Dynamic ∷ flags.All ∷ flags.Percent ∷ []
options_of_functions command = flags.Std ∷ flags.Section ∷ flags.Dynamic ∷ flags.All ∷ []

-- the first of them that is given
abbrev pub of_functions : Command → Arguments → Option Flag
of_functions command given = first_given (options_of_functions command) given

-- such an option is wrong where sections are summed
abbrev pub functions_checked : (by_section : Bool) → Option Flag → Result (Unit {0}) Wrong
functions_checked true (Some flag) = Err (only_functions flag)
functions_checked by_section flag = Ok tt

-- a limit of one file's sum is a number of bytes
abbrev pub limit_checked : Command → (limit : Option (List ℕ)) → Result (Unit {0}) Wrong
limit_checked Size (Some value) = if is_relative value then Err (only_growth value) else Ok tt
limit_checked command limit = Ok tt

-- how sums are asked for is checked: stacks are whole, sections have no options of functions, and one file's sum has no limit on growth
abbrev pub sums_checked : Command → Arguments → Result (Unit {0}) Wrong
sums_checked command given = if are_given flags.Folded flags.First given then Err (exclusive flags.Folded flags.First)
    else functions_checked (is_by_section given) (of_functions command given) >>= λ x. limit_checked command (value_given flags.FailAbove given)

-- what is given is checked: no two options that exclude each other, none without one that it needs, no bytes as JSON; of files whose addresses are in one text each has a base and a name, or none has; what files need; sums; the operands
abbrev pub checked : Command → Arguments → Result (Unit {0}) Wrong
checked command given = if are_given flags.All flags.Section given then Err (exclusive flags.All flags.Section)
    else if are_given flags.Raw flags.Full given then Err (exclusive flags.Raw flags.Full)
    else if are_given flags.Annotate flags.Json given then Err (exclusive flags.Annotate flags.Json)
    else if is_of_bytes command given && is_some (value_given flags.Json given) then Err bytes_as_json
    else if are_given flags.Base flags.Maps given then Err (exclusive flags.Base flags.Maps)
    else if are_given flags.Base flags.Offsets given then Err (exclusive flags.Base flags.Offsets)
    else if are_given flags.Maps flags.Offsets given then Err (exclusive flags.Maps flags.Offsets)
    else if is_some (value_given flags.Bare given) && not (is_some (value_given flags.Annotate given)) then Err (needs flags.Bare flags.Annotate)
    else if is_some (value_given flags.Annotate given) && not (is_each flags.Base given) then Err (not_each flags.Base)
    else if is_some (value_given flags.Annotate given) && not (is_each flags.As given) then Err (not_each flags.As)
    else undefined_checked given >>= λ x. sums_checked command given >>= λ x. operands_checked command (is_some (value_given flags.Id given)) given.operands

-- the command, or help on it, if that is requested
abbrev pub call_with : Command → Arguments → Result Call Wrong
call_with command given = if is_some (value_given flags.Help given) then Ok (show_help (Some command))
    else checked command given >>= λ x. Ok (run command given)

-- the call of a program with this first word, and these others
abbrev pub call_of_word : (word : List ℕ) → (others : List Argument) → Result Call Wrong
call_of_word word others = if asks_help word then help_call others
    else if asks_version word then Ok show_version
    else command_named word >>= λ command. given_of command others >>= λ given. call_with command given

-- the call that the arguments mean, if an argument that isn't UTF-8 may be an operand of any command
abbrev pub call_read : List Argument → Result Call Wrong
call_read [] = Err no_command
call_read (first ∷ others) = required_text first >>= λ word. call_of_word word others

-- a call that goes on with its other files where the name of one isn't UTF-8: one of `list` or `size`
abbrev pub goes_on : Call → Bool
goes_on (run Listing given) = true
goes_on (run Size given) = true
goes_on call = false

-- an argument that isn't UTF-8, the first one at this position, makes any other call wrong, which is said before what else is wrong
abbrev pub utf8_checked : (first : Option ℕ) → Result Call Wrong → Result Call Wrong
utf8_checked None call = call
utf8_checked (Some at) (Ok call) = if goes_on call then Ok call else Err (not_utf8 at)
utf8_checked (Some at) (Err wrong) = Err (not_utf8 at)

-- the call that the arguments mean, or why they are wrong
abbrev pub call_of : List Argument → Result Call Wrong
call_of arguments = utf8_checked (first_no_utf8 arguments) (call_read arguments)
