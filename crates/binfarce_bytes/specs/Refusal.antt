-- Why a file can't be read, as data, and the text that is printed.
use Rattle.std.specs.Prelude.{◌≡◌, ℕ, ◌+◌, ◌^◌, List, ◌++◌, length, codes, Option, Some, None, Result, Ok, Err, nat_le, nat_lt, if◌then◌else◌}
use Rattle.std.specs.Fmt.{decimal}
use Rattle.binfarce_bytes.specs.Number.{bytes_at}
use Rattle.binfarce_bytes.specs.declared.error.ParseError.{ParseError}
use Rattle.binfarce_bytes.specs.declared.error.ParseError.TheVariants.{SymbolsSectionIsMissing, SectionIsMissing, UnexpectedSectionType, MalformedInput, UnexpectedEof, OutOfMemory}

pub data Refusal : Type 0 where
  symbols_section_is_missing : Refusal
  section_is_missing : List ℕ → Refusal
  unexpected_section_type : ℕ → ℕ → Refusal
  malformed_input : Refusal
  unexpected_eof : Refusal
  out_of_memory : Refusal

-- a `ParseError` as a refusal
abbrev pub refusal_of : ParseError → Refusal
refusal_of SymbolsSectionIsMissing = symbols_section_is_missing
refusal_of (SectionIsMissing name) = section_is_missing name.now
refusal_of (UnexpectedSectionType expected actual) = unexpected_section_type expected actual
refusal_of MalformedInput = malformed_input
refusal_of UnexpectedEof = unexpected_eof
refusal_of OutOfMemory = out_of_memory

-- the printed text
abbrev pub words : Refusal → List ℕ
words symbols_section_is_missing = codes "symbols section is missing"
words (section_is_missing name) = codes "section " ++ (name ++ codes " is missing")
words (unexpected_section_type expected actual) = codes "expected section type " ++ (decimal expected ++ (codes " but found " ++ decimal actual))
words malformed_input = codes "malformed input file"
words unexpected_eof = codes "unexpected end of file"
words out_of_memory = codes "out of memory"

-- steps that end at the first refusal, for `do`
infixl 10 ◌>>=◌
abbrev pub ◌>>=◌ : {A B : Type 0} → Result A Refusal → (A → Result B Refusal) → Result B Refusal
(Ok x) >>= f = f x
(Err r) >>= f = Err r

-- the value, or else the refusal
abbrev pub required : {A : Type 0} → Refusal → Option A → Result A Refusal
required refusal None = Err refusal
required refusal (Some x) = Ok x

-- a call returned the answer: its value through view, its error through why
abbrev pub Gives : {X Y E : Type 0} → (E → Refusal) → (X → Y) → Result Y Refusal → Result X E → Type 0
Gives why view answer (Ok x) = answer ≡ Ok (view x)
Gives why view answer (Err e) = answer ≡ Err (why e)

-- the answer of a file that has this many bytes; a shorter one is truncated
abbrev pub if_as_long_as : {A : Type 0} → ℕ → List ℕ → Result A Refusal → Result A Refusal
if_as_long_as least file answer = if nat_lt (length file) least then Err unexpected_eof else answer

-- the bytes of a section: their end has to be below 2^64, and to lie in the file
unfoldable pub bytes_in_file : List ℕ → ℕ → ℕ → Result (List ℕ) Refusal
bytes_in_file file offset size =
    if nat_le (2 ^ 64) (offset + size) then Err malformed_input
    else if_as_long_as (offset + size) file (Ok (bytes_at file offset size))
