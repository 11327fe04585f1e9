-- The results of the exports for names.
use Rattle.std.specs.Prelude.{◌≡◌, ◌⊎◌, ℕ, List, [], Option, Some, None, Bool, true, false, length}
use Rattle.std.specs.Ptr.{null_ptr}
use Rattle.std.specs.Str.{IsUtf8}
use Rattle.binfarce.specs.Crates.{crate_of}
use Rattle.binfarce.specs.Name.{Name, Mangled}
use Rattle.binfarce.specs.Named.{IsNamed, IsMangled}
use Rattle.binfarce_names.specs.declared.demangle.Kind.{Kind}
use Rattle.binfarce_names.specs.declared.demangle.Kind.TheVariants.{Unknown, Legacy, V0}
use Rattle.binfarce_c.specs.declared.buffer.Text.{Text}
use Rattle.binfarce_c.specs.declared.names.Mangling.{Mangling}
use Rattle.binfarce_c.specs.declared.names.SymbolName.{SymbolName}
use Rattle.binfarce_c.specs.Buffer.{put, PointsTo}
use Rattle.binfarce_c.specs.Status.{ok, none, not_utf8, no_memory, number_of}

-- no text, for this reason
abbrev pub no_text : (status : ℕ) → Text
no_text status = record { status = status; detail = 0; length = 0 }

-- the text was given: its whole length, and as much of it as the buffer has room for
abbrev pub Holds : (old : List ℕ) (new : List ℕ) (text : List ℕ) (given : Text) → Type 0
Holds old new text given = (given ≡ record { status = ok; detail = 0; length = length text }) × (new ≡ put old text)

-- no text was given, and the buffer is unchanged
abbrev pub HoldsNone : (status : ℕ) (old : List ℕ) (new : List ℕ) (given : Text) → Type 0
HoldsNone status old new given = (given ≡ no_text status) × (new ≡ old)

-- the text was given, or there is none
abbrev pub HoldsSome : (old : List ℕ) (new : List ℕ) (text : Option (List ℕ)) (given : Text) → Type 0
HoldsSome old new (Some text) given = Holds old new text given
HoldsSome old new None given = HoldsNone none old new given

-- a name that isn't UTF-8 is refused; for any other, `Gives` holds of an answer of the name, or an allocation failed
abbrev pub OfName : (Gives : Name → Type 0) (Refuses : ℕ → Type 0) (name : List ℕ) → Type 0
OfName Gives Refuses name =
    ((¬ (IsUtf8 name)) × Refuses not_utf8)
    ⊎ (IsUtf8 name × (Refuses no_memory ⊎ ((answer : Name) × IsNamed name answer × Gives answer)))

-- `binfarce_trimmed`
unfoldable pub Trims : (name : List ℕ) (old : List ℕ) (new : List ℕ) (given : Text) → Type 0
Trims name old new given = OfName (λ n. Holds old new n.trimmed given) (λ status. HoldsNone status old new given) name

-- `binfarce_crate_of`
unfoldable pub GivesCrate : (name : List ℕ) (old : List ℕ) (new : List ℕ) (given : Text) → Type 0
GivesCrate name old new given = OfName (λ n. HoldsSome old new (crate_of n) given) (λ status. HoldsNone status old new given) name

-- `enum binfarce_kind`
abbrev pub kind_number : Kind → ℕ
kind_number Unknown = 0
kind_number Legacy = 1
kind_number V0 = 2

-- the text, or an empty one if there is none
abbrev pub text_or_none : Option (List ℕ) → List ℕ
text_or_none (Some text) = text
text_or_none None = []

abbrev pub is_there : Option (List ℕ) → Bool
is_there (Some text) = true
is_there None = false

-- the three texts of an answer, each with its whole length, and as much of it as its buffer has room for
pub record HoldsName (complete : List ℕ) (complete' : List ℕ) (trimmed : List ℕ) (trimmed' : List ℕ) (crate_name : List ℕ) (crate_name' : List ℕ) (given : SymbolName) (answer : Name) : Type 0 where
  pub given_is : given ≡ record {
    status = ok;
    kind = kind_number answer.kind;
    complete_length = length answer.complete;
    trimmed_length = length answer.trimmed;
    crate_length = length (text_or_none answer.crate_name);
    has_crate = number_of (is_there answer.crate_name);
  }
  pub complete_is : complete' ≡ put complete answer.complete
  pub trimmed_is : trimmed' ≡ put trimmed answer.trimmed
  pub crate_is : crate_name' ≡ put crate_name (text_or_none answer.crate_name)

-- no name, for this reason
abbrev pub no_name : (status : ℕ) → SymbolName
no_name status = record { status = status; kind = 0; complete_length = 0; trimmed_length = 0; crate_length = 0; has_crate = 0 }

-- no name was given, and the buffers are unchanged
pub record HoldsNoName (complete : List ℕ) (complete' : List ℕ) (trimmed : List ℕ) (trimmed' : List ℕ) (crate_name : List ℕ) (crate_name' : List ℕ) (given : SymbolName) (status : ℕ) : Type 0 where
  pub given_is : given ≡ no_name status
  pub complete_stays : complete' ≡ complete
  pub trimmed_stays : trimmed' ≡ trimmed
  pub crate_stays : crate_name' ≡ crate_name

-- `binfarce_demangle`: the old and the new content of each buffer
unfoldable pub Demangles : (name : List ℕ) (complete : List ℕ) (complete' : List ℕ) (trimmed : List ℕ) (trimmed' : List ℕ) (crate_name : List ℕ) (crate_name' : List ℕ) (given : SymbolName) → Type 0
Demangles name complete complete' trimmed trimmed' crate_name crate_name' given =
    OfName (HoldsName complete complete' trimmed trimmed' crate_name crate_name' given) (HoldsNoName complete complete' trimmed trimmed' crate_name crate_name' given) name

-- `struct binfarce_mangling` holds how a name is mangled, and the part of it that is kept
pub record HoldsMangling (answer : Mangled) (mangling : Mangling) : Type 0 where
  pub part : PointsTo answer.part mangling.part
  pub part_length : mangling.part_length ≡ length answer.part
  pub kind : mangling.kind ≡ kind_number answer.kind

-- no mangling: all of its fields are 0
abbrev pub no_mangling : Mangling
no_mangling = record { part = null_ptr; part_length = 0; kind = 0 }

-- `binfarce_mangling`: a name that isn't UTF-8 is refused
unfoldable pub GivesMangling : (name : List ℕ) (new : Mangling) (status : ℕ) → Type 0
GivesMangling name new status =
    ((¬ (IsUtf8 name)) × (status ≡ not_utf8) × (new ≡ no_mangling))
    ⊎ (IsUtf8 name × (status ≡ ok) × ((answer : Mangled) × IsMangled name answer × HoldsMangling answer new))
