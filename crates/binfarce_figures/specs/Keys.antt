-- The key that a function symbol is counted for.
use Rattle.std.specs.Prelude.{◌≡◌, ◌⊎◌, ℕ, Bool, true, false, List, [], ◌∷◌, Option, Some, None, codes, encode_utf8_all, reverse, unwrap_or, if◌then◌else◌}
use Rattle.std.specs.List.{list_any}
use Rattle.std.specs.Str.{bytes_eq, chars}
use Rattle.binfarce.specs.SectionEntries.{SectionEntry}
use Rattle.binfarce_names.specs.Crates.{crate_of, first_part}
use Rattle.binfarce_names.specs.Name.{Name}
use Rattle.binfarce_names.specs.Named.{IsNamed}
use Rattle.binfarce_names.specs.declared.demangle.Kind.{Kind}
use Rattle.binfarce_names.specs.declared.demangle.Kind.TheVariants.{Legacy}
use Rattle.binfarce_tools.specs.SelectedTexts.{section_text}
use Rattle.binfarce_tools.specs.Report.{unknown_crate}
use Rattle.binfarce_figures.specs.declared.key.Grouping.{Grouping}
use Rattle.binfarce_figures.specs.declared.key.Key.{Key}
use Rattle.binfarce_figures.specs.declared.key.Key.TheVariants.{Crate, Function, Generic, Module, Section, Stack}
use Rattle.binfarce_figures.specs.declared.generic.Shape.TheVariants as shapes
use Rattle.binfarce_figures.specs.Generic.{is_of_name, rewritten}
use Rattle.binfarce_figures.specs.Modules.{module_of}
use Rattle.binfarce_figures.specs.Stacks.{stack}

-- the crates of Rust's standard library that no other program has: no package can have their names, or none does
abbrev pub std_crates : List (List ℕ)
std_crates =
    codes "std" ∷ codes "core" ∷ codes "alloc" ∷ codes "proc_macro" ∷ codes "test" ∷ codes "std_detect" ∷ codes "compiler_builtins" ∷ codes "unwind"
    ∷ codes "panic_abort" ∷ codes "panic_unwind" ∷ codes "rustc_std_workspace_core" ∷ codes "rustc_std_workspace_alloc"
    ∷ codes "rustc_std_workspace_std" ∷ []

abbrev pub is_std : (crate_name : List ℕ) → Bool
is_std crate_name = list_any (bytes_eq crate_name) std_crates

-- the characters of a name that come first
abbrev pub name_front : List ℕ → List ℕ
name_front [] = []
name_front (c ∷ others) = if is_of_name c then c ∷ name_front others else []

-- the name that a text ends with
abbrev pub last_name : (text : List ℕ) → List ℕ
last_name text = reverse (name_front (reverse text))

-- the name right before the first `::` of a path. Of one that begins with a type or a trait it is the crate of the first path in there: in `<&mut [a::T] as
-- b::C>::d` it is `a`, and in `<&T as b::C>::d`, whose type is in no crate, `b`
abbrev pub inner_crate : (path : List ℕ) → List ℕ
inner_crate path = encode_utf8_all (last_name (chars (first_part path)))

-- so for a name of this kind with this path: names of other kinds have no crate there
abbrev pub inner_crate_of : (kind : Kind) (path : List ℕ) → List ℕ
inner_crate_of Legacy path = inner_crate path
inner_crate_of kind path = []

-- a crate's name, if it has one
abbrev pub or_unknown : (crate_name : List ℕ) → List ℕ
or_unknown [] = unknown_crate
or_unknown (c ∷ others) = c ∷ others

-- the crate that a name is counted for: its own, or that of the type or trait that it begins with
abbrev pub counted_crate : Name → List ℕ
counted_crate name = unwrap_or (crate_of name) (or_unknown (inner_crate_of name.kind name.trimmed))

-- text is the name of the crate that a function of this stored name is counted for
abbrev pub IsCrateOf : (stored text : List ℕ) → Type 0
IsCrateOf stored text = (name : Name) × IsNamed stored name × (text ≡ counted_crate name)

-- text is the trimmed text of a stored name
abbrev pub IsTrimmedOf : (stored text : List ℕ) → Type 0
IsTrimmedOf stored text = (name : Name) × IsNamed stored name × (text ≡ name.trimmed)

-- the keys of sections, by their numbers: their names, where all sections are summed, which have no size; one section is `text`, as its size is in a report
abbrev pub section_keys : (names : ℕ → Option (List ℕ)) → (size : Option ℕ) → ℕ → List ℕ
section_keys names None number = section_text (names number) number
section_keys names (Some size) number = codes "text"

-- text is the key of an entry, if these are the keys of the sections
abbrev pub IsOwnKey : Key → (ℕ → List ℕ) → SectionEntry → (text : List ℕ) → Type 0
IsOwnKey Crate sections e text = IsCrateOf e.entry.name text
IsOwnKey Module sections e text = (crate_name : List ℕ) × (trimmed : List ℕ) × IsCrateOf e.entry.name crate_name × IsTrimmedOf e.entry.name trimmed × (text ≡ module_of crate_name trimmed)
IsOwnKey Function sections e text = IsTrimmedOf e.entry.name text
IsOwnKey Generic sections e text = (trimmed : List ℕ) × IsTrimmedOf e.entry.name trimmed × (text ≡ rewritten shapes.Generic trimmed)
IsOwnKey Section sections e text = text ≡ sections e.section
IsOwnKey Stack sections e text = (crate_name : List ℕ) × (trimmed : List ℕ) × IsCrateOf e.entry.name crate_name × IsTrimmedOf e.entry.name trimmed × (text ≡ stack crate_name trimmed)

-- so where the functions of Rust's standard library are counted for `[std]`
abbrev pub IsJoinedKey : (joins_std : Bool) → Key → (ℕ → List ℕ) → SectionEntry → (text : List ℕ) → Type 0
IsJoinedKey false key sections e text = IsOwnKey key sections e text
IsJoinedKey true key sections e text =
    (crate_name : List ℕ) × IsCrateOf e.entry.name crate_name × (((is_std crate_name ≡ true) × (text ≡ codes "[std]")) ⊎ ((is_std crate_name ≡ false) × IsOwnKey key sections e text))

abbrev pub IsKeyOf : Grouping → (ℕ → List ℕ) → SectionEntry → (text : List ℕ) → Type 0
IsKeyOf grouping sections e text = IsJoinedKey grouping.joins_std grouping.key sections e text
