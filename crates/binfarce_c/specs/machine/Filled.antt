-- A caller's array while sections are put into it.
use Rattle.std.specs.Prelude.{◌≡◌, ℕ, List, [], ◌∷◌, ◌++◌}
use Rattle.binfarce_c.specs.declared.sections.Section.{Section}
use Rattle.binfarce_c.specs.Sections.{count_of}
use Rattle.binfarce_c.specs.Buffer.{put}

-- the array, which was this one, has the sections that came, and their number is this
abbrev pub IsFilled : (was : List Section) (sections : List Section) (now : List Section) (count : ℕ) → Type 0
IsFilled was sections now count = (now ≡ put was sections) × (count ≡ count_of sections)

-- one more section, whatever came before it
abbrev pub OneMore : (section : Section) (count : ℕ) (old : List Section) (new : List Section) (next : ℕ) → Type 0
OneMore section count old new next = (was sections : List Section) → IsFilled was sections old count → IsFilled was (sections ++ section ∷ []) new next
