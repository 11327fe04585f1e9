-- The function symbols that were found, before they are put into a caller's array.
use Rattle.std.specs.Prelude.{◌≡◌, ℕ, List, Result, Ok, Err, length, map}
use Rattle.std.specs.Global.{Vec}
use Rattle.binfarce.specs.declared.ParseError.{ParseError}
use Rattle.binfarce.specs.declared.SectionFunction.{SectionFunction}
use Rattle.binfarce.specs.SymbolViews.{function_view}
use Rattle.binfarce.specs.Refusal.{Refusal, refusal_of, out_of_memory}
use Rattle.binfarce.specs.Symbol.{Listed}
use Rattle.binfarce_c.specs.declared.functions.Function.{Function}
use Rattle.binfarce_c.specs.declared.functions.Functions.{Functions}
use Rattle.binfarce_c.specs.Buffer.{put}
use Rattle.binfarce_c.specs.Functions.{AreFunctionsOf, HoldsRefusal}
use Rattle.binfarce_c.specs.Status.{ok}

-- the functions and the size of their section
abbrev pub HoldsFound : Listed → Vec Function × ℕ → Type 0
HoldsFound listed found = AreFunctionsOf listed.entries found.0.items × (found.1 ≡ listed.section_size)

-- any list needs memory, and a refusal where this holds
abbrev pub ListsOr : Type 0 → Result Listed Refusal → Type 0
ListsOr Needs (Ok listed) = Unit {0}
ListsOr Needs (Err refusal) = Needs

-- the functions of a list, or its refusal; a failed allocation is one, too
abbrev pub Collects : Result (Vec SectionFunction) ParseError → Result (Vec Function × ℕ) ParseError → Type 0
Collects (Ok listed) (Ok found) = AreFunctionsOf (map (λ f. function_view f.function) listed.items) found.0.items × (found.1 ≡ 0)
Collects (Ok listed) (Err e) = refusal_of e ≡ out_of_memory
Collects (Err refusal) (Ok found) = ⊥
Collects (Err refusal) (Err e) = refusal_of e ≡ refusal_of refusal

-- the functions that were found are in the array
abbrev pub Ends : Result (Vec Function × ℕ) ParseError → List Function → List Function → Functions → Type 0
Ends (Ok found) old new given = (given ≡ record { status = ok; detail = 0; count = length found.0.items; section_size = found.1 }) × (new ≡ put old found.0.items)
Ends (Err e) old new given = HoldsRefusal (refusal_of e) old new given
