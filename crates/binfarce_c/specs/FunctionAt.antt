-- The function of a caller's array that an address symbolizes to.
use Rattle.std.specs.Prelude.{◌≡◌, ◌⊎◌, ◌+◌, ◌<◌, ◌≤◌, ◌++◌, ℕ, Bool, true, false, ◌&&◌, List, ◌∷◌, All, length, max, nat_le, nat_lt, Option, Some, None}
use Rattle.binfarce_c.specs.declared.functions.Function.{Function}

-- the address lies in the function's range: from its address on, and before its end, which may lie past 64 bits. One of size 0 holds its own
-- address alone
abbrev pub holds : (address : ℕ) → Function → Bool
holds address function = nat_le function.address address && nat_lt address (function.address + max function.size 1)

-- the function with this index holds the address: none that holds it has a greater address, and none before it the same
pub record IsHighest (address : ℕ) (functions : List Function) (index : ℕ) (highest : ℕ) : Type 0 where
  pub before : List Function
  pub function : Function
  pub after : List Function
  pub occurs : functions ≡ before ++ function ∷ after
  pub index_is : index ≡ length before
  pub highest_is : highest ≡ function.address
  pub held : holds address function ≡ true
  pub lower : All (λ f. holds address f ≡ true → f.address < highest) before
  pub not_higher : All (λ f. holds address f ≡ true → f.address ≤ highest) after

-- what a search through these functions found: its index and address; none where none holds the address
abbrev pub IsFound : (address : ℕ) (functions : List Function) → Option (ℕ × ℕ) → Type 0
IsFound address functions None = All (λ f. holds address f ≡ false) functions
IsFound address functions (Some found) = IsHighest address functions found.0 found.1

-- `binfarce_function_at`: the index of that function, or the length of the array where none holds the address
abbrev pub SymbolizesTo : (address : ℕ) (functions : List Function) (index : ℕ) → Type 0
SymbolizesTo address functions index =
    ((highest : ℕ) × IsHighest address functions index highest)
    ⊎ (All (λ f. holds address f ≡ false) functions × (index ≡ length functions))
