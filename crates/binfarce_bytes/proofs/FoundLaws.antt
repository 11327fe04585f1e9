-- The entry that an address is shown by, as entries come one after the other.
use Rattle.std.proofs.Common.{◌≡◌, ℕ, Bool, true, false, cond, List, [], ◌∷◌, ◌++◌, filter, Option, Some, None, refl, sym, ap, ◌∙◌, arith, nat_lt}
use Rattle.std.specs.Option.{option_map}
use Rattle.std.proofs.lemmas.Bool.Decides.{nat_tests}
use Rattle.std.proofs.lemmas.List.Elements.{filter-append}
use Rattle.std.proofs.lemmas.List.{append-nil}
use Rattle.binfarce_bytes.specs.Entries.{Entry}
use Rattle.binfarce_bytes.specs.SymbolViews.{function_view}
use Rattle.binfarce_bytes.specs.declared.functions.FunctionSymbol.{FunctionSymbol}
use Rattle.binfarce_bytes.specs.Found.{holds, higher_of, highest, entry_at}

-- one that comes after what was found
abbrev pub with_one_more : Option Entry → Entry → Entry
with_one_more None entry = entry
with_one_more (Some first) entry = higher_of first (Some entry)

-- of three the highest, in either order
higher_of_three : (x y z : Entry) → higher_of x (Some (higher_of y (Some z))) ≡ higher_of (higher_of x (Some y)) (Some z)
higher_of_three x y z = by_tests (nat_lt y.address z.address) (nat_lt x.address y.address) refl refl
  where
    less : (a b c : ℕ) → nat_lt b c ≡ true → nat_lt a b ≡ true → nat_lt a c ≡ true
    less a b c e f = grind (arith, nat_tests)

    not_less : (a b c : ℕ) → nat_lt b c ≡ false → nat_lt a b ≡ false → nat_lt a c ≡ false
    not_less a b c e f = grind (arith, nat_tests)

    by_tests : (b c : Bool) → nat_lt y.address z.address ≡ b → nat_lt x.address y.address ≡ c → higher_of x (Some (higher_of y (Some z))) ≡ higher_of (higher_of x (Some y)) (Some z)
    by_tests true true e f = rw (f, e, less x.address y.address z.address e f) refl
    by_tests true false e f = rw (f, e) refl
    by_tests false true e f = rw (f, e, f) refl
    by_tests false false e f = rw (f, e, f, not_less x.address y.address z.address e f) refl

highest-append : (entries : List Entry) (entry : Entry) → highest (entries ++ entry ∷ []) ≡ Some (with_one_more (highest entries) entry)
unfolding highest
highest-append [] entry = refl
highest-append (first ∷ others) entry = ap (λ (o : Option Entry). Some (higher_of first o)) (highest-append others entry) ∙ by_rest (highest others)
  where
    by_rest : (rest : Option Entry) → Some (higher_of first (Some (with_one_more rest entry))) ≡ Some (higher_of (higher_of first rest) (Some entry))
    by_rest None = refl
    by_rest (Some other) = ap Some (higher_of_three first other entry)

-- one entry more: it is found where it holds the address and none was found, or one of a lower address
pub entry_at-append : (entries : List Entry) (entry : Entry) (address : ℕ) → entry_at (entries ++ entry ∷ []) address ≡ cond (holds address entry) (Some (with_one_more (entry_at entries address) entry)) (entry_at entries address)
unfolding entry_at
entry_at-append entries entry address = ap highest (filter-append (holds address) entries (entry ∷ [])) ∙ by_test (holds address entry)
  where
    by_test : (b : Bool) → highest (filter (holds address) entries ++ cond b (entry ∷ []) []) ≡ cond b (Some (with_one_more (highest (filter (holds address) entries)) entry)) (highest (filter (holds address) entries))
    by_test true = highest-append (filter (holds address) entries) entry
    by_test false = ap highest (append-nil (filter (holds address) entries))

pub none_at_first : (address : ℕ) → None ≡ entry_at [] address
unfolding entry_at highest
none_at_first address = refl

-- what is found once one function symbol more came
module _ (before : List Entry) (function : FunctionSymbol) (address : ℕ) (found : Option FunctionSymbol) (same : option_map function_view found ≡ entry_at before address) where
  one_more : entry_at (before ++ function_view function ∷ []) address ≡ cond (holds address (function_view function)) (Some (with_one_more (option_map function_view found) (function_view function))) (option_map function_view found)
  one_more = rw same (entry_at-append before (function_view function) address)

  pub it_holds_not : holds address (function_view function) ≡ false → option_map function_view found ≡ entry_at (before ++ function_view function ∷ []) address
  it_holds_not holds = sym (rw holds at one_more)

  it_holds : holds address (function_view function) ≡ true → Some (with_one_more (option_map function_view found) (function_view function)) ≡ entry_at (before ++ function_view function ∷ []) address
  it_holds holds = sym (rw holds at one_more)

  pub it_is_first : holds address (function_view function) ≡ true → found ≡ None → Some (function_view function) ≡ entry_at (before ++ function_view function ∷ []) address
  it_is_first holds none = sym (ap (λ (o : Option FunctionSymbol). Some (with_one_more (option_map function_view o) (function_view function))) none) ∙ it_holds holds

  pub it_is_higher : (first shown : FunctionSymbol) → holds address (function_view function) ≡ true → found ≡ Some first → function_view shown ≡ higher_of (function_view first) (Some (function_view function)) → Some (function_view shown) ≡ entry_at (before ++ function_view function ∷ []) address
  it_is_higher first shown holds some is = ap Some is ∙ sym (ap (λ (o : Option FunctionSymbol). Some (with_one_more (option_map function_view o) (function_view function))) some) ∙ it_holds holds
