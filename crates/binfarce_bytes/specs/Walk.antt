-- A walk over what a file holds in order (sections, load commands), and the first item that a callback accepts.
use Rattle.std.specs.Prelude.{◌≡◌, ℕ, ◌+◌, Bool, true, false, List, [], ◌∷◌, ◌++◌, length, All, Option, Some, None, Result, Ok, Err, find}
use Rattle.std.specs.Iterator.{Count, at_most}
use Rattle.binfarce_bytes.specs.Refusal.{Refusal}

-- the items in file order, and the refusal that ends the walk, if any
pub record Walk (S : Type 0) : Type 0 where
  pub items : List S
  pub refusal : Option Refusal

-- a walk without items, with this end
abbrev pub ended : {S : Type 0} → Option Refusal → Walk S
ended refusal = record { items = []; refusal = refusal }

-- an item, and then a walk
abbrev pub ahead_of : {S : Type 0} → S → Walk S → Walk S
ahead_of item walk = record { items = item ∷ walk.items; refusal = walk.refusal }

-- items, and after them another walk, unless a refusal ends them
abbrev pub and_then : {S : Type 0} → List S → Option Refusal → Walk S → Walk S
and_then items None after = record { items = items ++ after.items; refusal = after.refusal }
and_then items (Some refusal) after = record { items = items; refusal = Some refusal }

-- what an iterator gives of the rest of a walk, and the rest after that: the first item, or the refusal, after which nothing is left
abbrev pub YieldsNext : {T S E : Type 0} → (E → Refusal) → (T → S) → Walk S → Option (Result T E) → Walk S → Type 0
YieldsNext why seen walk None left = (walk ≡ ended None) × (left ≡ ended None)
YieldsNext why seen walk (Some (Ok value)) left = walk ≡ ahead_of (seen value) left
YieldsNext why seen walk (Some (Err e)) left = (walk ≡ ended (Some (why e))) × (left ≡ ended None)

abbrev pub refusal_count : Option Refusal → ℕ
refusal_count None = 0
refusal_count (Some refusal) = 1

-- the most that an iterator gives: the items, and the refusal if any
abbrev pub walk_count : {S : Type 0} → Walk S → Count
walk_count walk = at_most (length walk.items + refusal_count walk.refusal)

-- the result at the end of a walk
abbrev pub end_of : {S : Type 0} → Option Refusal → Result (Option S) Refusal
end_of None = Ok None
end_of (Some refusal) = Err refusal

-- an item that was found, or else the result at the end
abbrev pub found_or_end : {S : Type 0} → Option S → Option Refusal → Result (Option S) Refusal
found_or_end (Some item) end = Ok (Some item)
found_or_end None end = end_of end

-- the first item that is accepted; if none is, the walk's refusal, if any
abbrev pub first : {S : Type 0} → (S → Bool) → Walk S → Result (Option S) Refusal
first accepts walk = found_or_end (find accepts walk.items) walk.refusal

-- the callback may be called on every value that is seen as this item
abbrev pub MayBeAsked : {T S : Type 0} → (T → S) → (T → Type 0) → S → Type 0
MayBeAsked {T} seen pre item = (value : T) → seen value ≡ item → pre value

-- the callback gave this answer on a value that is seen as this item
abbrev pub Answered : {T S : Type 0} → (T → S) → (T → Bool → Type 0) → Bool → S → Type 0
Answered {T} seen post answer item = (value : T) × (seen value ≡ item) × post value answer

-- the callback answered true on this value, which is an item of the walk, and false on each item before it
pub record IsFirstAccepted {T S : Type 0} (seen : T → S) (post : T → Bool → Type 0) (walk : Walk S) (value : T) : Type 0 where
  pub before : List S
  pub after : List S
  pub occurs : walk.items ≡ before ++ seen value ∷ after
  pub accepted : post value true
  pub refused : All (Answered seen post false) before

-- the callback answered false on every item, and the walk has this end
pub record NoneAccepted {T S : Type 0} (seen : T → S) (post : T → Bool → Type 0) (walk : Walk S) (end : Option Refusal) : Type 0 where
  pub refused : All (Answered seen post false) walk.items
  pub end_is : walk.refusal ≡ end

-- the result of a search by the callback
abbrev pub FirstAccepted : {T S E : Type 0} → (E → Refusal) → (T → S) → (T → Bool → Type 0) → Walk S → Result (Option T) E → Type 0
FirstAccepted why seen post walk (Ok (Some value)) = IsFirstAccepted seen post walk value
FirstAccepted why seen post walk (Ok None) = NoneAccepted seen post walk None
FirstAccepted why seen post walk (Err e) = NoneAccepted seen post walk (Some (why e))
