-- Changes whose neighbours of one name are made one, and the sums over them.
use Rattle.std.proofs.Common.{◌≡◌, ℕ, ◌+◌, ◌<◌, ◌≤◌, ◌-◌, ◌^◌, Bool, true, false, not, List, [], ◌∷◌, ◌++◌, drop, filter, length, length-drop, map, nat_lt, take, Option, refl, sym, ap, subst, ◌∙◌, arith, append-nil, append_assoc}
use Rattle.std.specs.List.{flat_map, sum_by}
use Rattle.std.specs.Prelude.{All, if◌then◌else◌}
use Rattle.std.specs.Str.{bytes_eq}
use Rattle.std.proofs.lemmas.Bool.{le-ltb, lt-ltb}
use Rattle.std.proofs.lemmas.List.{map-append, take-append-drop, take_all}
use Rattle.std.proofs.lemmas.List.Elements.{All-head, All-tail}
use Rattle.std.proofs.lemmas.List.Filters.{sum_by-filter_both}
use Rattle.std.proofs.lemmas.List.Sums.{sum_by-append, sum_by-cons}
use Rattle.binfarce_rows.specs.Columns.{count_of}
use Rattle.binfarce_sections.specs.declared.changes.Change.{Change}
use Rattle.binfarce_sections.specs.declared.sums.Share as code_share
use Rattle.binfarce_rows.specs.Json.{Style}
use Rattle.binfarce_sections.specs.Changes.{Part, Row, change_row, change_rows, differs, new_row, old_row, others_row, part_of, parts_of, rest_of, row_view, shown_row}
use Rattle.binfarce_sections.specs.Lines.{name_text}
use Rattle.binfarce_sections.specs.Sums.{FileSums, total}
use Rattle.binfarce_sections.specs.Views.{section_view, share_view}
use Rattle.binfarce_sections.specs.machine.Changed.{Fit, added, joined, joined_to}
use Rattle.binfarce_sections.specs.machine.Summed.{AreWhole, IsNamed, shown_name}

-- sums over changes
abbrev pub Additive : (Change → ℕ) → Type 0
Additive w = (a b : Change) → w (added a b) ≡ w a + w b

by_name : (w : Change → ℕ) (c next : Change) (others : List Change) (b : Bool) → w (added c next) ≡ w c + w next
    → sum_by w (joined_to (added c next) others) ≡ w (added c next) + sum_by w others → sum_by w (joined_to next others) ≡ w next + sum_by w others
    → sum_by w (if b then joined_to (added c next) others else c ∷ joined_to next others) ≡ w c + sum_by w (next ∷ others)
by_name w c next others true adds same other = omega (arith, same, adds, sum_by-cons w next others)
by_name w c next others false adds same other = omega (arith, sum_by-cons w c (joined_to next others), other, sum_by-cons w next others)

joined_sum : (w : Change → ℕ) → Additive w → (c : Change) (others : List Change) → sum_by w (joined_to c others) ≡ w c + sum_by w others
joined_sum w adds c [] = sum_by-cons w c []
joined_sum w adds c (next ∷ others) =
    by_name w c next others (bytes_eq c.name.now next.name.now) (adds c next) (joined_sum w adds (added c next) others) (joined_sum w adds next others)

joined_le : (w : Change → ℕ) → Additive w → (changes : List Change) → sum_by w (filter differs (joined changes)) ≤ sum_by w changes
joined_le w adds [] = omega arith
joined_le w adds (c ∷ others) =
    omega (arith, sum_by-filter_both differs (λ x. not (differs x)) (λ _. refl) w (joined_to c others), joined_sum w adds c others, sum_by-cons w c others)

-- where no sum is greater, all fit
pub fit_less : (xs ys : List Change) → Fit xs → ((w : Change → ℕ) → Additive w → sum_by w ys ≤ sum_by w xs) → Fit ys
fit_less xs ys fit less = (
  omega (arith, fit.0, less (λ c. c.old) (λ a b. refl)),
  omega (arith, fit.1, less (λ c. c.new) (λ a b. refl)),
  omega (arith, fit.2, less (λ c. c.old_memory) (λ a b. refl)),
  omega (arith, fit.3, less (λ c. c.new_memory) (λ a b. refl)),
)

pub fit_joined : (changes : List Change) → Fit changes → Fit (filter differs (joined changes))
fit_joined changes fit = fit_less changes (filter differs (joined changes)) fit (λ w adds. joined_le w adds changes)

-- the sums over parts are numbers of 64 bits, and of bytes in memory of 128
abbrev pub IsBounded : List Part → Type 0
IsBounded parts = (sum_by (λ p. p.bytes) parts < 2 ^ 64) × (sum_by (λ p. p.memory) parts < 2 ^ 128)

-- the part of a share
abbrev pub named_view : code_share.Share → Part
named_view s = record { name = shown_name s; bytes = s.bytes; memory = s.section.memory_size }

-- the parts of a file with these shares
abbrev pub parts_view : List code_share.Share → (rest : ℕ) → List Part
parts_view shares rest = map named_view shares ++ rest_of rest ∷ []

-- of shares that have their names
all_named : (shares : List code_share.Share) → All IsNamed shares → map named_view shares ≡ map part_of (map share_view shares)
all_named [] named = refl
all_named (s ∷ others) named =
    let is : shown_name s ≡ name_text (section_view s.section).segment (section_view s.section).name = All-head IsNamed s others named in
    λ i. (record { name = is i; bytes = s.bytes; memory = s.section.memory_size }) ∷ all_named others (All-tail IsNamed s others named) i

sum_map : {X Y : Type 0} (f : Y → ℕ) (g : X → Y) (xs : List X) → sum_by f (map g xs) ≡ sum_by (λ x. f (g x)) xs
sum_map f g [] = refl
sum_map f g (x ∷ xs) = omega (arith, sum_by-cons f (g x) (map g xs), sum_by-cons (λ y. f (g y)) x xs, sum_map f g xs)

none : (parts : List Part) → sum_by (λ (p : Part). 0) parts ≡ 0
none [] = refl
none (p ∷ parts) = omega (arith, sum_by-cons (λ (q : Part). 0) p parts, none parts)

module _ (given : List Change) (old new : List Part) (is : map row_view given ≡ map old_row old ++ map new_row new) where
  pub given_sum : (w : Row → ℕ) → sum_by (λ (c : Change). w (row_view c)) given ≡ sum_by (λ (p : Part). w (old_row p)) old + sum_by (λ (p : Part). w (new_row p)) new
  given_sum w = omega (
    arith,
    sum_map w row_view given,
    ap (sum_by w) is,
    sum_by-append w (map old_row old) (map new_row new),
    sum_map w old_row old,
    sum_map w new_row new,
  )

  -- the changes that parts make alone
  pub fit_given : IsBounded old → IsBounded new → Fit given
  fit_given was is_now = (
    omega (arith, given_sum (λ r. r.old), none new, was.0),
    omega (arith, given_sum (λ r. r.new), none old, is_now.0),
    omega (arith, given_sum (λ r. r.old_memory), none new, was.1),
    omega (arith, given_sum (λ r. r.new_memory), none old, is_now.1),
  )

-- the changes of a file's parts, after those that there were before
pub given_parts : (row : Part → Row) (start : List Row) (given new : List Change) (shares : List code_share.Share) (n rest : ℕ) (last : Change) → length shares ≤ n
    → map row_view given ≡ start ++ map row (map named_view (take n shares)) → new ≡ given ++ last ∷ [] → row_view last ≡ row (rest_of rest) → map row_view new ≡ start ++ map row (parts_view shares rest)
given_parts row start given new shares n rest last all so_far is last_is =
    ap (map row_view) is
    ∙ map-append row_view given (last ∷ [])
    ∙ (λ i. so_far i ++ last_is i ∷ [])
    ∙ append_assoc start (map row (map named_view (take n shares))) (row (rest_of rest) ∷ [])
    ∙ ap (λ (xs : List code_share.Share). start ++ (map row (map named_view xs) ++ row (rest_of rest) ∷ [])) (take_all n shares all)
    ∙ ap (λ (rows : List Row). start ++ rows) (sym (map-append row (map named_view shares) (rest_of rest ∷ [])))

-- the parts of a `SectionSums`
module _ (shares : List code_share.Share) (rest len memory : ℕ) (whole : AreWhole shares rest len memory) (sums : FileSums) (is : record { file_length = len; shares = map share_view shares } ≡ sums) where
  rest_is : rest ≡ len - total (map share_view shares)
  rest_is = omega (arith, whole.length_is)

  pub parts_are : parts_view shares rest ≡ parts_of sums
  parts_are = (λ i. all_named shares whole.named i ++ rest_of (rest_is i) ∷ []) ∙ ap parts_of is

  -- the sums over them are the file's length, and the memory of all sections
  pub parts_bounded : IsBounded (parts_of sums)
  parts_bounded =
      let parts = map part_of (map share_view shares) in
      let last = rest_of (len - total (map share_view shares)) in
      subst (λ (s : FileSums). IsBounded (parts_of s)) is (
        omega (
          arith,
          sum_by-append (λ (p : Part). p.bytes) parts (last ∷ []),
          sum_by-cons (λ (p : Part). p.bytes) last [],
          sum_map (λ (p : Part). p.bytes) part_of (map share_view shares),
          whole.length_is,
          whole.fits,
        ),
        omega (
          arith,
          sum_by-append (λ (p : Part). p.memory) parts (last ∷ []),
          sum_by-cons (λ (p : Part). p.memory) last [],
          sum_map (λ (p : Part). p.memory) part_of (map share_view shares),
          whole.memory_is,
          whole.memory_fits,
        ),
      )

-- the sum over a part of a list
pub part_le : {X : Type 0} (f : X → ℕ) (xs : List X) (m n : ℕ) → sum_by f (take m (drop n xs)) ≤ sum_by f xs
part_le f xs m n =
    omega (arith, sum_by-append f (take m (drop n xs)) (drop m (drop n xs)), ap (sum_by f) (take-append-drop m (drop n xs)), sum_by-append f (take n xs) (drop n xs), ap (sum_by f) (take-append-drop n xs))

module _ (has_percent : Bool) (style : Style) (first : Option ℕ) (changes : List Change) (n : ℕ) where
  rows_are : (last : List ℕ) → n ≡ count_of first (length changes) → last ≡ (if nat_lt n (length changes) then change_row has_percent style (others_row (drop n changes)) else [])
      → flat_map (shown_row has_percent style) (take n changes) ++ last ≡ change_rows has_percent style first changes
  rows_are last is last_is =
      ap (λ (t : List ℕ). flat_map (shown_row has_percent style) (take n changes) ++ t) last_is
      ∙ ap (λ (m : ℕ). flat_map (shown_row has_percent style) (take m changes) ++ (if nat_lt m (length changes) then change_row has_percent style (others_row (drop m changes)) else [])) is

  -- where there are others
  pub rows_split : (old new : List ℕ) → n ≡ count_of first (length changes) → n < length changes → old ≡ flat_map (shown_row has_percent style) (take n changes)
      → new ≡ old ++ change_row has_percent style (others_row (take (length changes - n) (drop n changes))) → new ≡ change_rows has_percent style first changes
  rows_split old new is lt shown others =
      others
      ∙ ap (λ (t : List ℕ). t ++ change_row has_percent style (others_row (take (length changes - n) (drop n changes)))) shown
      ∙ ap (λ (xs : List Change). flat_map (shown_row has_percent style) (take n changes) ++ change_row has_percent style (others_row xs)) (take_all (length changes - n) (drop n changes) (omega (arith, length-drop n changes)))
      ∙ rows_are (change_row has_percent style (others_row (drop n changes))) is (rw (lt-ltb n (length changes) lt) refl)

  -- if there are none
  pub rows_whole : (text : List ℕ) → n ≡ count_of first (length changes) → length changes ≤ n → text ≡ flat_map (shown_row has_percent style) (take n changes) → text ≡ change_rows has_percent style first changes
  rows_whole text is le shown = shown ∙ sym (append-nil (flat_map (shown_row has_percent style) (take n changes))) ∙ rows_are [] is (rw (le-ltb n (length changes) le) refl)
