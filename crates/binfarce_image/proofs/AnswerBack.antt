-- From the sections that were found on, the reader answers what the image holds.
use Rattle.std.proofs.Common.{◌≡◌, ℕ, ◌+◌, ◌-◌, ◌*◌, ◌/◌, ◌%◌, ◌^◌, ◌<◌, Bool, true, false, cond, eqb, List, [], length, map, Some, Result, Ok, Err, refl, sym, ap, ◌∙◌, arith}
use Rattle.std.specs.List.{AllByRecursion, filter_map, flat_map, range_with_len}
use Rattle.std.specs.Global.{Vec}
use Rattle.std.proofs.lemmas.Bool.{eq-eqb}
use Rattle.std.proofs.lemmas.Nat.{div-mul-add, mod-mul-add}
use Rattle.binfarce.specs.Refusal.{Refusal, ◌>>=◌, unexpected_section_type, unexpected_eof}
use Rattle.binfarce.specs.Elf.{ElfClass, Section, SectionTable}
use Rattle.binfarce.specs.declared.ByteOrder.{ByteOrder}
use Rattle.binfarce.specs.ElfSymbols.{section_data, string_table_kind, whole_rows, symbol_at, entries_of, entry_of}
use Rattle.binfarce.specs.SymbolTables.{TableRows}
use Rattle.binfarce.specs.Symbol.{Entry, Listed}
use Rattle.binfarce_image.specs.declared.image.ElfLayout.{ElfLayout}
use Rattle.binfarce_image.specs.declared.image.Image.{Image}
use Rattle.binfarce_image.specs.declared.image.Part.{Part}
use Rattle.binfarce_image.specs.declared.image.Part.TheVariants.{Bytes, Table}
use Rattle.binfarce_image.specs.declared.image.Row.{Row}
use Rattle.binfarce_image.specs.Image.{bytes, body_length, class_of, order_of, symbol_bytes}
use Rattle.binfarce_image.specs.ImageRefusal.{is_table}
use Rattle.binfarce_image.specs.ImageSymbols.{RowFits, strings_of, rows_of, part_size, entries_of as image_entries}
use Rattle.binfarce_image.proofs.Lengths.{length-body}
use Rattle.binfarce_image.proofs.Classes.{is_class}
use Rattle.binfarce_image.proofs.RowsBack.{rows_back}
use Rattle.binfarce_image.proofs.WalkBack.{table_of}
use Rattle.binfarce_image.proofs.PartsBack.{Holds, part_back}

-- the entries of a section, and its size
abbrev pub list_of : ElfClass → ByteOrder → Section → TableRows → Listed
list_of class order text found = record { entries = entries_of class order found.strings found.rows text.index; section_size = text.size }

-- the answer with these sections
abbrev pub listed_with : ElfClass → SectionTable → Section → Section → Section → Result Listed Refusal
listed_with class table text symbols linked = do
  string_table ← string_table_kind linked
  strings ← section_data table.file string_table
  part ← section_data table.file symbols
  rows ← whole_rows class part
  Ok (list_of class table.order text (record { strings = strings; rows = rows }))

-- what the image answers with these parts
abbrev pub answer_with : ℕ × Part → Part → Part → Result Listed Refusal
answer_with found table linked = do
  strings ← strings_of linked
  Ok (record { entries = image_entries strings found.0 (rows_of table); section_size = part_size found.1 })

length_rows : (layout : ElfLayout) (name link : ℕ) (rows : Vec Row) → length (flat_map (symbol_bytes (class_of layout) (order_of layout)) rows.items) ≡ length rows.items * (class_of layout).symbol_length
length_rows layout name link rows = length-body layout (order_of layout) (Table name link rows)

whole_is : (class : ElfClass) (rows : List ℕ) (n : ℕ) → 0 < class.symbol_length → length rows ≡ n * class.symbol_length → whole_rows class rows ≡ Ok rows
whole_is class rows n some long =
    let left : length rows % class.symbol_length ≡ 0 = ap (λ (m : ℕ). m % class.symbol_length) (long ∙ omega arith) ∙ mod-mul-add n class.symbol_length 0 some in
    ap (λ (b : Bool). cond b (Ok rows) (Err unexpected_eof)) (eq-eqb (length rows % class.symbol_length) 0 left)

count_is : (len n size : ℕ) → 0 < size → len ≡ n * size → len / size ≡ n
count_is len n size some long =
    let split : len ≡ n * size + 0 = omega arith in
    ap (λ (m : ℕ). m / size) split ∙ div-mul-add n size 0 some

-- the entries of the written rows
entries_back : (layout : ElfLayout) (strings : List ℕ) (index : ℕ) (rows : List Row) (written : List ℕ) → written ≡ flat_map (symbol_bytes (class_of layout) (order_of layout)) rows
    → length written ≡ length rows * (class_of layout).symbol_length → AllByRecursion RowFits rows
    → entries_of (class_of layout) (order_of layout) strings written index ≡ image_entries strings index rows
unfolding entries_of
entries_back layout strings index rows written are long fits =
    let class = class_of layout in
    let order = order_of layout in
    ap (λ (n : ℕ). filter_map (λ row. entry_of strings index (symbol_at class order written (row * class.symbol_length))) (range_with_len 0 n)) (count_is (length written) (length rows) class.symbol_length (is_class layout).symbol_some long)
    ∙ rows_back layout strings index written [] 0 rows are (omega arith) fits

-- the size of the section that was asked for
size_back : (class : ElfClass) (part : Part) → is_table part ≡ false → body_length class part ≡ part_size part
size_back class (Bytes name kind link bytes) other = refl
size_back class (Table name link rows) other = absurd cc

same_listed : (a b : List Entry) (m n : ℕ) → a ≡ b → m ≡ n → Path (Result Listed Refusal) (Ok (record { entries = a; section_size = m })) (Ok (record { entries = b; section_size = n }))
same_listed a b m n p q = cc

listed_is : (class : ElfClass) (table : SectionTable) (text symbols linked : Section) (strings rows : List ℕ) → string_table_kind linked ≡ Ok linked → section_data table.file linked ≡ Ok strings
    → section_data table.file symbols ≡ Ok rows → whole_rows class rows ≡ Ok rows → listed_with class table text symbols linked ≡ Ok (list_of class table.order text (record { strings = strings; rows = rows }))
listed_is class table text symbols linked strings rows kind first second whole =
    let end : List ℕ → List ℕ → Result Listed Refusal = λ s r. Ok (list_of class table.order text (record { strings = s; rows = r })) in
    ap (λ (r : Result Section Refusal). r >>= λ (t : Section). section_data table.file t >>= λ (s : List ℕ). section_data table.file symbols >>= λ (p : List ℕ). whole_rows class p >>= λ (q : List ℕ). end s q) kind
    ∙ ap (λ (r : Result (List ℕ) Refusal). r >>= λ (s : List ℕ). section_data table.file symbols >>= λ (p : List ℕ). whole_rows class p >>= λ (q : List ℕ). end s q) first
    ∙ ap (λ (r : Result (List ℕ) Refusal). r >>= λ (p : List ℕ). whole_rows class p >>= λ (q : List ℕ). end strings q) second
    ∙ ap (λ (r : Result (List ℕ) Refusal). r >>= λ (q : List ℕ). end strings q) whole

kind_refused : (class : ElfClass) (table : SectionTable) (text symbols linked : Section) (kind : ℕ) → linked.kind ≡ kind → eqb kind 3 ≡ false → listed_with class table text symbols linked ≡ Err (unexpected_section_type 3 kind)
kind_refused class table text symbols linked kind is other =
    let refused : string_table_kind linked ≡ Err (unexpected_section_type 3 kind) =
    ap (λ (k : ℕ). cond (eqb k 3) (Ok linked) (Err (unexpected_section_type 3 k))) is ∙ ap (λ (b : Bool). cond b (Ok linked) (Err (unexpected_section_type 3 kind))) other in
    ap (λ (r : Result Section Refusal). r >>= λ (t : Section). section_data table.file t >>= λ (s : List ℕ). section_data table.file symbols >>= λ (p : List ℕ). whole_rows class p >>= λ (q : List ℕ). Ok (list_of class table.order text (record { strings = s; rows = q }))) refused

kind_passes : (linked : Section) (kind : ℕ) → linked.kind ≡ kind → eqb kind 3 ≡ true → string_table_kind linked ≡ Ok linked
kind_passes linked kind is same = ap (λ (b : Bool). cond b (Ok linked) (Err (unexpected_section_type 3 linked.kind))) (ap (λ (k : ℕ). eqb k 3) is ∙ same)

module _ (image : Image) (layout : ElfLayout) (small : length (bytes image layout) < 2 ^ 32) (text symbols : Section) (found : ℕ × Part) (j name link : ℕ) (rows : Vec Row) where
  answer_by_kind : (linked : Section) (k n kind l : ℕ) (strings : Vec ℕ) (b : Bool) → eqb kind 3 ≡ b
      → Holds image layout text found → is_table found.1 ≡ false → Holds image layout symbols (j, Table name link rows) → Holds image layout linked (k, Bytes n kind l strings)
      → listed_with (class_of layout) (table_of image layout) text symbols linked ≡ answer_with found (Table name link rows) (Bytes n kind l strings)
  answer_by_kind linked k n kind l strings true is t other s r =
      let class = class_of layout in
      let order = order_of layout in
      let table = table_of image layout in
      let written = flat_map (symbol_bytes class order) rows.items in
      let first : section_data (bytes image layout) linked ≡ Ok strings.items = part_back class order (bytes image layout) linked (k, Bytes n kind l strings) r small in
      let second : section_data (bytes image layout) symbols ≡ Ok written = part_back class order (bytes image layout) symbols (j, Table name link rows) s small in
      let long : length written ≡ length rows.items * class.symbol_length = length_rows layout name link rows in
      let whole : whole_rows class written ≡ Ok written = whole_is class written (length rows.items) (is_class layout).symbol_some long in
      let listed = listed_is class table text symbols linked strings.items written (kind_passes linked kind (ap (λ (x : Section). x.kind) r.is) is) first second whole in
      let index : text.index ≡ found.0 = ap (λ (x : Section). x.index) t.is in
      let size : text.size ≡ part_size found.1 = ap (λ (x : Section). x.size) t.is ∙ size_back class found.1 other in
      let all = entries_of class order strings.items written text.index in
      let entries : all ≡ image_entries strings.items found.0 rows.items = entries_back layout strings.items text.index rows.items written refl long s.fits.2 ∙ ap (λ (i : ℕ). image_entries strings.items i rows.items) index in
      listed
      ∙ same_listed all (image_entries strings.items found.0 rows.items) text.size (part_size found.1) entries size
      ∙ sym (ap (λ (q : Bool). cond q (Ok strings.items) (Err (unexpected_section_type 3 kind)) >>= λ (xs : List ℕ). Ok (record { entries = image_entries xs found.0 rows.items; section_size = part_size found.1 })) is)
  answer_by_kind linked k n kind l strings false is t other s r =
      let class = class_of layout in
      let table = table_of image layout in
      kind_refused class table text symbols linked kind (ap (λ (x : Section). x.kind) r.is) is
      ∙ sym (ap (λ (q : Bool). cond q (Ok strings.items) (Err (unexpected_section_type 3 kind)) >>= λ (xs : List ℕ). Ok (record { entries = image_entries xs found.0 rows.items; section_size = part_size found.1 })) is)

  -- the answer, whichever part is linked
  pub answer_back : (linked : Section) (k : ℕ) (part : Part)
      → Holds image layout text found → is_table found.1 ≡ false → Holds image layout symbols (j, Table name link rows) → Holds image layout linked (k, part)
      → listed_with (class_of layout) (table_of image layout) text symbols linked ≡ answer_with found (Table name link rows) part
  answer_back linked k (Bytes n kind l strings) t other s r = answer_by_kind linked k n kind l strings (eqb kind 3) refl t other s r
  answer_back linked k (Table n l others) t other s r =
      kind_refused (class_of layout) (table_of image layout) text symbols linked 2 (ap (λ (x : Section). x.kind) r.is) refl
