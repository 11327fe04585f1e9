use Rattle.std.proofs.Common.{◌≡◌, ℕ, List, ◌++◌, take, replicate, OnOk, ap, subst, ◌∙◌, arith}
use Rattle.binfarce.specs.Elf.{ElfClass}
use Rattle.binfarce.specs.declared.ByteOrder.{ByteOrder}
use Rattle.binfarce_image.specs.declared.image.Row.{Row}
use Rattle.binfarce_image.specs.Structure.{filled}
use Rattle.binfarce_image.specs.Image.{class_of, order_of, symbol_numbers, symbol_bytes}
use Rattle.binfarce_image.specs.machine.Views.{all_fit, class_view}
use Rattle.binfarce_image.proofs.Lengths.{lengths, take_zeros, symbol_fits}
use Rattle.binfarce_image.proofs.image.write.push_row.Goals as goal

pub push_structure-requires-clause-longest : goal.push_structure-requires-clause-longest
push_structure-requires-clause-longest c =
    let same : c.class-class.result.symbol_length ≡ (class_of c.args.layout).symbol_length = ap (λ (class : ElfClass). class.symbol_length) c.class-class.ensures in
    omega (arith, same, (lengths c.args.layout).symbol)

pub push_structure-requires-clause-fit : goal.push_structure-requires-clause-fit
push_structure-requires-clause-fit c = ap (λ (class : ElfClass). all_fit class.symbol_length (symbol_numbers class c.args.row)) c.class-class.ensures ∙ symbol_fits c.args.layout c.args.row

pub returns-clause-row : goal.returns-clause-row
unfolding symbol_bytes
returns-clause-row c =
    let layout = c.args.layout in
    let row : Row = record { name = c.from.result; address = c.from-2.result; size = c.from-3.result; info = c.from-4.result; other = c.from-5.result; section = c.from-6.result } in
    let same : row ≡ c.args.row = λ i. record { name = c.from.ensures i; address = c.from-2.ensures i; size = c.from-3.ensures i; info = c.from-4.ensures i; other = c.from-5.ensures i; section = c.from-6.ensures i } in
    let written : ByteOrder → ElfClass → Row → List ℕ = λ order class r. filled order (take class.symbol_length (replicate 64 0)) (symbol_numbers class r) in
    let written_is : written c.order.result (class_view c.class-class.result) row ≡ written (order_of layout) (class_of layout) c.args.row = λ i. written (c.order.ensures i) (c.class-class.ensures i) (same i) in
    let zeros = ap (λ blank. filled (order_of layout) blank (symbol_numbers (class_of layout) c.args.row)) (take_zeros (class_of layout).symbol_length 64 (lengths layout).symbol) in
    subst (λ (bytes : List ℕ). OnOk c.push_structure.result (c.push_structure.new.file.items ≡ c.args.file.now.items ++ bytes)) (written_is ∙ zeros) c.push_structure.ensures
