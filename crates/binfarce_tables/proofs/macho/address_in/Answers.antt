use Rattle.std.proofs.Common.{false, sym, ◌∙◌}
use Rattle.binfarce_macho.specs.MachoParts.{load_address}
use Rattle.binfarce_tables.proofs.MachoPrefix.{same_sections}
use Rattle.binfarce_tables.proofs.Readings.{converted}
use Rattle.binfarce_tables.proofs.macho.address_in.Goals as goal

pub returns-in_err-load_address : goal.returns-in_err-load_address
returns-in_err-load_address c = λ file inside are.
    let same = same_sections file c.args.commands.now inside are in
    converted false (λ address. address) (load_address file) c.in_err-load_address.field-0.0 c.from_residual-in_err-load_address.result c.from_residual-in_err-load_address.ensures (sym same.loaded ∙ c.in_err-load_address.ensures)

pub returns : goal.returns
returns c = λ file inside are.
    let same = same_sections file c.args.commands.now inside are in
    sym same.loaded ∙ c.in_ok-load_address.ensures
