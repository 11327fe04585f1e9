use Rattle.std.proofs.Common.{sym, ◌∙◌}
use Rattle.binfarce_macho.specs.MachoSymbols.{row_addresses}
use Rattle.binfarce_bytes.specs.Sizes.{addresses_of}
use Rattle.binfarce_bytes.proofs.Above.{above_less}
use Rattle.binfarce_macho.proofs.functions.text_entry.Goals as goal

pub size_up_to-requires : goal.size_up_to-requires
size_up_to-requires c = λ n e. above_less (addresses_of (row_addresses c.args.text.symbols.rows.now)) c.args.at.address n (sym c.requires.above ∙ e)
