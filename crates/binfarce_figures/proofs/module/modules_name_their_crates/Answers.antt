use Rattle.binfarce_figures.proofs.ModuleCrates.{names_its_crate}
use Rattle.binfarce_figures.proofs.module.modules_name_their_crates.Goals as goal

pub returns : goal.returns
returns c = names_its_crate
