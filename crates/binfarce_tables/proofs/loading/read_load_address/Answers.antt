use Rattle.std.proofs.Common.{sym, subst}
use Rattle.std.specs.Bool.{⊤}
use Rattle.binfarce_bytes.specs.Source.{ReadsOnly}
use Rattle.binfarce_bytes.specs.declared.format.Format.{Format}
use Rattle.binfarce_tables.specs.Loading.{load_parts}
use Rattle.binfarce_tables.proofs.loading.read_load_address.Goals as goal

pub returns-in_ok-address-in-PE-clause-only : goal.returns-in_ok-address-in-PE-clause-only
returns-in_ok-address-in-PE-clause-only g c = λ file known.
    let Reads : Format → Type 0 = λ format. ReadsOnly (g.S.Source.is_sure c.args.source.now) (g.S.Source.logs_only c.args.log.now) (g.S.Source.logs_only c.read_load_address-in-PE.new.log) (load_parts format file) ⊤ in
    subst Reads (sym c.in-PE.is) (c.in_ok-address-in-PE.ensures.only file known)
