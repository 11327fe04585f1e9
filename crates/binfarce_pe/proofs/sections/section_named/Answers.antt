use Rattle.std.proofs.Common.{rules}
use Rattle.std.specs.Str.{bytes_eq}
use Rattle.binfarce_bytes.specs.Refusal.{unexpected_eof}
use Rattle.binfarce_pe.specs.PeParts.{table_walk}
use Rattle.binfarce_pe.specs.PeViews.{section_view}
use Rattle.binfarce_pe.specs.PeParts.{headers_view}
use Rattle.binfarce_bytes.proofs.Firsts.{first_is}
use Rattle.binfarce_pe.proofs.sections.section_named.Goals as goal

pub returns : goal.returns
returns c =
    first_is (λ _. unexpected_eof) section_view _ (λ s. bytes_eq s.name c.args.name.now) (table_walk (headers_view c.args.table)) c.first_section.result
    (λ value answer reported. search rules) c.first_section.ensures
