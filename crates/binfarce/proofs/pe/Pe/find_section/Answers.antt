use Rattle.std.proofs.Common.{ap}
use Rattle.binfarce_bytes.specs.Refusal.{Refusal, refusal_of, unexpected_eof}
use Rattle.binfarce_bytes.specs.declared.parser.UnexpectedEof.{UnexpectedEof}
use Rattle.binfarce_pe.specs.Pe.{walk}
use Rattle.binfarce_pe.specs.PeViews.{section_view}
use Rattle.binfarce_bytes.proofs.Firsts.{retold}
use Rattle.binfarce.proofs.Searches.{refused}
use Rattle.binfarce.proofs.pe.Pe.find_section.Goals as goal

pub returns-in_err-first_of_file : goal.returns-in_err-first_of_file
returns-in_err-first_of_file g c =
    refused section_view _ _ _ c.from_residual.result (ap walk c.self.view_is) c.from_residual.ensures.1 c.in_err-first_of_file.ensures

pub returns : goal.returns
returns g c =
    let why : UnexpectedEof → Refusal = λ _. unexpected_eof in
    retold why refusal_of section_view _ _ _ c.in_ok-first_of_file.field-0 (ap walk c.self.view_is) c.in_ok-first_of_file.ensures
