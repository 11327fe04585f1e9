use Rattle.binfarce_macho.proofs.CommandWalks.{header_is}
use Rattle.binfarce_macho.proofs.header.parse_header.Goals as goal

-- each field is the number at its offset
pub returns : goal.returns
returns c =
    (c.in_ok-number_at-6.ensures.0, header_is _ _ _ _ _ _ _ c.in_ok-number_at.ensures.1 c.in_ok-number_at-2.ensures.1 c.in_ok-number_at-3.ensures.1 c.in_ok-number_at-4.ensures.1 c.in_ok-number_at-5.ensures.1 c.in_ok-number_at-6.ensures.1)
