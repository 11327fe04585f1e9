use Rattle.std.proofs.Common.{refl}
use Rattle.std.specs.Prelude.{codes}
use Rattle.binfarce_names.proofs.WorkedNames.{computing, means, means_unread, counts}
use Rattle.binfarce_names.proofs.laws.worked_consts.Goals as goal

pub returns : goal.returns
unfolding computing
returns c = record {
  signed = means (codes "_RIC1aKan80_Kan0_E") (codes "IC1aKan80_Kan0_E") _ refl refl refl refl refl;
  without_a_sign = means (codes "_RIC1aKl7fffffff_KipE") (codes "IC1aKl7fffffff_KipE") _ refl refl refl refl refl;
  above_64_bits = means (codes "_RIC1aKnn10000000000000000_E") (codes "IC1aKnn10000000000000000_E") _ refl refl refl refl refl;
  untyped = means (codes "_RIC1aKpE") (codes "IC1aKpE") _ refl refl refl refl refl;
  untyped_size = means (codes "_RMC0Ahp") (codes "MC0Ahp") _ refl refl refl refl refl;
  booleans = means (codes "_RIC1aKb0_Kb1_E") (codes "IC1aKb0_Kb1_E") _ refl refl refl refl refl;
  characters = means (codes "_RIC1aKc41_Kc27_Kc3b1_E") (codes "IC1aKc41_Kc27_Kc3b1_E") _ refl refl refl refl refl;
  invalid_syntax = means (codes "_RINvC1a3b2_KB6_E") (codes "INvC1a3b2_KB6_E") _ refl refl refl refl refl;
  boolean_of_2 = means_unread (codes "_RIC1aKb2_E") (codes "IC1aKb2_E") refl refl refl;
  surrogate = means_unread (codes "_RIC1aKcd800_E") (codes "IC1aKcd800_E") refl refl refl;
  sign_of_a_placeholder = means_unread (codes "_RIC1aKanpE") (codes "IC1aKanpE") refl refl refl;
  counted = counts (codes "IC1aKan80_E") 2 3 refl refl refl;
}
