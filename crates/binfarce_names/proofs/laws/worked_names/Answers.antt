use Rattle.std.proofs.Common.{refl}
use Rattle.std.specs.Prelude.{codes}
use Rattle.binfarce_names.proofs.WorkedNames.{computing, means, means_nothing, counts}
use Rattle.binfarce_names.proofs.laws.worked_names.Goals as goal

pub returns : goal.returns
unfolding computing
returns c = record {
  plain_path = means (codes "_RNvC6_123foo3bar") (codes "NvC6_123foo3bar") _ refl refl refl refl refl;
  disambiguator = means (codes "_RNvCs_1a1b") (codes "NvCs_1a1b") _ refl refl refl refl refl;
  punycode = means (codes "_RNvC1cu9bcher_kva") (codes "NvC1cu9bcher_kva") _ refl refl refl refl refl;
  llvm_ending = means (codes "_RC3foo.llvm.9D1C9369") (codes "C3foo") _ refl refl refl refl refl;
  impl_path = means (codes "_RMC0INtC8arrayvec8ArrayVechKj7b_E") (codes "MC0INtC8arrayvec8ArrayVechKj7b_E") _ refl refl refl refl refl;
  placeholder = means (codes "_RMC0Ahjp") (codes "MC0Ahjp") _ refl refl refl refl refl;
  tuple_of_one = means (codes "_RMC0ThE") (codes "MC0ThE") _ refl refl refl refl refl;
  binders = means (codes "_RMC0FG_TRL0_hFG_B6_EuEEu") (codes "MC0FG_TRL0_hFG_B6_EuEEu") _ refl refl refl refl refl;
  bindings = means (codes "_RMC0DNtC1a1tp1xhp1ymEL_") (codes "MC0DNtC1a1tp1xhp1ymEL_") _ refl refl refl refl refl;
  below_a_trait = means (codes "_RMC0DNtINvC1a1fhE1tp1xmEL_") (codes "MC0DNtINvC1a1fhE1tp1xmEL_") _ refl refl refl refl refl;
  back_reference = means (codes "_RINvINvC1a1fhE1gB2_E") (codes "INvINvC1a1fhE1gB2_E") _ refl refl refl refl refl;
  invalid_target = means (codes "_RINvC1a1bB3_hE") (codes "INvC1a1bB3_hE") _ refl refl refl refl refl;
  invalid_syntax = means (codes "_RYRL0_hC1a") (codes "YRL0_hC1a") _ refl refl refl refl refl;
  shared = counts (codes "MC0TTTTTTpB8_EB7_EB6_EB5_EB4_EB3_E") 14 192 refl refl refl;
  lifetimes = counts (codes "MC0FG_TRL0_hB6_EEu") 6 12 refl refl refl;
  cycle = means_nothing (codes "_RNvB_1a") (codes "NvB_1a") refl refl refl;
}
