use Rattle.std.proofs.Common.{arith}
use Rattle.std.proofs.lemmas.Map.Text.{text_keys}
use Rattle.binfarce_sections.proofs.rows.add.Goals as goal

pub returns-in-Some : goal.returns-in-Some
returns-in-Some c = λ old_fits new_fits other. grind (arith, text_keys)

pub returns-in_ok-insert-in-None : goal.returns-in_ok-insert-in-None
returns-in_ok-insert-in-None c = λ old_fits new_fits other. grind (arith, text_keys)
