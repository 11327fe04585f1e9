use Rattle.std.proofs.Common.{arith, inr}
use Rattle.std.proofs.lemmas.Map.Text.{text_keys}
use Rattle.binfarce_figures.proofs.NamedRows.{noted}
use Rattle.binfarce_figures.proofs.rows.note.Goals as goal

pub returns-then-len-lt-LONG : goal.returns-then-len-lt-LONG
returns-then-len-lt-LONG c = λ stored i found. inr found

pub returns : goal.returns
returns c = noted c.args.long.now c.insert.new.self c.args.name.now c.args.index (λ other. grind (arith, text_keys))
