use Rattle.std.proofs.Common.{◌∙◌, ℕ, List, codes, ◌++◌, sym, subst, ap, Option}
use Rattle.std.specs.Fmt.{HasWritten}
use Rattle.binfarce_words.specs.Words.{command_name}
use Rattle.binfarce_words.specs.WordViews.{wrong_words}
use Rattle.binfarce_words.specs.declared.command.Command.{Command}
use Rattle.binfarce_words.specs.declared.flag.Flag.{Flag}
use Rattle.binfarce_words.specs.declared.wrong.Wrong.{Wrong}
use Rattle.binfarce_words.specs.declared.wrong.Wrong.TheVariants.{UnknownCommand, UnknownOption}
use Rattle.binfarce_words.proofs.wrong.WrongDisplay.fmt.Goals as goal

pub returns-in-Some-clause-writes : goal.returns-in-Some-clause-writes
returns-in-Some-clause-writes g c = λ plain ok.
    let word = c.in-UnknownCommand.word in
    let Writes : List ℕ → Type 0 = λ text. HasWritten {W = g.row.W.Denot} g.W.Write.write_str_gives c.args.f.now text c.write-in-Some.new.self in
    subst (λ (wrong : Wrong). Writes (wrong_words wrong)) (sym (c.in-UnknownCommand.is ∙ ap (λ (near : Option Command). UnknownCommand word near) c.in-Some.is))
    (subst (λ (name : List ℕ). Writes (codes "no command " ++ (word.now ++ (codes "; the nearest is " ++ name)))) c.name-name.ensures (c.write-in-Some.ensures.writes plain ok))

pub returns-in-None-near-clause-writes : goal.returns-in-None-near-clause-writes
returns-in-None-near-clause-writes g c = λ plain ok.
    let word = c.in-UnknownOption.word in
    let command = c.in-UnknownOption.command in
    let Writes : List ℕ → Type 0 = λ text. HasWritten {W = g.row.W.Denot} g.W.Write.write_str_gives c.args.f.now text c.write-in-None-near.new.self in
    subst (λ (wrong : Wrong). Writes (wrong_words wrong)) (sym (c.in-UnknownOption.is ∙ ap (λ (near : Option Flag). UnknownOption command word near) c.in-None-near.is))
    (subst (λ (name : List ℕ). Writes (codes "no option " ++ (word.now ++ (codes " of " ++ (name ++ (codes "; binfarce " ++ (name ++ codes " --help shows them"))))))) c.name-name-in-UnknownOption.ensures (c.write-in-None-near.ensures.writes plain ok))

pub returns-in-Some-near-clause-writes : goal.returns-in-Some-near-clause-writes
returns-in-Some-near-clause-writes g c = λ plain ok.
    let word = c.in-UnknownOption.word in
    let command = c.in-UnknownOption.command in
    let Writes : List ℕ → Type 0 = λ text. HasWritten {W = g.row.W.Denot} g.W.Write.write_str_gives c.args.f.now text c.write-in-Some-near.new.self in
    let option = c.name-option.result.now in
    subst (λ (wrong : Wrong). Writes (wrong_words wrong)) (sym (c.in-UnknownOption.is ∙ ap (λ (near : Option Flag). UnknownOption command word near) c.in-Some-near.is))
    (subst (λ (option : List ℕ). Writes (codes "no option " ++ (word.now ++ (codes " of " ++ (command_name command ++ (codes "; the nearest is " ++ option)))))) c.name-option.ensures
    (subst (λ (name : List ℕ). Writes (codes "no option " ++ (word.now ++ (codes " of " ++ (name ++ (codes "; the nearest is " ++ option)))))) c.name-name-in-UnknownOption.ensures (c.write-in-Some-near.ensures.writes plain ok)))
