use Rattle.std.proofs.Common.{◌∙◌, sym}
use Rattle.binfarce_logs.proofs.Contexts.{of_function, of_no_function, of_no_word}
use Rattle.binfarce_logs.proofs.annotate.File.name_before.Goals as goal
use Rattle.binfarce_logs.proofs.annotate.File.name_before.Goals.{else-self-via-then-self+else-names_symbol, else-self-via-else-self}

pub returns-then-names_symbol : goal.returns-then-names_symbol
returns-then-names_symbol c =
    of_function c.self.inside.names c.args.self.now c.args.before.now _ c.name_of.result.now c.self.view_is c.path-path.ensures
    c.name_of.ensures (sym c.self.invariant ∙ c.if-self.true) (sym c.names_symbol.ensures ∙ c.if-names_symbol.true)

pub returns : goal.returns
returns c =
    let own = c.self.inside.names in
    let before = c.args.before.now in
    let is = c.path-path.ensures in
    elim c.else-self.branch [
      | else-self-via-then-self+else-names_symbol w ↦
          of_no_word own c.args.self.now before _ w.name_of.result.now c.name_len.result c.self.view_is is w.name_of.ensures (sym w.names_symbol.ensures ∙ w.if-names_symbol.false) c.name_len.ensures
      | else-self-via-else-self w ↦ of_no_function own c.args.self.now before _ c.name_len.result c.self.view_is is (sym c.self.invariant ∙ w.if-self.false) c.name_len.ensures
    ]
