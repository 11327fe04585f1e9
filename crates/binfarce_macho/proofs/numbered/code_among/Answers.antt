use Rattle.std.proofs.Common.{refl, sym, ◌∙◌, arith}
use Rattle.binfarce_macho.proofs.CodeSections.{code_here, code_further, none_left}
use Rattle.binfarce_macho.proofs.numbered.code_among.Goals as goal

pub loop-index-init : goal.loop-index-init
loop-index-init c = refl

pub returns-then-is_code : goal.returns-then-is_code
returns-then-is_code c =
    sym (code_here c.args.sections.now c.loop-index.index c.index-sections-index.result c.loop-index-test.true c.index-sections-index.is (sym c.is_code.ensures ∙ c.if-is_code.true)) ∙ c.loop-index.invariant

pub loop-index-preserved : goal.loop-index-preserved
loop-index-preserved c =
    code_further c.args.sections.now c.loop-index.index c.index-sections-index.result c.loop-index-test.true c.index-sections-index.is (sym c.is_code.ensures ∙ c.if-is_code.false) ∙ c.loop-index.invariant

pub returns : goal.returns
returns c = sym (none_left c.args.sections.now c.loop-index.index (omega arith)) ∙ c.loop-index.invariant
