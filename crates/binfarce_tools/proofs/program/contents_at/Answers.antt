use Rattle.std.proofs.Common.{◌≡◌, true, Err, sym, subst}
use Rattle.binfarce_tools.specs.declared.program.Failure.{Failure}
use Rattle.binfarce_tools.specs.Given.{GetsContents}
use Rattle.binfarce_tools.proofs.SectionAnswers.{not_read}
use Rattle.binfarce_tools.proofs.program.contents_at.Goals as goal

pub returns-in-Err-clause-gets : goal.returns-in-Err-clause-gets
returns-in-Err-clause-gets g c = λ bytes known.
    let MayFail = g.S.Source.may_fail c.args.source.now ≡ true in
    let section = c.args.section.now in
    subst (λ (f : Failure). GetsContents MayFail bytes section (Err f)) (sym c.read_failure_at.ensures) (not_read MayFail bytes section c.in-Err.e (c.in-Err.ensures bytes known))
