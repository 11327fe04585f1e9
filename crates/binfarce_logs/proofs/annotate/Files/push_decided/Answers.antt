use Rattle.std.proofs.Common.{◌-◌, ◌∙◌, List, Bool, drop, length, refl, take, subst, arith}
use Rattle.binfarce_logs.specs.Annotated.{File}
use Rattle.binfarce_logs.specs.machine.Annotating.{ShowsFirst}
use Rattle.binfarce_logs.specs.machine.Words.{IsDecided}
use Rattle.binfarce_logs.proofs.Annotating.{shows_more, shows_nothing}
use Rattle.binfarce_logs.proofs.annotate.Files.push_decided.Goals as goal

pub loop-at-init : goal.loop-at-init
loop-at-init c = record {
  after = omega arith;
  within = omega (arith, c.requires);
  same = (refl, refl);
  shows = shows_nothing c.args.self.now.names.items c.args.self.now.is_bare c.args.is_last c.args.text.now c.args.from c.args.out.now.items c.args.self.now.counts;
}

pub loop-at-preserved : goal.loop-at-preserved
loop-at-preserved c =
    let text = c.args.text.now in
    let at = c.loop-at.at in
    let before = take at text in
    let rest = take (length text - at) (drop at text) in
    let same = c.loop-at.invariant.same in
    let now = c.loop-at.self in
    let new = c.push_first.new.self in
    let P : List File → Bool → Type 0 = λ files bare. ShowsFirst files bare before rest c.in_ok-len.len c.loop-at.out.items c.push_first.new.out.items now.counts new.counts in
    record {
      after = omega (arith, c.loop-at.invariant.after);
      within = omega (arith, c.in_ok-len.ensures.within);
      same = (c.push_first.ensures.same.0 ∙ same.0, c.push_first.ensures.same.1 ∙ same.1);
      shows = shows_more c.args.self.now.names.items c.args.self.now.is_bare c.args.is_last text before rest c.args.from at c.in_ok-len.len c.args.out.now.items c.loop-at.out.items c.push_first.new.out.items c.args.self.now.counts now.counts new.counts c.loop-at.invariant.shows c.loop-at.invariant.after c.loop-at.invariant.within refl refl
          (subst (λ (b : Bool). IsDecided b c.args.is_last rest) same.1 (c.is_decided.ensures.decided c.if-is_decided.true))
          (subst (λ (b : Bool). P c.args.self.now.names.items b) same.1 (subst (λ (fs : List File). P fs now.is_bare) same.0 c.in_ok-len.ensures.shows));
    }
