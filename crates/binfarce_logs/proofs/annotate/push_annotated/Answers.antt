use Rattle.std.proofs.Common.{List, Bool, refl, true, subst}
use Rattle.binfarce_logs.specs.Annotated.{File, files_of}
use Rattle.binfarce_logs.specs.machine.Annotating.{ShowsTo}
use Rattle.binfarce_logs.proofs.Annotating.{shows_all}
use Rattle.binfarce_logs.proofs.annotate.push_annotated.Goals as goal

pub returns : goal.returns
returns c =
    let files = files_of c.args.modules.now in
    let text = c.args.text.now in
    let at = c.in_ok-push_decided.field-0 in
    let is = c.in_ok-files.ensures in
    let old = c.in_ok-files.files in
    let new = c.push_decided.new.self in
    let P : List File → Bool → Type 0 = λ fs b. ShowsTo fs b true text 0 at c.args.out.now.items c.push_decided.new.out.items old.counts new.counts in
    shows_all files c.args.is_bare text at c.args.out.now.items c.push_decided.new.out.items old.counts new.counts is.2
    (subst (λ (b : Bool). P files b) is.1 (subst (λ (fs : List File). P fs old.is_bare) is.0 c.in_ok-push_decided.ensures.shows)) (c.in_ok-push_decided.ensures.last refl)
