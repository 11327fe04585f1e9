use Rattle.std.proofs.Common.{List, [], Bool, refl, rules, subst}
use Rattle.binfarce_logs.specs.Annotated.{AnnotatesAll, File, IsAnnotated, IsCounted, IsPrefixOf, files_of}
use Rattle.binfarce_logs.specs.Annotated.ArePiecesAfter.{nothing}
use Rattle.binfarce_logs.proofs.Annotating.{none_shown}
use Rattle.binfarce_addresses.proofs.Streams.{stopped}
use Rattle.binfarce_logs.proofs.annotate.annotate_stream.Goals as goal

pub returns-in_err-new_files-clause-annotates : goal.returns-in_err-new_files-clause-annotates
returns-in_err-new_files-clause-annotates g c =
    let files = files_of c.args.modules.now in
    let bare = c.args.is_bare in
    stopped (IsCounted files bare) (IsAnnotated files bare) (IsPrefixOf files bare) (g.R.Read.remaining c.args.input.now) (g.S.Sink.taken c.args.out.now) c.from_residual.result ([], ([], nothing [], refl)) c.from_residual.ensures.1

pub pass_stream-requires-clause-begins : goal.pass_stream-requires-clause-begins
pass_stream-requires-clause-begins g c =
    let new = c.in_ok-new_files.field-0 in
    ((refl, refl), none_shown new.names.items new.is_bare c.new.result.items new.counts c.new.ensures.items c.in_ok-new_files.ensures.2)

pub pass_stream-requires-clause-breaks_off : goal.pass_stream-requires-clause-breaks_off
pass_stream-requires-clause-breaks_off g c = ([], ([], nothing [], refl))

pub returns-in_err-pass_stream-clause-annotates : goal.returns-in_err-pass_stream-clause-annotates
returns-in_err-pass_stream-clause-annotates g c =
    let new = c.in_ok-new_files.field-0 in
    let P : List File → Bool → Type 0 = λ files bare. AnnotatesAll files bare (g.R.Read.remaining c.args.input.now) (g.R.Read.remaining c.pass_stream.new.input) (g.S.Sink.taken c.args.out.now) (g.S.Sink.taken c.pass_stream.new.output) c.from_residual-in_err-pass_stream.result in
    let is : P new.names.items new.is_bare = search rules in
    subst (λ (b : Bool). P (files_of c.args.modules.now) b) c.in_ok-new_files.ensures.1 (subst (λ (fs : List File). P fs new.is_bare) c.in_ok-new_files.ensures.0 is)
