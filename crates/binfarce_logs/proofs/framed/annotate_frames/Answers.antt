use Rattle.std.proofs.Common.{◌≡◌, ◌∙◌, List, ℕ, [], Bool, map, ap, refl, rules}
use Rattle.binfarce_frames.specs.Frames.{framed}
use Rattle.binfarce_frames.specs.Rest.{rest}
use Rattle.binfarce_text.specs.Streams.{Streams}
use Rattle.binfarce_logs.specs.Annotated.{File, IsAnnotated, IsCounted, IsPrefixOf, files_of}
use Rattle.binfarce_logs.specs.Framed.{names_of, with_offsets}
use Rattle.binfarce_logs.proofs.Annotating.{none_shown}
use Rattle.binfarce_logs.proofs.Framing.{moved, none, streams_as}
use Rattle.binfarce_addresses.proofs.Streams.{stopped}
use Rattle.binfarce_logs.proofs.framed.annotate_frames.Goals as goal

pub returns-in_err-names-clause-annotates : goal.returns-in_err-names-clause-annotates
returns-in_err-names-clause-annotates g c =
    let files = files_of c.args.modules.now in
    let bare = c.args.is_bare in
    stopped (λ counts text. IsCounted files bare counts (with_offsets files text)) (λ text. IsAnnotated files bare (with_offsets files text)) (λ text. IsPrefixOf files bare (with_offsets files text))
    (g.R.Read.remaining c.args.input.now) (g.S.Sink.taken c.args.out.now) c.from_residual.result (none (names_of files) files bare (with_offsets files []) refl) c.from_residual.ensures.1

pub returns-in_err-new_files-clause-annotates : goal.returns-in_err-new_files-clause-annotates
returns-in_err-new_files-clause-annotates g c =
    let files = files_of c.args.modules.now in
    let bare = c.args.is_bare in
    stopped (λ counts text. IsCounted files bare counts (with_offsets files text)) (λ text. IsAnnotated files bare (with_offsets files text)) (λ text. IsPrefixOf files bare (with_offsets files text))
    (g.R.Read.remaining c.args.input.now) (g.S.Sink.taken c.args.out.now) c.from_residual-in_err-new_files.result (none (names_of files) files bare (with_offsets files []) refl) c.from_residual-in_err-new_files.ensures.1

pub pass_stream-requires-clause-begins : goal.pass_stream-requires-clause-begins
pass_stream-requires-clause-begins g c =
    let new = c.in_ok-new_files.field-0 in
    ([], ((refl, refl), none_shown new.names.items new.is_bare c.new-2.result.items new.counts c.new-2.ensures.items c.in_ok-new_files.ensures.2), λ more. refl)

pub pass_stream-requires-clause-breaks_off : goal.pass_stream-requires-clause-breaks_off
pass_stream-requires-clause-breaks_off g c =
    let new = c.in_ok-new_files.field-0 in
    none (map (λ name. name.now) c.deref.result.now) new.names.items new.is_bare (rest c.new.result []) (c.new.ensures [])

pub returns-in_err-pass_stream-clause-annotates : goal.returns-in_err-pass_stream-clause-annotates
returns-in_err-pass_stream-clause-annotates g c =
    let new = c.in_ok-new_files.field-0 in
    let files = files_of c.args.modules.now in
    let bare = c.args.is_bare in
    let named : map (λ name. name.now) c.deref.result.now ≡ names_of files = ap (λ v. map (λ name. name.now) v) c.deref.ensures.value ∙ c.in_ok-names.ensures in
    let same : (text : List ℕ) → rest c.new.result text ≡ with_offsets files text = λ text. c.new.ensures text ∙ ap (λ (names : List (List ℕ)). framed names [] text) named in
    let is : Streams (λ counts text. IsCounted new.names.items new.is_bare counts (rest c.new.result text)) (λ text. IsAnnotated new.names.items new.is_bare (rest c.new.result text)) (λ text. IsPrefixOf new.names.items new.is_bare (rest c.new.result text))
    (g.R.Read.remaining c.args.input.now) (g.R.Read.remaining c.pass_stream.new.input) (g.S.Sink.taken c.args.out.now) (g.S.Sink.taken c.pass_stream.new.output) c.from_residual-in_err-pass_stream.result = search rules in
    streams_as _ _ _ _ _ _ _ _ _ _
    (λ counts text written. moved (λ fs b t. IsCounted fs b counts t written) new.names.items files new.is_bare bare (rest c.new.result text) (with_offsets files text) c.in_ok-new_files.ensures.0 c.in_ok-new_files.ensures.1 (same text))
    (λ text written. moved (λ fs b t. IsAnnotated fs b t written) new.names.items files new.is_bare bare (rest c.new.result text) (with_offsets files text) c.in_ok-new_files.ensures.0 c.in_ok-new_files.ensures.1 (same text))
    (λ text written. moved (λ fs b t. IsPrefixOf fs b t written) new.names.items files new.is_bare bare (rest c.new.result text) (with_offsets files text) c.in_ok-new_files.ensures.0 c.in_ok-new_files.ensures.1 (same text))
    c.from_residual-in_err-pass_stream.result is

pub returns-clause-annotates : goal.returns-clause-annotates
returns-clause-annotates g c =
    let new = c.in_ok-new_files.field-0 in
    let files = files_of c.args.modules.now in
    let named : map (λ name. name.now) c.deref.result.now ≡ names_of files = ap (λ v. map (λ name. name.now) v) c.deref.ensures.value ∙ c.in_ok-names.ensures in
    let (end, (text, written, read, is, wrote)) = c.in_ok-pass_stream.ensures.streams in
    let same : rest c.new.result text ≡ with_offsets files text = c.new.ensures text ∙ ap (λ (names : List (List ℕ)). framed names [] text) named in (
      end,
      (
        text,
        written,
        read,
        moved (λ fs b t. IsCounted fs b c.pass_stream.new.pass.pass.files.counts t written) new.names.items files new.is_bare c.args.is_bare (rest c.new.result text) (with_offsets files text) c.in_ok-new_files.ensures.0 c.in_ok-new_files.ensures.1 same is,
        wrote,
      ),
    )
