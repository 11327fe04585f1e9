use Rattle.std.proofs.Common.{◌≡◌, ◌≢◌, ◌∙◌, ℕ, List, None, Err, ap, subst, sym}
use Rattle.binfarce_bytes.specs.Format.{format_of}
use Rattle.binfarce_bytes.specs.declared.format.Format.TheVariants.{Unknown}
use Rattle.binfarce_foreign.specs.Foreign.{named_by}
use Rattle.binfarce_io.specs.Input.{Judges}
use Rattle.binfarce_io.proofs.Streams.{few_read, foreign_read, rest_read, some_read, unknown_read}
use Rattle.binfarce_io.proofs.input.read_judged.Goals as goal

pub returns-in-Unknown : goal.returns-in-Unknown
returns-in-Unknown g c =
    let old = g.R.Read.remaining c.args.reader.now in
    let mid = g.R.Read.remaining c.read_first.new.reader in
    let bytes = c.read_first.new.bytes.items in
    let unknown : Unknown ≡ format_of bytes = c.in-Unknown.ensures ∙ ap format_of c.deref-2.ensures.value in
    let native : named_by bytes ≡ None = ap named_by (sym c.deref.ensures.value) ∙ c.in_ok-refuse_foreign.ensures in
    let first = c.in_ok-read_first.ensures in
    record {
      judged = (unknown_read old bytes unknown native first.0, first.1);
      no_more = few_read old mid bytes first.0 first.1;
    }

pub returns-in_err-refuse_foreign : goal.returns-in_err-refuse_foreign
returns-in_err-refuse_foreign g c =
    let old = g.R.Read.remaining c.args.reader.now in
    let mid = g.R.Read.remaining c.read_first.new.reader in
    let bytes = c.read_first.new.bytes.items in
    let first = c.in_ok-read_first.ensures in
    let judges = subst (λ (bs : List ℕ). Judges (named_by bs) (Err c.in_err-refuse_foreign.field-0.0)) c.deref.ensures.value c.in_err-refuse_foreign.ensures in
    record {
      judged = foreign_read old mid bytes c.in_err-refuse_foreign.field-0.0 c.from_residual-in_err-refuse_foreign.result first.0 first.1 judges c.from_residual-in_err-refuse_foreign.ensures.1;
      no_more = few_read old mid bytes first.0 first.1;
    }

pub returns-in_default : goal.returns-in_default
returns-in_default g c =
    let old = g.R.Read.remaining c.args.reader.now in
    let mid = g.R.Read.remaining c.read_first.new.reader in
    let new = g.R.Read.remaining c.read_rest.new.reader in
    let bytes = c.read_first.new.bytes.items in
    let known : format_of bytes ≢ Unknown = λ unknown. c.in_default.not-Unknown (c.detect_format.ensures ∙ ap format_of c.deref-2.ensures.value ∙ unknown) in
    let native : named_by bytes ≡ None = ap named_by (sym c.deref.ensures.value) ∙ c.in_ok-refuse_foreign.ensures in
    let first = c.in_ok-read_first.ensures in
    record {
      judged = rest_read old mid new bytes c.read_rest.result known native first.0 first.1 c.read_rest.ensures;
      no_more = some_read old new bytes known native first.0;
    }
