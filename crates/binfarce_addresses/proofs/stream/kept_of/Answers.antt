use Rattle.std.proofs.Common.{[], ◌∷◌, sym, ap, subst, length, ◌∙◌}
use Rattle.std.proofs.lemmas.Bool.{eqb-true}
use Rattle.std.proofs.lemmas.Result.{IfOk-weaker}
use Rattle.std.proofs.lemmas.Str.Ascii.{trim_ascii_start_is}
use Rattle.binfarce_addresses.specs.machine.Answering.{IsKeptOf}
use Rattle.binfarce_addresses.proofs.Trimmed.{is_some, kept_long, kept_white, kept_word}
use Rattle.binfarce_addresses.proofs.stream.kept_of.Goals as goal

pub returns-then-is_empty-clause-kept : goal.returns-then-is_empty-clause-kept
returns-then-is_empty-clause-kept c =
    let line = c.args.line.now in
    let begun = trim_ascii_start_is line c.trim_ascii_start-begun.result.now c.trim_ascii_start-begun.ensures.value in
    let empty = ap length (sym begun) ∙ eqb-true (length c.trim_ascii_start-begun.result.now) 0 (sym c.is_empty.ensures ∙ c.if-is_empty.true) in
    IfOk-weaker c.from_slice.result _ _ (λ v is. subst (IsKeptOf line) (sym is) (kept_white line empty c.min.result c.min.ensures)) c.from_slice.ensures.items

pub returns-then-len-gt-LONGEST-clause-kept : goal.returns-then-len-gt-LONGEST-clause-kept
returns-then-len-gt-LONGEST-clause-kept c =
    let line = c.args.line.now in
    let begun = c.trim_ascii_start-begun.result.now in
    let some = is_some (length begun) (sym c.is_empty.ensures ∙ c.if-is_empty.false) in
    IfOk-weaker c.from_slice-then-len-gt-LONGEST.result _ _ (λ v is. subst (IsKeptOf line) (sym is)
    (kept_long line begun c.trim_ascii_end-len.result.now (trim_ascii_start_is line begun c.trim_ascii_start-begun.ensures.value) some c.trim_ascii_end-len.ensures.value c.if-len-gt-LONGEST.true)) c.from_slice-then-len-gt-LONGEST.ensures.items

pub returns-clause-kept : goal.returns-clause-kept
returns-clause-kept c =
    let line = c.args.line.now in
    let begun = c.trim_ascii_start-begun.result.now in
    let some = is_some (length begun) (sym c.is_empty.ensures ∙ c.if-is_empty.false) in
    IfOk-weaker c.from_slice-2.result _ _ (λ v is. subst (IsKeptOf line) (sym is)
    (kept_word line begun c.trim_ascii_end-len.result.now c.min-2.result (trim_ascii_start_is line begun c.trim_ascii_start-begun.ensures.value) some c.trim_ascii_end-len.ensures.value c.min-2.ensures)) c.from_slice-2.ensures.items
