use Rattle.std.proofs.Common.{◌≡◌, ℕ, ◌-◌, List, length, drop, take, true, ap, sym, ◌∙◌, arith}
use Rattle.std.proofs.lemmas.Bool.{false≢true}
use Rattle.std.proofs.lemmas.List.{take_rest}
use Rattle.std.specs.List.{slice_index}
use Rattle.binfarce_text.specs.Suffixes.{is_allowed_rest}
use Rattle.binfarce_legacy.proofs.ElementLemmas.{reads_one_way}
use Rattle.binfarce_text.proofs.TextLemmas.{some_same}
use Rattle.binfarce_legacy.proofs.legacy.mangling.Goals as goal

pub returns-then-not-is_allowed_rest : goal.returns-then-not-is_allowed_rest
returns-then-not-is_allowed_rest c = λ part elements rest l.
    let bytes : List ℕ = c.as_bytes-bytes.result.now in
    let same : part ≡ bytes = some_same part c.in_ok-part.part.now (sym l.prefix ∙ sym c.in_ok-part.ensures) ∙ sym c.as_bytes-bytes.ensures.value in
    let found = c.in_ok-end.ensures.1 in
    let one = reads_one_way bytes elements found.0 rest (drop c.in_ok-end.end bytes) (l.reads.0, sym same ∙ l.reads.1) found.1 in
    let allowed : is_allowed_rest (take (length bytes - c.in_ok-end.end) (drop c.in_ok-end.end bytes)) ≡ true =
    ap is_allowed_rest (take_rest bytes c.in_ok-end.end ∙ sym one.1) ∙ l.allowed in
    false≢true (c.if-not-is_allowed_rest.ensures ∙ allowed)

pub returns-then-not-is_ascii : goal.returns-then-not-is_ascii
returns-then-not-is_ascii c = λ part elements rest l.
    let bytes : List ℕ = c.as_bytes-bytes.result.now in
    let same : part ≡ bytes = some_same part c.in_ok-part.part.now (sym l.prefix ∙ sym c.in_ok-part.ensures) ∙ sym c.as_bytes-bytes.ensures.value in
    let high = c.if-not-is_ascii.ensures.cases in
    let low = l.ascii high.0 in
    let at = ap (λ (x : List ℕ). slice_index x high.0) same in
    omega (arith, high.1, low, at)
