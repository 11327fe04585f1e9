use Rattle.std.proofs.Common.{◌≡◌, ℕ, List, take, drop, false, eqb, sym, ap, ◌∙◌, arith}
use Rattle.std.specs.List.{list_any}
use Rattle.binfarce_bytes.proofs.Nuls.{none_more}
use Rattle.binfarce_bytes.proofs.text.past_strides.Goals as goal

-- none in a part of this width
of_width : (bytes : List ℕ) (at width k : ℕ) → k ≡ width → list_any (λ b. eqb b 0) (take k (drop at bytes)) ≡ false → list_any (λ b. eqb b 0) (take width (drop at bytes)) ≡ false
of_width bytes at width k e h = ap (λ (n : ℕ). list_any (λ b. eqb b 0) (take n (drop at bytes))) (sym e) ∙ h

pub loop-at-preserved : goal.loop-at-preserved
loop-at-preserved c =
    (omega arith, none_more c.loop-at.at c.args.stride c.args.bytes.now c.loop-at.invariant.1 (of_width c.args.bytes.now c.loop-at.at c.args.stride _ (omega arith) (sym c.has_nul.ensures ∙ c.if-has_nul.false)))
