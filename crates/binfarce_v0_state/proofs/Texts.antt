-- One more lifetime of a binder, and one more character.
use Rattle.std.proofs.Common.{◌≡◌, ℕ, suc, ◌+◌, ◌-◌, ◌<◌, List, [], ◌∷◌, ◌++◌, length, take, get_or, refl, ap, ◌∙◌, append-nil, arith}
use Rattle.std.specs.Prelude.{codes, encode_utf8, encode_utf8_all}
use Rattle.std.proofs.lemmas.List.{take_more}
use Rattle.std.proofs.lemmas.Str.{encodes-append}
use Rattle.binfarce_v0_state.specs.LeafTexts.{lifetime_text, more_announced}

pub more_announced_step : (binder_depth i count : ℕ) → i < count → more_announced (binder_depth + i) (count - i) ≡ codes ", " ++ (lifetime_text (binder_depth + i + 1) 1 ++ more_announced (binder_depth + (i + 1)) (count - (i + 1)))
more_announced_step binder_depth i count h =
    let e : count - i ≡ suc (count - (i + 1)) = omega arith in
    let d : binder_depth + (i + 1) ≡ binder_depth + i + 1 = omega arith in rw (e, d) refl

pub encodes_more : (cs : List ℕ) (i : ℕ) → i < length cs → encode_utf8_all (take (i + 1) cs) ≡ encode_utf8_all (take i cs) ++ encode_utf8 (get_or cs i 0)
encodes_more cs i h =
    ap encode_utf8_all (take_more cs i 0 h) ∙ encodes-append (take i cs) (get_or cs i 0 ∷ []) ∙ ap (λ l. encode_utf8_all (take i cs) ++ l) (append-nil (encode_utf8 (get_or cs i 0)))
