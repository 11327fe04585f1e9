use Rattle.std.proofs.Common.{◌≡◌, ◌++◌, ◌+◌, ◌%◌, ◌/◌, ◌<◌, ◌≤◌, ◌^◌, ◌∷◌, [], ℕ, List, Result, Ok, Err, append_assoc, ap, sym, ◌∙◌, arith}
use Rattle.std.proofs.lemmas.Fmt.{decimal_digit, decimal_step}
use Rattle.std.proofs.lemmas.Str.{encode_ascii}
use Rattle.std.specs.Bool.{if◌then◌else◌}
use Rattle.std.specs.Fmt.{decimal}
use Rattle.std.specs.Prelude.{encode_utf8, String}
use Rattle.std.specs.Global.{Global}
use Rattle.std.specs.Result.{OnOk, is_ok}
use Rattle.std.specs.String.{string_bytes}
use Rattle.binfarce_figures.proofs.stacks.+push_decimal.Goals.{then-n-ge10+in_ok-push_decimal, else-n-ge10}
use Rattle.binfarce_figures.proofs.stacks.+push_decimal.Goals as goal

pushed : {A E : Type 0} (r : Result A E) (new old all more : List ℕ) → old ++ more ≡ all → new ≡ (if is_ok r then old ++ more else old) → OnOk r (new ≡ all)
pushed (Ok x) new old all more is grown = grown ∙ is
pushed (Err e) new old all more is grown = tt

-- the last digit
digit : (n d : ℕ) → d ≡ 48 + n % 10 → encode_utf8 d ≡ (48 + n % 10) ∷ []
digit n d e = ap encode_utf8 e ∙ encode_ascii (48 + n % 10) (omega arith)

more : (old text : List ℕ) (n d : ℕ) → 10 ≤ n → n < 2 ^ 64 → text ≡ old ++ decimal (n / 10) → d ≡ 48 + n % 10 → text ++ encode_utf8 d ≡ old ++ decimal n
more old text n d large small is e =
    ap (λ (t : List ℕ). t ++ encode_utf8 d) is ∙ append_assoc old (decimal (n / 10)) (encode_utf8 d) ∙ ap (λ (t : List ℕ). old ++ (decimal (n / 10) ++ t)) (digit n d e) ∙ ap (λ (t : List ℕ). old ++ t) (sym (decimal_step n large small))

one : (old text : List ℕ) (n d : ℕ) → n < 10 → text ≡ old → d ≡ 48 + n % 10 → text ++ encode_utf8 d ≡ old ++ decimal n
one old text n d small is e =
    ap (λ (t : List ℕ). t ++ encode_utf8 d) is ∙ ap (λ (t : List ℕ). old ++ t) (digit n d e ∙ ap (λ (k : ℕ). k ∷ []) (omega arith) ∙ sym (decimal_digit n small))

pub returns : goal.returns
returns t c = elim c.if-n-ge10.branch [
  | then-n-ge10+in_ok-push_decimal w ↦
      pushed c.push.result _ (string_bytes c.if-n-ge10.text) _ (encode_utf8 c.from.result)
      (more (string_bytes c.args.text.now) (string_bytes c.if-n-ge10.text) c.args.n c.from.result w.if-n-ge10.true (omega arith) (ap (λ (s : String Global). string_bytes s) w.text-is ∙ w.in_ok-push_decimal.ensures) c.from.ensures) c.push.ensures.bytes
  | else-n-ge10 w ↦
      pushed c.push.result _ (string_bytes c.if-n-ge10.text) _ (encode_utf8 c.from.result)
      (one (string_bytes c.args.text.now) (string_bytes c.if-n-ge10.text) c.args.n c.from.result w.if-n-ge10.false (ap (λ (s : String Global). string_bytes s) w.text-is) c.from.ensures) c.push.ensures.bytes
]
