use Rattle.std.proofs.Common.{◌≡◌, ◌∙◌, ℕ, List, [], ◌∷◌, ◌++◌, OnOk, ap, append_assoc, replicate, string_bytes, subst, sym}
use Rattle.std.specs.Fmt.{styled_text}
use Rattle.binfarce_rows.proofs.Widths.{blanks}
use Rattle.binfarce_rows.proofs.columns.push_padded.Goals as goal

pub returns : goal.returns
returns c =
    let label = c.args.label.now in
    let pads = ap (λ s. styled_text s []) c.laid_out.ensures ∙ blanks c.saturating_sub-blanks.result ∙ ap (λ (n : ℕ). replicate n 32) c.saturating_sub-blanks.ensures in
    subst (λ (t : List ℕ). OnOk c.write.result (string_bytes c.write.new.self ≡ string_bytes c.args.text.now ++ t)) (ap (λ (p : List ℕ). p ++ (label ++ 32 ∷ [])) pads ∙ sym (append_assoc (replicate _ 32) label (32 ∷ []))) c.write.ensures.bytes
