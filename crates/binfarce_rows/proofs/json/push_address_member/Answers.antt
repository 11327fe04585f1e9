use Rattle.std.proofs.Common.{ℕ, List, ◌++◌, append_assoc, ap, ◌∙◌, codes}
use Rattle.std.specs.String.{string_bytes}
use Rattle.binfarce_rows.specs.Columns.{address_text}
use Rattle.binfarce_rows.proofs.json.push_address_member.Goals as goal

pub returns : goal.returns
returns c =
    let old = string_bytes c.args.text.now in
    let before = codes ",\"address\":\"0x" in
    let address = address_text c.args.address in
    let after = codes "\"" in
    c.in_ok-push_str-2.ensures.bytes ∙ ap (λ (t : List ℕ). t ++ after) (c.in_ok-push_address.ensures ∙ ap (λ (t : List ℕ). t ++ address) c.in_ok-push_str.ensures.bytes)
    ∙ append_assoc (old ++ before) address after ∙ append_assoc old before (address ++ after)
