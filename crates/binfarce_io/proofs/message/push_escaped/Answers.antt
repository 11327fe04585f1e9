use Rattle.std.proofs.Common.{◌≡◌, ℕ, [], ◌∷◌, List, ◌++◌, append_assoc, append-nil, map-id, sym, ap, ◌∙◌}
use Rattle.std.proofs.lemmas.Grind.{flat_map-append}
use Rattle.std.proofs.lemmas.Iterator.{YieldsList-from_chars}
use Rattle.std.proofs.lemmas.Iterator.Consumers.{YieldsList-end}
use Rattle.std.proofs.lemmas.Str.{encodes-append}
use Rattle.std.specs.List.{flat_map}
use Rattle.std.specs.Prelude.{encode_utf8_all}
use Rattle.std.specs.String.{string_bytes}
use Rattle.binfarce_io.specs.MessageLine.{line_char}
use Rattle.binfarce_io.proofs.message.push_escaped.Goals as goal

pub loop-c-preserved : goal.loop-c-preserved
loop-c-preserved c =
    let start = string_bytes c.args.line.now in
    let char = c.in-Some.c in
    let read = flat_map line_char c.loop-c.yielded in
    let more : flat_map line_char (c.loop-c.yielded ++ char ∷ []) ≡ read ++ line_char char =
    flat_map-append line_char c.loop-c.yielded (char ∷ []) ∙ ap (λ (t : List ℕ). read ++ t) (append-nil (line_char char)) in
    c.in_ok-push_char.ensures ∙ ap (λ (t : List ℕ). t ++ encode_utf8_all (line_char char)) c.loop-c.invariant
    ∙ append_assoc start (encode_utf8_all read) (encode_utf8_all (line_char char))
    ∙ ap (λ (t : List ℕ). start ++ t) (sym (encodes-append read (line_char char)) ∙ ap encode_utf8_all (sym more))

pub returns : goal.returns
returns c =
    let end = YieldsList-end (YieldsList-from_chars c.args.text.now c.utf8.text cc) c.loop-c.yielded _ c.loop-c.yielded_by _ _ c.in-None.is c.next.ensures.steps in
    c.loop-c.invariant ∙ ap (λ (cs : List ℕ). string_bytes c.args.line.now ++ encode_utf8_all (flat_map line_char cs)) (sym (map-id c.loop-c.yielded) ∙ end.0)
