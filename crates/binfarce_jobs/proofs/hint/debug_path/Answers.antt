use Rattle.std.proofs.Common.{◌≡◌, ◌∙◌, ◌++◌, ◌∷◌, ℕ, ◌-◌, List, Some, arith, drop, length, length-drop, sym, ap, codes}
use Rattle.std.proofs.lemmas.List.{take_all}
use Rattle.std.specs.List.{flat_map}
use Rattle.std.specs.String.{string_bytes}
use Rattle.binfarce_io.specs.MessageLine.{byte_text}
use Rattle.binfarce_jobs.specs.Hints.{debug_path}
use Rattle.binfarce_jobs.proofs.Links.{five_joined}
use Rattle.binfarce_jobs.proofs.hint.debug_path.Goals as goal

pub returns : goal.returns
returns c =
    let note = c.args.note.now in
    let first = c.in-Some-split_first.first.now in
    let others = c.in-Some-split_first.others.now in
    let begin = codes "/usr/lib/debug/.build-id/" in
    let end = codes ".debug" in
    let id : drop 16 c.args.note.now ≡ first ∷ others = sym (c.in-Some.ensures.lookup.0.2 ∙ take_all (length note - 16) (drop 16 note) (omega (arith, length-drop 16 note))) ∙ c.in-Some-split_first.ensures.cases.0 in
    let start : string_bytes c.push_str.new.self ≡ (begin ++ byte_text first) ++ codes "/" = c.in_ok-push_str.ensures.bytes ∙ ap (λ (t : List ℕ). t ++ codes "/") (c.in_ok-push_byte.ensures ∙ ap (λ (t : List ℕ). t ++ byte_text first) c.in_ok-text.ensures.ok) in
    let all : string_bytes c.loop-byte.text ≡ ((begin ++ byte_text first) ++ codes "/") ++ flat_map byte_text others =
    c.loop-byte.invariant ∙ ap (λ (bytes : List ℕ). string_bytes c.push_str.new.self ++ flat_map byte_text bytes) (take_all c.loop-byte.byte-index others c.loop-byte-test.false) ∙ ap (λ (t : List ℕ). t ++ flat_map byte_text others) start in
    ap (λ (t : List ℕ). Some t) (c.in_ok-push_str-2.ensures.bytes ∙ ap (λ (t : List ℕ). t ++ end) all ∙ five_joined begin (byte_text first) (codes "/") (flat_map byte_text others) end) ∙ sym (ap debug_path id)
