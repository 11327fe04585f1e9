use Rattle.std.proofs.Common.{◌≡◌, ◌+◌, ◌-◌, ◌<◌, ◌∷◌, ◌++◌, ℕ, List, drop, length, get_or, take, sym, ap, subst, ◌∙◌, arith}
use Rattle.std.proofs.lemmas.List.{drop-drop, get_or-drop, length-drop, take_rest}
use Rattle.std.proofs.lemmas.Str.{IsCharBoundary-from_drop, IsUtf8-drop, IsCharBoundary-after_ascii}
use Rattle.std.specs.Prelude.{encode_utf8_all}
use Rattle.std.specs.Str.{IsUtf8, chars}
use Rattle.std.specs.String.{string_bytes}
use Rattle.binfarce_figures.specs.Generic.{rewritten, shown_after}
use Rattle.binfarce_figures.specs.machine.Runs.{IsRun, last_of, run_shown}
use Rattle.binfarce_figures.proofs.Runs.{after_run, all_shown, depth_grows, mark_comes, mark_is_ascii, past_mark}
use Rattle.binfarce_figures.proofs.generic.push_rewritten.Goals as goal

-- a run of what is left of a name
run_of : (depth at n : ℕ) (bytes name : List ℕ) → bytes ≡ name → IsRun depth (take (length bytes - at) (drop at bytes)) n → IsRun depth (drop at name) n
run_of depth at n bytes name same is = subst (λ (xs : List ℕ). IsRun depth xs n) (take_rest bytes at ∙ ap (drop at) same) is

part : (at n : ℕ) (name : List ℕ) → take ((at + n) - at) (drop at name) ≡ take n (drop at name)
part at n name = ap (λ (k : ℕ). take k (drop at name)) (omega arith)

pub range-run-requires-clause-start_boundary : goal.range-run-requires-clause-start_boundary
range-run-requires-clause-start_boundary c = λ _. IsCharBoundary-from_drop c.args.name.now c.loop-at.at c.loop-at.invariant.within c.loop-at.invariant.utf8

pub returns-then-end-name : goal.returns-then-end-name
returns-then-end-name c =
    let at = c.loop-at.at in
    let n = c.plain_len.result in
    let name = c.args.name.now in
    let rest = drop at name in
    let is = run_of c.loop-at.depth at n c.as_bytes.result.now name c.as_bytes.ensures.value c.plain_len.ensures in
    let run = c.range-run.ensures.value ∙ part at n name in
    let grown = c.in_ok-push_run.ensures ∙ ap (λ (t : List ℕ). string_bytes c.loop-at.text ++ run_shown c.args.shape c.loop-at.depth t) run in
    let due = after_run c.loop-at.depth rest n is c.args.shape c.loop-at.before (string_bytes c.loop-at.text) (string_bytes c.push_run.new.text) _ c.loop-at.invariant.utf8 grown c.loop-at.invariant.due in
    all_shown c.args.shape c.loop-at.depth _ _ _ (drop n rest) (length-drop n rest ∙ ap (λ (k : ℕ). k - n) (length-drop at name) ∙ omega (arith, c.if-end-name.true)) due

pub loop-at-preserved : goal.loop-at-preserved
loop-at-preserved c =
    let shape = c.args.shape in
    let depth = c.loop-at.depth in
    let at = c.loop-at.at in
    let n = c.plain_len.result in
    let name = c.args.name.now in
    let rest = drop at name in
    let mark = c.from-mark.result in
    let last = c.last_byte-before.result in
    let text : List ℕ = string_bytes c.push_run.new.text in
    let all : List ℕ = string_bytes c.args.text.now ++ rewritten shape name in
    let is = run_of depth at n c.as_bytes.result.now name c.as_bytes.ensures.value c.plain_len.ensures in
    let utf8 = c.loop-at.invariant.utf8 in
    let run = c.range-run.ensures.value ∙ part at n name in
    let next : n < length rest = let h = length-drop at name in let k = is.within in omega (arith, c.if-end-name.false) in
    let here : mark ≡ get_or rest n 0 = c.from-mark.ensures ∙ ap (λ (t : List ℕ). get_or t (at + n) 0) c.as_bytes-in-loop-at.ensures.value ∙ sym (get_or-drop at name n 0) in
    let beyond : drop (n + 1) rest ≡ drop (at + n + 1) name = drop-drop (n + 1) at name ∙ ap (λ (k : ℕ). drop k name) (omega arith) in
    let grown = c.in_ok-push_run.ensures ∙ ap (λ (t : List ℕ). string_bytes c.loop-at.text ++ run_shown shape depth t) run in
    let before : last_of c.loop-at.before (take n rest) ≡ last = sym (c.last_byte-before.ensures ∙ ap (last_of c.loop-at.before) run) in
    let others : chars (drop n rest) ≡ mark ∷ chars (drop (at + n + 1) name) =
    mark_comes depth rest n is next utf8 ∙ ap (λ (m : ℕ). m ∷ chars (drop (n + 1) rest)) (sym here) ∙ ap (λ (t : List ℕ). mark ∷ chars t) beyond in
    let due : text ++ encode_utf8_all (shown_after shape depth last (mark ∷ chars (drop (at + n + 1) name))) ≡ all =
    ap (λ (cs : List ℕ). text ++ encode_utf8_all (shown_after shape depth last cs)) (sym others)
    ∙ ap (λ (b : ℕ). text ++ encode_utf8_all (shown_after shape depth b (chars (drop n rest)))) (sym before)
    ∙ after_run depth rest n is shape c.loop-at.before (string_bytes c.loop-at.text) text all utf8 grown c.loop-at.invariant.due in
    record {
      within = let h = length-drop at name in omega arith;
      few = let h = depth_grows shape depth last mark in let k = c.loop-at.invariant.few in omega (arith, c.depth_after-depth.ensures);
      utf8 = subst IsUtf8 beyond (IsUtf8-drop rest (n + 1) utf8 (IsCharBoundary-after_ascii rest n utf8 next (mark_is_ascii depth (get_or rest n 0) (is.mark next))));
      due =
          ap (λ (d : ℕ). string_bytes c.push_shown.new.text ++ encode_utf8_all (shown_after shape d mark (chars (drop (at + n + 1) name)))) c.depth_after-depth.ensures
          ∙ past_mark shape all text (string_bytes c.push_shown.new.text) depth last mark (chars (drop (at + n + 1) name)) c.in_ok-push_shown.ensures due;
    }

pub returns : goal.returns
returns c = all_shown c.args.shape c.loop-at.depth c.loop-at.before _ _ (drop c.loop-at.at c.args.name.now) (let h = length-drop c.loop-at.at c.args.name.now in omega arith) c.loop-at.invariant.due
