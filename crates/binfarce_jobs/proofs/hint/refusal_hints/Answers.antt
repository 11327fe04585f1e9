use Rattle.std.proofs.Common.{◌≡◌, ◌∙◌, [], codes, Option, None, Result, Ok, Err, IfOk, Bool, true, ap, if◌then◌else◌, subst, sym}
use Rattle.binfarce_jobs.specs.Hints.{IsOrNone, dynamic_in, is_bare_fault, is_stripped, lacks, stripped_in, words_of}
use Rattle.binfarce_io.specs.declared.fault.Fault.{Fault}
use Rattle.binfarce_jobs.specs.declared.hint.Hint.{Hint}
use Rattle.binfarce_jobs.proofs.Bare.{or_first, or_second}
use Rattle.binfarce_jobs.proofs.Said.{said_or_none}
use Rattle.binfarce_jobs.proofs.hint.refusal_hints.Goals as goal
use Rattle.binfarce_jobs.proofs.hint.refusal_hints.Goals.{then-is_bare-via-then-is_bare, then-is_bare-via-else-is_bare+then-lacks}

worded : (hint : Result (Option Hint) Fault) (due : Option Hint) → IfOk hint (λ h. h ≡ due) → IfOk hint (λ h. words_of h ≡ words_of due)
worded (Ok h) due is = ap words_of is
worded (Err e) due is = tt

pub returns-then-is_bare-clause-first : goal.returns-then-is_bare-clause-first
returns-then-is_bare-clause-first g c = λ file is.
    let fault = c.args.fault.now in
    let stripped : is_stripped fault ≡ true = elim c.then-is_bare.branch [
      | then-is_bare-via-then-is_bare w ↦ or_first (is_bare_fault fault) (lacks fault (codes ".symtab")) (sym c.lacks-is_bare.ensures ∙ w.if-is_bare.true)
      | then-is_bare-via-else-is_bare+then-lacks w ↦ or_second (is_bare_fault fault) (lacks fault (codes ".symtab")) (sym w.lacks.ensures ∙ w.if-lacks.true)
    ] in
    let said = said_or_none (words_of (dynamic_in file)) c.dynamic.result (worded c.dynamic.result (dynamic_in file) (c.dynamic.ensures file is)) in
    subst (λ (b : Bool). IsOrNone (words_of (if b then dynamic_in file else None)) (words_of c.unwrap_or.result)) (sym stripped)
    (subst (λ (h : Option Hint). IsOrNone (words_of (dynamic_in file)) (words_of h)) (sym c.unwrap_or.ensures) said)

pub returns-then-is_bare-clause-second : goal.returns-then-is_bare-clause-second
returns-then-is_bare-clause-second g c = λ file is.
    let fault = c.args.fault.now in
    let stripped : is_stripped fault ≡ true = elim c.then-is_bare.branch [
      | then-is_bare-via-then-is_bare w ↦ or_first (is_bare_fault fault) (lacks fault (codes ".symtab")) (sym c.lacks-is_bare.ensures ∙ w.if-is_bare.true)
      | then-is_bare-via-else-is_bare+then-lacks w ↦ or_second (is_bare_fault fault) (lacks fault (codes ".symtab")) (sym w.lacks.ensures ∙ w.if-lacks.true)
    ] in
    let due = stripped_in c.lacks-is_bare.result file in
    let said = said_or_none due c.stripped.result (c.stripped.ensures file is) in
    subst (λ (b : Bool). IsOrNone (if b then stripped_in (is_bare_fault fault) file else []) (words_of c.unwrap_or-then-is_bare.result)) (sym stripped)
    (subst (λ (b : Bool). IsOrNone (stripped_in b file) (words_of c.unwrap_or-then-is_bare.result)) c.lacks-is_bare.ensures
    (subst (λ (h : Option Hint). IsOrNone due (words_of h)) (sym c.unwrap_or-then-is_bare.ensures) said))
