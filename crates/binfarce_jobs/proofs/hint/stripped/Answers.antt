use Rattle.std.proofs.Common.{◌≡◌, ◌∙◌, ◌&&◌, ◌∷◌, [], Bool, false, Option, IfOk, if◌then◌else◌, subst, sym}
use Rattle.binfarce_jobs.specs.Hints.{debug_of, hint_words, lacks_descriptors, stripped_words, words_of}
use Rattle.binfarce_jobs.specs.declared.hint.Hint.{Hint}
use Rattle.binfarce_jobs.specs.declared.hint.Hint.TheVariants.{Descriptors}
use Rattle.binfarce_jobs.proofs.Bare.{and_first, and_second}
use Rattle.binfarce_jobs.proofs.hint.stripped.Goals as goal
use Rattle.binfarce_jobs.proofs.hint.stripped.Goals.{else-is_bare-via-then-is_bare+in_ok-lacks_descriptors+else-branch, else-is_bare-via-else-is_bare}

pub returns : goal.returns
returns g c = λ file is.
    let none : (c.args.is_bare && lacks_descriptors file) ≡ false = elim c.else-is_bare.branch [
      | else-is_bare-via-then-is_bare+in_ok-lacks_descriptors+else-branch w ↦ and_second c.args.is_bare (lacks_descriptors file) (sym (w.in_ok-lacks_descriptors.ensures file is) ∙ w.if-branch.false)
      | else-is_bare-via-else-is_bare w ↦ and_first c.args.is_bare (lacks_descriptors file) w.if-is_bare.false
    ] in
    subst (λ (b : Bool). IfOk c.debug_of.result (λ (hint : Option Hint). words_of hint ≡ (if b then hint_words Descriptors ∷ [] else stripped_words (debug_of file)))) (sym none) (c.debug_of.ensures file is)
