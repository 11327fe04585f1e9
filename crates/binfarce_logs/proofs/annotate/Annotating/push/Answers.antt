use Rattle.std.proofs.Common.{◌≡◌, ◌++◌, ◌∙◌, ◌-◌, List, ℕ, ap, arith, drop, min, refl, subst, sym}
use Rattle.binfarce_logs.specs.Annotated.{File, Piece, text_of}
use Rattle.binfarce_logs.specs.machine.Annotating.{IsEnough, LeavesAt, reach}
use Rattle.binfarce_logs.proofs.Annotating.{kept_none, makes_part}
use Rattle.binfarce_addresses.proofs.Streams.{left_of}
use Rattle.binfarce_logs.proofs.annotate.Annotating.push.Goals as goal

pub returns-clause-shows : goal.returns-clause-shows
returns-clause-shows c =
    let files = c.args.self.now.files.names.items in
    let bare = c.args.self.now.files.is_bare in
    let counts = c.args.self.now.files.counts in
    let after = c.push_decided.new.self.counts in
    let kept = c.args.self.now.kept.items in
    let old = c.args.self.now.from in
    let from = c.min-from.result in
    let at = c.in_ok-at.at in
    let to = c.min-self.result in
    let cut = at - to in
    let bytes = c.deref.result.now in
    let next = c.in_ok-self.field-0.items in
    let shows = c.in_ok-at.ensures.shows in
    let within = c.in_ok-at.ensures.within in
    let same : bytes ≡ kept ++ c.args.part.now = c.deref.ensures.value ∙ c.in_ok-extend_from_slice.ensures.items in
    let all : c.deref-3.result.now ≡ bytes = c.deref-3.ensures.value ∙ sym c.deref.ensures.value in
    let rest : next ≡ drop cut bytes = c.in_ok-self.ensures.items ∙ left_of c.deref-3.result.now cut ∙ ap (drop cut) all in
    let least : to ≡ min at (reach files) = c.min-self.ensures ∙ ap (min at) (c.reach_of-reach.ensures ∙ ap (λ (fs : List File). reach fs) (c.deref-2.ensures.value ∙ c.push_decided.ensures.same.0)) in
    let P : ℕ → Type 0 = λ n. (front : List ℕ) (made : List Piece) → IsEnough files front n → LeavesAt files bare c.args.is_last front bytes n made → LeavesAt files bare c.args.is_last front bytes at (made ++ shows.0) in (
      text_of shows.0,
      (
        c.push_decided.ensures.same,
        λ text made has.
            let here : from ≡ old = omega (arith, c.min-from.ensures, c.len.ensures, has.1.within) in
            makes_part files bare c.args.is_last text kept c.args.part.now bytes next made old at cut to shows.0 counts after same within.1 (omega (arith, within.0, here)) least refl rest (subst P here shows.1) shows.2.1 has,
        λ last. kept_none bytes next at cut to rest (omega (arith, least)) (c.in_ok-at.ensures.last last),
      ),
      shows.2.0,
    )
