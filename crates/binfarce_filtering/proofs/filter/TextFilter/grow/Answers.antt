use Rattle.std.specs.Result.{is_ok}
use Rattle.std.proofs.Common.{ℕ, List, true, false, cond, ◌≡◌, ◌++◌, ◌∙◌, ap, [], refl, sym, append-nil}
use Rattle.binfarce_filtering.specs.Filter.{is_too_long}
use Rattle.binfarce_filtering.proofs.Parts.{Takes, grown, keeps_on, last_write, passes_on, starts_to_pass}
use Rattle.binfarce_filtering.proofs.filter.TextFilter.grow.Goals as goal

pub returns-then-is_too_long : goal.returns-then-is_too_long
returns-then-is_too_long c =
    let old = c.args.self.now in
    let bytes = c.args.bytes.now in
    let too_long : is_too_long old.run.items ≡ true = ap is_too_long (sym c.as_slice.ensures.value) ∙ sym c.if-is_too_long.ensures in
    last_write c.extend_from_slice.result (Takes old old.full old.run.items bytes) c.args.out.now.items c.extend_from_slice.new.self.items bytes c.extend_from_slice.ensures.items
    (grown old old.full old.run.items bytes bytes refl c.requires (passes_on old bytes too_long))

pub returns-then-not-is_too_long : goal.returns-then-not-is_too_long
returns-then-not-is_too_long c =
    let old = c.args.self.now in
    let bytes = c.args.bytes.now in
    let all = c.extend_from_slice-2.new.self.items in
    let short : is_too_long old.run.items ≡ false = ap is_too_long (sym c.as_slice.ensures.value) ∙ sym c.if-is_too_long.ensures in
    let still : is_too_long all ≡ false = ap is_too_long (sym c.as_slice-2.ensures.value) ∙ sym c.if-not-is_too_long.ensures in (
      [],
      grown old old.full all bytes [] refl c.requires (keeps_on old all bytes short c.in_ok-extend_from_slice.ensures.items still),
      sym (append-nil c.args.out.now.items),
    )

pub returns : goal.returns
returns c =
    let old = c.args.self.now in
    let bytes = c.args.bytes.now in
    let all = c.extend_from_slice-2.new.self.items in
    let short : is_too_long old.run.items ≡ false = ap is_too_long (sym c.as_slice.ensures.value) ∙ sym c.if-is_too_long.ensures in
    let now : is_too_long all ≡ true = ap is_too_long (sym c.as_slice-2.ensures.value) ∙ sym c.if-not-is_too_long.ensures in
    let out = c.args.out.now.items in
    let taken : c.extend_from_slice-3.new.self.items ≡ cond (is_ok c.extend_from_slice-3.result) (out ++ all) out =
    c.extend_from_slice-3.ensures.items ∙ ap (λ (x : List ℕ). cond (is_ok c.extend_from_slice-3.result) (out ++ x) out) c.as_slice-3.ensures.value in
    last_write c.extend_from_slice-3.result (Takes old old.full all bytes) c.args.out.now.items c.extend_from_slice-3.new.self.items all taken
    (grown old old.full all bytes all refl c.requires (starts_to_pass old all bytes short c.in_ok-extend_from_slice.ensures.items now))
