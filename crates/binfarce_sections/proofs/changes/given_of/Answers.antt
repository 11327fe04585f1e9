use Rattle.std.proofs.Common.{◌≡◌, ◌≤◌, ◌++◌, ◌∙◌, [], List, length, map, append-nil, ap, subst, sym}
use Rattle.binfarce_sections.specs.declared.sums.Share.{Share}
use Rattle.binfarce_sections.specs.Changes.{Part, new_row, old_row, parts_of, row_view}
use Rattle.binfarce_sections.proofs.ChangeSums.{fit_given, given_parts, parts_are, parts_bounded}
use Rattle.binfarce_sections.proofs.changes.given_of.Goals.{In_ok-push-4}
use Rattle.binfarce_sections.proofs.changes.given_of.Goals as goal

pub loop-share-2-init : goal.loop-share-2-init
loop-share-2-init c =
    let old = c.old.inside in
    let all = subst (λ (xs : List Share). length xs ≤ c.loop-share.share-index) c.deref-share-items.ensures.value c.loop-share-test.false in
    given_parts old_row [] c.loop-share.given.items c.push-2.new.self.items old.shares.items c.loop-share.share-index old.rest c.old_change-2.result all c.loop-share.invariant c.in_ok-push-2.ensures.items c.old_change-2.ensures
    ∙ ap (map old_row) (parts_are old.shares.items old.rest old.file_length old.memory c.old.invariant c.args.old.now c.old.view_is)
    ∙ sym (append-nil (map old_row (parts_of c.args.old.now)))

rows : (c : In_ok-push-4) → map row_view c.push-3.new.self.items ≡ map old_row (parts_of c.args.old.now) ++ map new_row (parts_of c.args.new.now)
rows c =
    let new = c.new.inside in
    let before = map old_row (parts_of c.args.old.now) in
    let all = subst (λ (xs : List Share). length xs ≤ c.loop-share-2.share-index) c.deref-share-items-2.ensures.value c.loop-share-2-test.false in
    given_parts new_row before c.loop-share-2.given.items c.push-3.new.self.items new.shares.items c.loop-share-2.share-index new.rest c.new_change-2.result all c.loop-share-2.invariant c.in_ok-push-4.ensures.items c.new_change-2.ensures
    ∙ ap (λ (parts : List Part). before ++ map new_row parts) (parts_are new.shares.items new.rest new.file_length new.memory c.new.invariant c.args.new.now c.new.view_is)

pub returns-clause-rows : goal.returns-clause-rows
returns-clause-rows c = rows (goal.at.returns-clause-rows c).In_ok-push-4

pub returns-clause-fit : goal.returns-clause-fit
returns-clause-fit c =
    let old = c.old.inside in
    let new = c.new.inside in
    fit_given c.push-3.new.self.items (parts_of c.args.old.now) (parts_of c.args.new.now) (rows (goal.at.returns-clause-fit c).In_ok-push-4)
    (parts_bounded old.shares.items old.rest old.file_length old.memory c.old.invariant c.args.old.now c.old.view_is)
    (parts_bounded new.shares.items new.rest new.file_length new.memory c.new.invariant c.args.new.now c.new.view_is)
