use Rattle.std.proofs.Common.{◌≡◌, List, None, Ok, false, nat_cmp, refl, rules, sym, ap, subst, ◌∙◌, map}
use Rattle.std.proofs.lemmas.Fn.{always_returns_same}
use Rattle.std.proofs.lemmas.List.Sorted.{All-permutation}
use Rattle.std.specs.List.Sorted.{IsSortedByKey}
use Rattle.binfarce_sections.specs.declared.kinds.SectionType.TheVariants.{Pe}
use Rattle.binfarce_sections.specs.declared.sections.Section as code
use Rattle.binfarce_sections.specs.declared.sums.Share as code_share
use Rattle.binfarce_sections.specs.Section.{Section}
use Rattle.binfarce_sections.specs.Sums.{IsByKey, Share, falling, shares_of}
use Rattle.binfarce_sections.specs.Views.{section_view, share_view}
use Rattle.binfarce_sections.specs.machine.Summed.{IsNamed}
use Rattle.binfarce_sections.proofs.Ranked.{by_rising, by_falling, by_view, reversed, reversed_is}
use Rattle.binfarce_sections.proofs.sums.ranked_of.Goals.{In_ok-sort_by_key}
use Rattle.binfarce_sections.proofs.sums.ranked_of.Goals as goal

by_offset : (c : In_ok-sort_by_key) → IsByKey (λ (s : code.Section). s.offset) nat_cmp c.args.sections.items c.sort_by_key.new.self.items
by_offset c =
    let sorted = c.in_ok-sort_by_key.ensures in
    by_rising {E = Unit {0}} _ _ (λ (s : code.Section). s.offset) c.args.sections.items c.sort_by_key.new.self.items (Ok tt) (always_returns_same _ (λ a r. r ≡ a.0.now.offset) _ (λ a r q k. search rules)) sorted.permutation sorted.sorted sorted.stable

pub shares_of-requires : goal.shares_of-requires
shares_of-requires c = subst (λ (xs : List code.Section). IsSortedByKey (λ (s : code.Section). s.offset) nat_cmp xs) (sym c.deref.ensures.value) (by_offset (goal.at.shares_of-requires c).In_ok-sort_by_key).rises

pub returns-clause-named : goal.returns-clause-named
returns-clause-named c = All-permutation IsNamed c.in_ok-shares.shares.items c.sort_by_key-2.new.self.items c.in_ok-sort_by_key-2.ensures.permutation c.in_ok-shares.ensures.named

abbrev made_section : Section → code.Section
made_section s = record { segment = None; name = None; address = 0; offset = s.offset; size = 0; has_bytes = false; kind = Pe; flags = 0; file_size = 0; memory_size = 0 }

abbrev made_share : Share → code_share.Share
made_share s = record { section = made_section s.section; bytes = s.bytes; full_name = None }

pub returns-clause-shares : goal.returns-clause-shares
returns-clause-shares c =
    let second = c.in_ok-sort_by_key-2.ensures in
    let given = c.args.sections.items in
    let sorted = c.sort_by_key.new.self.items in
    let shares = c.in_ok-shares.shares.items in
    let ranked = c.sort_by_key-2.new.self.items in
    let by_bytes =
    by_falling {E = Unit {0}} _ _ (λ (s : code_share.Share). s.bytes) shares ranked (Ok tt)
    (always_returns_same _ (λ a r. r ≡ reversed a.0.now.bytes) _ (λ a r q k. (reversed_is r a.0.now.bytes (search rules), search rules))) second.permutation second.sorted second.stable in
    let are : map share_view shares ≡ shares_of c.args.file_length (map section_view sorted) =
    c.in_ok-shares.ensures.shares ∙ ap (λ (xs : List code.Section). shares_of c.args.file_length (map section_view xs)) c.deref.ensures.value in (
      map section_view sorted,
      by_view section_view made_section (λ (s : Section). s.offset) nat_cmp (λ s. refl) given sorted (by_offset (goal.at.returns-clause-shares c).In_ok-sort_by_key),
      subst (λ (xs : List Share). IsByKey (λ (s : Share). s.bytes) falling xs (map share_view ranked)) are (by_view share_view made_share (λ (s : Share). s.bytes) falling (λ s. refl) shares ranked by_bytes),
    )
