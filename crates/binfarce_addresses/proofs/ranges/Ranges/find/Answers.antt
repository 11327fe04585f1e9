use Rattle.std.proofs.Common.{◌-◌, List, leb, rules, length, ap, sym, subst, ◌∙◌, arith}
use Rattle.std.proofs.lemmas.List.{get_or_default}
use Rattle.std.proofs.lemmas.List.Sorted.{IsPartitionPoint-from_clause, IsPartitionedBy-leb}
use Rattle.binfarce_addresses.specs.Range.{AreSpans, IsSpanAt, no_span, span_at}
use Rattle.binfarce_addresses.specs.declared.ranges.Span.{Span}
use Rattle.binfarce_addresses.proofs.Spans.{rises, span_there}
use Rattle.binfarce_addresses.proofs.ranges.Ranges.find.Goals as goal

pub overflow_sub-partition_point : goal.overflow_sub-partition_point
overflow_sub-partition_point c =
    let spans = c.deref-in_default.result.now in
    let are : AreSpans spans = subst AreSpans (sym c.deref-in_default.ensures.value) c.self.invariant in
    let among = IsPartitionPoint-from_clause (λ (s : Span). leb s.start c.args.address) _ _ c.partition_point.ensures.partitioned (IsPartitionedBy-leb (λ (s : Span). s.start) spans c.args.address (rises spans are)) (λ a r q k. search rules) in
    (span_there spans c.args.address c.partition_point.result are c.partition_point.ensures.bound among).0

pub returns-in_default : goal.returns-in_default
returns-in_default c =
    let spans = c.deref-in_default.result.now in
    let are : AreSpans spans = subst AreSpans (sym c.deref-in_default.ensures.value) c.self.invariant in
    let among = IsPartitionPoint-from_clause (λ (s : Span). leb s.start c.args.address) _ _ c.partition_point.ensures.partitioned (IsPartitionedBy-leb (λ (s : Span). s.start) spans c.args.address (rises spans are)) (λ a r q k. search rules) in
    let P : List Span → Type 0 = λ ss. IsSpanAt ss c.args.address (c.partition_point.result - 1) in
    let at = subst P (c.deref-in_default.ensures.value ∙ c.self.view_is) (span_there spans c.args.address c.partition_point.result are c.partition_point.ensures.bound among).1 in
    let k = c.partition_point.result - 1 in
    let here = get_or_default c.self.inside.spans.items k c.index-in_default.result.now no_span (omega (arith, at.0, ap (length {A = Span}) c.self.view_is)) in
    (k, at, ap (λ (s : Span). s.place) (c.index-in_default.ensures ∙ here ∙ ap (λ (ss : List Span). span_at ss k) c.self.view_is))
