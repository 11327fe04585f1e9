use Rattle.std.proofs.Common.{arith, leb, rules}
use Rattle.std.proofs.lemmas.List.Sorted.{IsPartitionPoint-from_clause, IsPartitionedBy-leb}
use Rattle.binfarce_elf_memory.proofs.Keys.{behind, there, none_there}
use Rattle.binfarce_elf_memory.proofs.ends.key_above.Goals as goal

pub returns-then-place-keys-clause-is : goal.returns-then-place-keys-clause-is
returns-then-place-keys-clause-is c =
    let among = IsPartitionPoint-from_clause (λ k. leb k c.args.key) _ _ c.partition_point-place.ensures.partitioned (IsPartitionedBy-leb (λ k. k) c.args.keys.now c.args.key c.requires) (λ a r q k. search rules) in
    there c.args.keys.now c.args.key c.partition_point-place.result c.requires c.partition_point-place.ensures.bound among c.if-place-keys.true

pub returns-then-place-keys-clause-above : goal.returns-then-place-keys-clause-above
returns-then-place-keys-clause-above c =
    let among = IsPartitionPoint-from_clause (λ k. leb k c.args.key) _ _ c.partition_point-place.ensures.partitioned (IsPartitionedBy-leb (λ k. k) c.args.keys.now c.args.key c.requires) (λ a r q k. search rules) in
    behind c.args.keys.now c.args.key c.partition_point-place.result c.requires c.partition_point-place.ensures.bound among c.partition_point-place.result (omega arith) c.if-place-keys.true

pub returns-else-place-keys-clause-is : goal.returns-else-place-keys-clause-is
returns-else-place-keys-clause-is c =
    let among = IsPartitionPoint-from_clause (λ k. leb k c.args.key) _ _ c.partition_point-place.ensures.partitioned (IsPartitionedBy-leb (λ k. k) c.args.keys.now c.args.key c.requires) (λ a r q k. search rules) in
    none_there c.args.keys.now c.args.key c.partition_point-place.result c.requires c.partition_point-place.ensures.bound among c.if-place-keys.false
