-- The faults rise, so that the first one that is not lower stands behind all that are.
use Rattle.std.proofs.Common.{rules, ltb, ◌^◌}
use Rattle.std.proofs.lemmas.List.Sorted.{IsPartitionPoint-from_clause, IsPartitionedBy-ltb}
use Rattle.divergence_list.proofs.Rising.{rank-from_point, IsNonDecreasingBy-RisesWithin}
use Rattle.divergence_list.proofs.order.rank.Goals as goal

pub returns : goal.returns
returns g c =
    let rises = IsNonDecreasingBy-RisesWithin 0 (2 ^ 32) c.args.entries.now c.requires in
    let parted = IsPartitionedBy-ltb (λ e. e.fault) _ c.args.fault rises in
    let point = IsPartitionPoint-from_clause (λ e. ltb e.fault c.args.fault) _ _ c.partition_point.ensures.partitioned parted (λ a r q k. search rules) in
    rank-from_point c.args.entries.now c.args.fault _ c.partition_point.ensures.bound point.0 point.1
