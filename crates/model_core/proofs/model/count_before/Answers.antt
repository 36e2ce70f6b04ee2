use Rattle.std.proofs.Common.{ltb, sym, rules}
use Rattle.std.proofs.lemmas.List.Sorted.{IsPartitionPoint-from_clause, IsPartitionedBy-ltb}
use Rattle.model_core.specs.declared.rate.Rate.{Rate}
use Rattle.model_core.proofs.Rows.{count_by-partition_point}
use Rattle.model_core.proofs.model.count_before.Goals as goal

pub returns : goal.returns
returns c =
    let parted = IsPartitionedBy-ltb (λ (r : Rate). r.from) _ c.args.s c.requires in
    let point =
    IsPartitionPoint-from_clause (λ (r : Rate). ltb r.from c.args.s) _ _ c.partition_point.ensures.partitioned parted
    (λ a r q k. search rules)
    in
    sym (count_by-partition_point (λ (r : Rate). ltb r.from c.args.s) _ _ c.partition_point.ensures.bound point)
