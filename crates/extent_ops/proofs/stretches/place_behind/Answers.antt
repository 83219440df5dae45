use Rattle.std.proofs.Common.{rules}
use Rattle.std.specs.Prelude.{nat_le}
use Rattle.std.proofs.lemmas.List.Sorted.{IsPartitionPoint-from_clause}
use Rattle.extent_ops.proofs.Outside.{are_parted, all_before}
use Rattle.extent_ops.proofs.stretches.place_behind.Goals as goal

pub returns-clause-before : goal.returns-clause-before
returns-clause-before c = λ rise.
    all_before c.args.block c.args.stretches.now c.partition_point.result
    (IsPartitionPoint-from_clause (λ stretch. nat_le stretch.end c.args.block) c.args.stretches.now c.partition_point.result c.partition_point.ensures.partitioned (are_parted c.args.block 0 c.args.stretches.now rise) (λ a r f k. search rules))
