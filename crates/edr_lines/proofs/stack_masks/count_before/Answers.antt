use Rattle.std.specs.Prelude.{nat_lt}
use Rattle.std.proofs.Common.{rules}
use Rattle.std.proofs.lemmas.List.Sorted.{IsPartitionPoint-from_clause}
use Rattle.edr_lines.proofs.RangePlaces.{rise_parted, point_before}
use Rattle.edr_lines.proofs.stack_masks.count_before.Goals as goal

pub returns-clause-before : goal.returns-clause-before
returns-clause-before c =
    let places = c.args.places.now in let bound = c.args.bound in
    let point = IsPartitionPoint-from_clause (λ place. nat_lt place bound) places _ c.partition_point.ensures.partitioned (rise_parted places bound c.requires) (λ a r q k. search rules) in
    point_before places bound c.partition_point.result point
