use Rattle.std.proofs.Common.{int_le, sym, rules}
use Rattle.std.proofs.lemmas.List.Sorted.{IsPartitionPoint-from_clause}
use Rattle.edr_axes.specs.AxisLaws.{at_most_parted}
use Rattle.edr_axes.specs.CountLaws.{count_of_point}
use Rattle.edr_axes.proofs.axis.count_to.Goals as goal

pub returns : goal.returns
returns c =
    let values = c.args.values.now in
    let point = IsPartitionPoint-from_clause (λ value. int_le value c.args.bound) values _ c.partition_point.ensures.partitioned (at_most_parted values c.args.bound c.requires) (λ a r q k. search rules) in
    sym (count_of_point (λ value. int_le value c.args.bound) values c.partition_point.result c.partition_point.ensures.bound point)
