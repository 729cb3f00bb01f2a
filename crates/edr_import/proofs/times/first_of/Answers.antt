use Rattle.std.proofs.Common.{rules}
use Rattle.std.proofs.lemmas.List.Sorted.{IsPartitionPoint-from_clause}
use Rattle.std.specs.Ordering.{is_lt}
use Rattle.edr_base.specs.Names.{order}
use Rattle.edr_import.proofs.OrderLemmas.{partitioned, first_is}
use Rattle.edr_import.proofs.times.first_of.Goals as goal

pub returns : goal.returns
returns c =
    first_is c.args.observations.now c.requires c.args.station.now c.partition_point.result c.partition_point.ensures.bound
    (IsPartitionPoint-from_clause (λ o. is_lt (order o.station c.args.station.now)) _ _ c.partition_point.ensures.partitioned
    (partitioned c.args.observations.now c.requires c.args.station.now) (λ a r f' k. search rules))
