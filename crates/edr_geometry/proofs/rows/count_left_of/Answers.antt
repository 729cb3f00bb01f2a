use Rattle.std.proofs.Common.{int_lt, pos, rules, arith}
use Rattle.std.proofs.lemmas.List.Sorted.{IsPartitionPoint-from_clause}
use Rattle.jiff_core.proofs.SignedLemmas.{signed_arith}
use Rattle.edr_geometry.proofs.LeftOf.{left_parted}
use Rattle.edr_geometry.proofs.rows.count_left_of.Goals as goal

pub returns : goal.returns
returns c =
    let xs = c.args.xs.now in
    let point = IsPartitionPoint-from_clause (λ x. int_lt x c.args.bound) xs _ c.partition_point.ensures.partitioned (left_parted xs c.args.bound c.requires) (λ a r q k. search rules) in
    record {
      within = c.partition_point.ensures.bound;
      left = λ place h. (let passes = point.0 place (pos 0) (omega arith) h in omega (arith, signed_arith, passes));
    }
