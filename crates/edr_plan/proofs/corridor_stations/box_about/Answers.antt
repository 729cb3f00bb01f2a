use Rattle.std.proofs.Common.{arith}
use Rattle.std.proofs.lemmas.Int.{ints}
use Rattle.edr_plan.proofs.corridor_stations.box_about.Goals as goal

pub returns : goal.returns
returns c k d l =
    let before = c.least_of-least.ensures.before k d l in
    let behind = c.greatest_of-greatest.ensures.behind k d l in
    record {
      left = omega (arith, ints, before.x);
      right = omega (arith, ints, behind.x);
      low = omega (arith, ints, before.y);
      high = omega (arith, ints, behind.y);
    }
