use Rattle.std.proofs.Common.{◌≡◌, ◌++◌, take, map}
use Rattle.edr_lines.specs.Routes.{planned_turn}
use Rattle.edr_lines.proofs.trajectory_plans.add_time.Given as goal

abbrev pub invariant-loop-z : goal.invariant-loop-z
invariant-loop-z l =
    l.coverages.items ≡ l.fn.coverages.items ++ map (planned_turn l.referencing l.instance l.parameters l.route l.t) (take l.z-index l.route.levels)
