use Rattle.std.proofs.Common.{◌≡◌, take, map}
use Rattle.std.specs.List.{flat_map}
use Rattle.edr_lines.specs.Routes.{planned_turn}
use Rattle.edr_lines.proofs.trajectory_plans.coverages_of.Given as goal

abbrev pub invariant-loop-t : goal.invariant-loop-t
invariant-loop-t l =
    l.coverages.items ≡ flat_map (λ t. map (planned_turn l.referencing l.instance l.parameters l.route t) l.route.levels) (take l.t-index l.route.times)
