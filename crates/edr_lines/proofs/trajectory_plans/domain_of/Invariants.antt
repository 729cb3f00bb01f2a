use Rattle.std.proofs.Common.{◌≡◌, take, map}
use Rattle.edr_select.specs.Heads.{step_at}
use Rattle.edr_select.specs.Listings.{place_at}
use Rattle.edr_select.specs.Samples.{node_at}
use Rattle.edr_lines.proofs.trajectory_plans.domain_of.Given as goal

abbrev pub invariant-loop-node : goal.invariant-loop-node
invariant-loop-node l = l.steps.items ≡ map (λ n. step_at l.has_z (node_at l.instance (place_at 0 n))) (take l.node-index l.nodes)
