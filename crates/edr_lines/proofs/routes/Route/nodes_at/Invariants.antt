use Rattle.std.proofs.Common.{◌≡◌, take, map}
use Rattle.edr_lines.specs.Routes.{turned}
use Rattle.edr_lines.proofs.routes.Route.nodes_at.Given as goal

abbrev pub invariant-loop-step : goal.invariant-loop-step
invariant-loop-step l = l.nodes.items ≡ map (turned l.self l.t l.z) (take l.step-index l.self.steps)
