use Rattle.std.proofs.Common.{◌≡◌, map, take}
use Rattle.edr_select.specs.Heads.{position_at}
use Rattle.edr_select.specs.Choices.{spot_of}
use Rattle.edr_select.proofs.planned.positions_of.Given as goal

abbrev pub invariant-loop-spot : goal.invariant-loop-spot
invariant-loop-spot l = l.positions.items ≡ map (position_at l.z) (map (spot_of l.instance) (take l.spot-index l.spots))
