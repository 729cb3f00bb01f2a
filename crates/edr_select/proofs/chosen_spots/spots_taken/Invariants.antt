use Rattle.std.proofs.Common.{◌*◌, length, take}
use Rattle.edr_select.proofs.SpotChoices.{nearest_to}
use Rattle.edr_select.proofs.FoundPlaces.{Found}
use Rattle.edr_select.proofs.chosen_spots.spots_taken.Given as goal

abbrev pub invariant-loop-point : goal.invariant-loop-point
invariant-loop-point l = Found (length l.ys * length l.xs) l.places.items (nearest_to l.ys l.xs (take l.point-index l.points))
