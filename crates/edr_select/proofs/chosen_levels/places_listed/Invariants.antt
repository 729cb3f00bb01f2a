use Rattle.std.proofs.Common.{length, take}
use Rattle.edr_select.proofs.LevelChoices.{listed}
use Rattle.edr_select.proofs.FoundPlaces.{Found}
use Rattle.edr_select.proofs.chosen_levels.places_listed.Given as goal

abbrev pub invariant-loop-level : goal.invariant-loop-level
invariant-loop-level l = Found (length l.axis) l.places.items (listed l.axis (take l.level-index l.levels))
