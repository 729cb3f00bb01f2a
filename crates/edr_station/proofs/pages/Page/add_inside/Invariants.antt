use Rattle.std.proofs.Common.{◌≡◌, ◌++◌, take}
use Rattle.edr_station.specs.Boxes.{places_from}
use Rattle.edr_station.proofs.pages.Page.add_inside.Given as goal

abbrev pub invariant-loop-place : goal.invariant-loop-place
invariant-loop-place l = l.places.items ≡ l.initial.places.items ++ places_from l.first l.lo l.hi (take l.place l.self)
