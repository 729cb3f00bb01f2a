use Rattle.std.proofs.Common.{◌≡◌, ◌≤◌, take}
use Rattle.edr_station.specs.Shelves.{blocks_in}
use Rattle.edr_station.proofs.pages.Page.find.Given as goal

abbrev pub invariant-loop-place : goal.invariant-loop-place
invariant-loop-place l = (l.before ≡ blocks_in (take l.place l.self)) × (l.before ≤ l.number)
