-- A side of a fork has fewer stations than the fork.
use Rattle.std.specs.Prelude.{◌≤◌, length}
use Rattle.std.proofs.Common.{arith, length-append}
use Rattle.std.specs.Arc.{arc_value}
use Rattle.edr_station.specs.declared.shelves.Top.{Top}
use Rattle.edr_station.specs.declared.shelves.Top.TheVariants.{Nothing, Stations, Sides}
use Rattle.edr_station.specs.declared.shelves.Shelf.TheDeep.{deep-Shelf}
use Rattle.edr_station.specs.Forks.{all_in, IsCounted}

pub sides_are_shorter : (top : Top) → IsCounted top → deep-Shelf (record { top = top }) ≤ length (all_in top)
sides_are_shorter Nothing counted = omega arith
sides_are_shorter (Stations page) counted = omega arith
sides_are_shorter (Sides fork) counted =
    omega (arith, length-append (arc_value fork).before (arc_value fork).behind, counted.2, counted.3)
