use Rattle.std.proofs.Common.{List, sym, subst}
use Rattle.edr_station.specs.Stations.{StationValue, StationsValue}
use Rattle.edr_station.specs.Nearest.{HaveThese}
use Rattle.edr_station.specs.Places.{AreKept}
use Rattle.edr_station.proofs.stations.Stations.share.Goals as goal

pub invariant_of-result : goal.invariant_of-result
invariant_of-result c =
    let i = c.self.inside in
    let kept : List StationValue → StationsValue = λ (l : List StationValue). record { parameters = i.parameters; stations = l } in
    let shelf = c.in_ok-share.field-0 in
    subst (λ cells. AreKept (kept shelf) × HaveThese cells shelf) (sym c.in_ok-share-2.ensures)
    (subst (λ l. AreKept (kept l) × HaveThese i.cells l) (sym c.in_ok-share.ensures) c.self.invariant)
