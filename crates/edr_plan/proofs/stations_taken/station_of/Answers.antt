use Rattle.std.proofs.Common.{◌∷◌, [], ◌++◌, ◌∙◌, List, ℕ, Vec, Global, ap, sym, subst}
use Rattle.edr_plan.specs.StationPlaces.{HasAll, takes_station}
use Rattle.edr_station.specs.Stations.{station_at}
use Rattle.edr_plan.proofs.FoundStations.{id_alone, id_missing}
use Rattle.edr_plan.proofs.stations_taken.station_of.Goals as goal
use Rattle.edr_plan.proofs.stations_taken.station_of.Goals.{in-Some+in_ok-push, in_default}

pub returns : goal.returns
returns c =
    let shape = c.args.shape.now in let id = c.args.id.now in let stations = c.args.stations.now.stations in let up = c.len.ensures.stations.ascending in
    elim c.match-by_id.branch [
      | in-Some+in_ok-push w ↦ subst (HasAll stations (λ k. takes_station shape (station_at stations k)))
          (sym (ap (λ (v : Vec ℕ Global). v.items) w.places-is ∙ (w.in_ok-push.ensures.items ∙ ap (λ (l : List ℕ). l ++ w.in-Some.place ∷ []) c.new-places.ensures.items)))
          (id_alone shape id stations c.requires up w.in-Some.place w.in-Some.ensures.inside w.in-Some.ensures.found)
      | in_default w ↦ subst (HasAll stations (λ k. takes_station shape (station_at stations k)))
          (sym (ap (λ (v : Vec ℕ Global). v.items) w.places-is ∙ c.new-places.ensures.items)) (id_missing shape id stations c.requires up w.in_default.ensures.found)
    ]
