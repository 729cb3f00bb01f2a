use Rattle.std.proofs.Common.{◌≡◌, ℕ, List, None, Some, Option, sym, ap, ◌∙◌, subst}
use Rattle.std.specs.Prelude.{is_some}
use Rattle.edr_ids.specs.Ids.{item_of, without_id}
use Rattle.edr_ids.specs.ListLaws.{without_id-none}
use Rattle.edr_station.specs.Stations.{StationValue, StationsValue, station_id, nowhere, station_at}
use Rattle.edr_station.specs.Nearest.{HaveThese}
use Rattle.edr_station.proofs.SortedPlaces.{left_one, one_found, none_found}
use Rattle.edr_station.proofs.KeptStations.{kept_without}
use Rattle.edr_station.proofs.ForkLists.{on_err}
use Rattle.edr_station.proofs.stations.Stations.take_out.Goals as goal

abbrev item_in : List ℕ → StationsValue → Option StationValue
item_in id collection = item_of station_id id collection.stations

pub returns-in_err-cells-in-Ok-clause-there : goal.returns-in_err-cells-in-Ok-clause-there
returns-in_err-cells-in-Ok-clause-there c =
    let shelf = c.self.inside.shelf in
    let at = c.in-Ok.ensures.place in
    let found : item_in c.args.id.now c.args.self.now ≡ Some (station_at shelf c.in-Ok.place) =
    ap (item_in c.args.id.now) (sym c.self.view_is) ∙ one_found c.args.id.now shelf c.self.invariant.0.stations.ascending c.in-Ok.place at.0 at.1 in
    on_err c.from_residual.result (λ none. let e : Some (station_at shelf c.in-Ok.place) ≡ None = sym found ∙ none in cc)

pub returns-in_err-self-inside-in-Ok-clause-there : goal.returns-in_err-self-inside-in-Ok-clause-there
returns-in_err-self-inside-in-Ok-clause-there c =
    let shelf = c.self.inside.shelf in
    let at = c.in-Ok.ensures.place in
    let found : item_in c.args.id.now c.args.self.now ≡ Some (station_at shelf c.in-Ok.place) =
    ap (item_in c.args.id.now) (sym c.self.view_is) ∙ one_found c.args.id.now shelf c.self.invariant.0.stations.ascending c.in-Ok.place at.0 at.1 in
    on_err c.from_residual-in_err-self-inside-in-Ok.result (λ none. let e : Some (station_at shelf c.in-Ok.place) ≡ None = sym found ∙ none in cc)

pub invariant_of-self : goal.invariant_of-self
invariant_of-self c =
    let i : StationsValue = record { parameters = c.self.inside.parameters; stations = c.self.inside.shelf } in
    let at = c.in-Ok.ensures.place in
    let shelf = c.in_ok-self-inside-in-Ok.field-0 in
    let left = left_one c.args.id.now i.stations c.self.invariant.0.stations.ascending c.in-Ok.place at.0 at.1 in (
      kept_without i c.args.id.now c.in-Ok.place shelf c.self.invariant.0 at c.in_ok-self-inside-in-Ok.ensures,
      subst (HaveThese c.in_ok-cells-in-Ok.cells) (ap (λ k. without_id station_id k i.stations) (at.1 nowhere) ∙ (left ∙ sym c.in_ok-self-inside-in-Ok.ensures)) c.in_ok-cells-in-Ok.ensures,
    )

pub returns-in-Err-clause-was : goal.returns-in-Err-clause-was
returns-in-Err-clause-was c =
    let at = c.in-Err.ensures.place in
    let none = none_found c.args.id.now c.self.inside.shelf c.in-Err.field-0 at.1 at.2 in
    sym (ap is_some (ap (item_in c.args.id.now) (sym c.self.view_is) ∙ none))

pub returns-in-Err-clause-without : goal.returns-in-Err-clause-without
returns-in-Err-clause-without c =
    let at = c.in-Err.ensures.place in
    let none = none_found c.args.id.now c.self.inside.shelf c.in-Err.field-0 at.1 at.2 in
    sym (without_id-none station_id c.args.id.now c.args.self.now.stations (ap (item_in c.args.id.now) (sym c.self.view_is) ∙ none))

pub returns-in_ok-self-inside-in-Ok-clause-was : goal.returns-in_ok-self-inside-in-Ok-clause-was
returns-in_ok-self-inside-in-Ok-clause-was c =
    let shelf = c.self.inside.shelf in
    let at = c.in-Ok.ensures.place in
    let found = one_found c.args.id.now shelf c.self.invariant.0.stations.ascending c.in-Ok.place at.0 at.1 in
    sym (ap is_some (ap (item_in c.args.id.now) (sym c.self.view_is) ∙ found))

pub returns-in_ok-self-inside-in-Ok-clause-without : goal.returns-in_ok-self-inside-in-Ok-clause-without
returns-in_ok-self-inside-in-Ok-clause-without c =
    let shelf = c.self.inside.shelf in
    let at = c.in-Ok.ensures.place in
    c.in_ok-self-inside-in-Ok.ensures
    ∙ (sym (left_one c.args.id.now shelf c.self.invariant.0.stations.ascending c.in-Ok.place at.0 at.1)
    ∙ ap (λ (v : StationsValue). without_id station_id c.args.id.now v.stations) c.self.view_is)
