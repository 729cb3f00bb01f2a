use Rattle.std.proofs.Common.{rules, ◌≡◌, ◌+◌, ◌++◌, ◌∷◌, [], sym, subst, length, get_or}
use Rattle.edr_import.specs.declared.sites.Site.{Site}
use Rattle.edr_import.specs.declared.stations.Station.{Station}
use Rattle.edr_import.specs.Tables.{IsStation}
use Rattle.edr_import.proofs.LineLemmas.{HasStations, stations_on, all_stations}
use Rattle.edr_import.proofs.stations.stations_of.Goals as goal

pub loop-place-preserved : goal.loop-place-preserved
loop-place-preserved c =
    let xs = c.args.observations.now in
    let names = c.args.names.now in
    let sites = c.args.sites.now in
    let station : Station = c.in_ok-station_of.field-0 in
    let is : (site : Site) → IsStation xs names (get_or sites c.loop-place.place site) station =
    λ site. subst (λ (s : Site). IsStation xs names s station) (c.at.ensures site) c.in_ok-station_of.ensures in
    let pushed : c.push.new.self.items ≡ c.loop-place.stations.items ++ station ∷ [] = search rules in
    subst (HasStations xs names sites (c.loop-place.place + 1)) (sym pushed)
    (stations_on xs names sites c.loop-place.place c.loop-place.stations.items station c.loop-place.invariant is)

pub returns : goal.returns
returns c =
    let done : c.loop-place.place ≡ length c.args.sites.now = search rules in
    all_stations c.args.observations.now c.args.names.now c.args.sites.now c.loop-place.place c.loop-place.stations.items c.loop-place.invariant done
