use Rattle.std.proofs.Common.{sym, ap, ◌∙◌, subst}
use Rattle.std.specs.Arc.{arc_value}
use Rattle.edr_station.specs.declared.station.Axes.{Axes}
use Rattle.edr_station.specs.Stations.{StationValue}
use Rattle.edr_station.specs.Inputs.{station_of}
use Rattle.edr_station.specs.Kept.{IsKept}
use Rattle.edr_station.proofs.StationParts.{id_inside, parts_are}
use Rattle.edr_station.proofs.station.Station.of.Goals as goal

pub with-requires-clause-inside : goal.with-requires-clause-inside
with-requires-clause-inside c = id_inside (station_of c.args.input) c.in_ok-names.names c.len_of-id_len.result c.in_ok-names.ensures.names c.len_of-id_len.ensures

pub with-requires-clause-kept : goal.with-requires-clause-kept
with-requires-clause-kept c =
    let s : StationValue = station_of c.args.input in
    let axes : Axes = arc_value c.in_ok-axes.axes in
    let same = parts_are s c.in_ok-names.names c.len_of-id_len.result c.spot_of-spot.result axes.times axes.levels c.in_ok-names.series c.in_ok-names.ensures.names c.len_of-id_len.ensures c.spot_of-spot.ensures
    (ap (λ (a : Axes). a.times) c.in_ok-axes.ensures) (ap (λ (a : Axes). a.levels) c.in_ok-axes.ensures) c.in_ok-names.ensures.series in
    subst IsKept (sym same) (record { station = record { placed = c.requires.placed; has = c.requires.series }; counted = c.in_ok-names.ensures.counted })

pub returns : goal.returns
returns c =
    let s : StationValue = station_of c.args.input in
    let axes : Axes = arc_value c.in_ok-axes.axes in
    c.with.ensures
    ∙ parts_are s c.in_ok-names.names c.len_of-id_len.result c.spot_of-spot.result axes.times axes.levels c.in_ok-names.series c.in_ok-names.ensures.names c.len_of-id_len.ensures c.spot_of-spot.ensures
    (ap (λ (a : Axes). a.times) c.in_ok-axes.ensures) (ap (λ (a : Axes). a.levels) c.in_ok-axes.ensures) c.in_ok-names.ensures.series
