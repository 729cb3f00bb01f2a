use Rattle.std.proofs.Common.{◌≡◌, ◌^◌, ◌<◌, Some, sym, ap, ◌∙◌, subst, arith}
use Rattle.std.specs.Arc.{arc_value}
use Rattle.edr_ids.specs.Ids.{with_item}
use Rattle.edr_station.specs.Stations.{StationValue, StationsValue, IsStation, station_id}
use Rattle.edr_station.specs.Nearest.{HaveThese}
use Rattle.edr_station.specs.Blocks.{blocks}
use Rattle.edr_station.specs.Inputs.{station_of}
use Rattle.edr_station.specs.Shelves.{splice}
use Rattle.edr_station.specs.Places.{IsSpanOf}
use Rattle.edr_station.proofs.KeptStations.{kept_with, with_span}
use Rattle.edr_station.proofs.stations.Stations.set.Goals as goal

pub invariant_of-self : goal.invariant_of-self
invariant_of-self c =
    let i : StationsValue = record { parameters = c.self.inside.parameters; stations = c.self.inside.shelf } in
    let new = station_of c.args.input in
    let place = c.span_of-place.result.0 in
    let end = c.span_of-place.result.1 in
    let span : IsSpanOf new.id i.stations place end = subst (λ k. IsSpanOf k i.stations place end) c.bytes.ensures c.span_of-place.ensures in
    let station : arc_value c.in_ok-station.station ≡ new = c.in_ok-station.ensures in
    let made : c.in_ok-self-inside.field-0 ≡ splice place end (Some new) i.stations =
    c.in_ok-self-inside.ensures.same ∙ (c.in_ok-shelf.ensures ∙ ap (λ (x : StationValue). splice place end (Some x) i.stations) station) in
    let is : IsStation i.parameters new = record {
      placed = c.requires.input.placed;
      has = record { many = c.requires.counts.many ∙ ap (λ (v : StationsValue). v.parameters) (sym c.self.view_is); long = c.requires.counts.long; samples = c.requires.input.samples };
    } in
    let counted : blocks i.parameters c.in_ok-self-inside.field-0 < 2 ^ 64 = omega (arith, ap (blocks i.parameters) c.in_ok-self-inside.ensures.same, c.in_ok-self-inside.ensures.counted) in (
      kept_with i new place end c.in_ok-self-inside.field-0 c.self.invariant.0 is span made counted,
      subst (HaveThese c.in_ok-cells.cells) (ap (λ (s : StationValue). with_item station_id s i.stations) station ∙ (with_span new i.stations place end c.self.invariant.0.stations.ascending span ∙ sym made)) c.in_ok-cells.ensures,
    )

pub returns-clause-set : goal.returns-clause-set
returns-clause-set c =
    let i : StationsValue = record { parameters = c.self.inside.parameters; stations = c.self.inside.shelf } in
    let new = station_of c.args.input in
    let place = c.span_of-place.result.0 in
    let end = c.span_of-place.result.1 in
    let span : IsSpanOf new.id i.stations place end = subst (λ k. IsSpanOf k i.stations place end) c.bytes.ensures c.span_of-place.ensures in
    let station : arc_value c.in_ok-station.station ≡ new = c.in_ok-station.ensures in
    let made : c.in_ok-self-inside.field-0 ≡ splice place end (Some new) i.stations =
    c.in_ok-self-inside.ensures.same ∙ (c.in_ok-shelf.ensures ∙ ap (λ (x : StationValue). splice place end (Some x) i.stations) station) in
    made ∙ (sym (with_span new i.stations place end c.self.invariant.0.stations.ascending span) ∙ ap (λ (v : StationsValue). with_item station_id new v.stations) c.self.view_is)
