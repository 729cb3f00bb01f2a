use Rattle.std.proofs.Common.{◌≡◌, List, [], Option, None, Some, refl, sym, ap, subst}
use Rattle.edr_station.specs.Stations.{StationValue, StationsValue}
use Rattle.edr_edition.specs.declared.kinds.Kind.{Kind}
use Rattle.edr_edition.specs.declared.kinds.Kind.TheVariants.{Grid, Station}
use Rattle.edr_edition.specs.declared.collections.Head.{Head}
use Rattle.edr_edition.specs.Values.{InstanceValue}
use Rattle.edr_edition.specs.Editions.{IsCollection}
use Rattle.edr_edition.specs.Collections.{empty_collection, stations_in, KeepsStations}
use Rattle.edr_edition.specs.CollectionLaws.{empty_is_collection}
use Rattle.edr_edition.proofs.collections.CollectionData.empty.Goals as goal

none_kept : (kind : Kind) (kept : Option StationsValue) → (kind ≡ Grid → kept ≡ None) → (kind ≡ Station → kept ≡ Some (record { parameters = 0; stations = [] })) → (stations_in kept ≡ []) × KeepsStations kind [] kept
none_kept Grid kept grids stations = (ap stations_in (grids refl), subst (KeepsStations Grid []) (sym (grids refl)) tt)
none_kept Station kept grids stations = (ap stations_in (stations refl), subst (KeepsStations Station []) (sym (stations refl)) refl)

pub invariant_of-result : goal.invariant_of-result
invariant_of-result c =
    let kept = none_kept c.args.kind c.no_stations.result c.no_stations.ensures.grids c.no_stations.ensures.stations in
    subst (λ (head : Head). IsCollection (record {
      id = head.id;
      title = head.title;
      kind = head.kind;
      referencing = head.referencing;
      parameters = [];
      instances = c.empty.result;
      stations = stations_in c.no_stations.result;
    }) × KeepsStations head.kind [] c.no_stations.result) (sym c.in_ok-head.ensures.ok) (
      subst (λ (instances : List InstanceValue). IsCollection (record (empty_collection c.args.id c.args.kind c.args.title c.args.referencing) { instances = instances; stations = stations_in c.no_stations.result }))
          (sym c.empty.ensures)
          (subst (λ (stations : List StationValue). IsCollection (record (empty_collection c.args.id c.args.kind c.args.title c.args.referencing) { stations = stations })) (sym kept.0)
          (empty_is_collection c.args.id c.args.kind c.args.title c.args.referencing c.requires.id c.requires.title c.requires.referencing)),
      kept.1,
    )
