use Rattle.std.proofs.Common.{◌≡◌, List, sym, ap, ◌∙◌, subst}
use Rattle.std.proofs.lemmas.Result.{IfOk-weaker}
use Rattle.std.specs.Arc.{arc_value}
use Rattle.edr_ids.specs.Ids.{with_item}
use Rattle.edr_station.specs.Stations.{station_id}
use Rattle.edr_station.specs.Inputs.{station_of}
use Rattle.edr_edition.specs.Values.{InstanceValue}
use Rattle.edr_edition.specs.Editions.{IsCollection}
use Rattle.edr_edition.specs.Collections.{holding}
use Rattle.edr_edition.specs.CollectionLaws.{set_station_keeps}
use Rattle.edr_edition.proofs.CollectionInstances.{station_set}
use Rattle.edr_edition.proofs.collections.CollectionData.with_station.Goals as goal

pub with-requires-clause-collection : goal.with-requires-clause-collection
with-requires-clause-collection c =
    let collection = c.args.self.now in
    let given = c.args.parameters in
    let s = station_of c.args.input in
    let is : IsCollection collection = subst IsCollection c.self.view_is c.self.invariant.0 in
    let set : c.set.new.self.stations ≡ with_item station_id s collection.stations = c.in_ok-set.ensures.set ∙ c.in-Ok.ensures.same s (sym c.bytes.ensures) in
    let become = station_set collection is c.requires.kind (arc_value c.in_ok-parameters.parameters) c.set.new.self.stations given s c.in_ok-parameters.ensures.ok set in
    subst (λ (xs : List InstanceValue). IsCollection (holding collection (arc_value c.in_ok-parameters.parameters) xs c.set.new.self.stations)) (sym c.empty.ensures)
    (subst IsCollection (sym become)
    (set_station_keeps collection s given is (record { placed = c.requires.input.placed; has = record { many = c.requires.counts.many; long = c.requires.counts.long; samples = c.requires.input.samples } })
    c.requires.few c.requires.parameters c.requires.kind c.requires.same c.requires.alike))

pub returns : goal.returns
returns c =
    let collection = c.args.self.now in
    let given = c.args.parameters in
    let s = station_of c.args.input in
    let is : IsCollection collection = subst IsCollection c.self.view_is c.self.invariant.0 in
    let set : c.set.new.self.stations ≡ with_item station_id s collection.stations = c.in_ok-set.ensures.set ∙ c.in-Ok.ensures.same s (sym c.bytes.ensures) in
    let become = ap (λ (xs : List InstanceValue). holding collection (arc_value c.in_ok-parameters.parameters) xs c.set.new.self.stations) c.empty.ensures
    ∙ station_set collection is c.requires.kind (arc_value c.in_ok-parameters.parameters) c.set.new.self.stations given s c.in_ok-parameters.ensures.ok set in
    IfOk-weaker c.with.result _ _ (λ found same. same ∙ become) c.with.ensures
