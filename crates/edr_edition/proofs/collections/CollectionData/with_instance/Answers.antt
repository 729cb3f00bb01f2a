use Rattle.std.proofs.Common.{◌≡◌, sym, ap, ◌∙◌, subst}
use Rattle.std.proofs.lemmas.Result.{IfOk-weaker}
use Rattle.std.specs.Arc.{arc_value}
use Rattle.edr_ids.specs.Ids.{with_item}
use Rattle.edr_edition.specs.Values.{CollectionValue, instance_id}
use Rattle.edr_edition.specs.Instances.{IsInstance}
use Rattle.edr_edition.specs.Editions.{IsCollection}
use Rattle.edr_edition.specs.CollectionLaws.{set_instance_keeps}
use Rattle.edr_edition.proofs.CollectionInstances.{instance_set}
use Rattle.edr_edition.proofs.collections.CollectionData.with_instance.Goals as goal

pub with-requires-clause-collection : goal.with-requires-clause-collection
with-requires-clause-collection c =
    let collection = c.args.self.now in
    let is : IsCollection collection = subst IsCollection c.self.view_is c.self.invariant.0 in
    let one : IsInstance c.args.instance = c.shared_for.ensures.instance in
    let list : c.in-Ok.shared.1 ≡ collection.instances = c.in-Ok.ensures.instances in
    let set : c.put.new.self ≡ with_item instance_id c.args.instance collection.instances = c.in_ok-put.ensures.put ∙ ap (with_item instance_id c.args.instance) list in
    subst IsCollection (sym (instance_set collection is c.requires.kind (arc_value c.in-Ok.shared.0) c.put.new.self c.args.instance c.in-Ok.ensures.parameters set))
    (set_instance_keeps collection c.args.instance is one c.requires.kind c.requires.same)

pub returns : goal.returns
returns c =
    let collection = c.args.self.now in
    let is : IsCollection collection = subst IsCollection c.self.view_is c.self.invariant.0 in
    let list : c.in-Ok.shared.1 ≡ collection.instances = c.in-Ok.ensures.instances in
    let set : c.put.new.self ≡ with_item instance_id c.args.instance collection.instances = c.in_ok-put.ensures.put ∙ ap (with_item instance_id c.args.instance) list in
    let become = instance_set collection is c.requires.kind (arc_value c.in-Ok.shared.0) c.put.new.self c.args.instance c.in-Ok.ensures.parameters set in
    IfOk-weaker c.with.result _ _ (λ found same. same ∙ become) c.with.ensures
