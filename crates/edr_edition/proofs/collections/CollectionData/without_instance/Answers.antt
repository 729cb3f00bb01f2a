use Rattle.std.proofs.Common.{◌≡◌, sym, ap, ◌∙◌, subst}
use Rattle.edr_ids.specs.Ids.{without_id}
use Rattle.edr_edition.specs.Values.{CollectionValue, instance_id}
use Rattle.edr_edition.specs.Editions.{IsCollection}
use Rattle.edr_edition.specs.Collections.{parameters_in}
use Rattle.edr_edition.specs.CollectionLaws.{take_instance_keeps}
use Rattle.edr_edition.proofs.CollectionInstances.{count_is, instance_taken}
use Rattle.edr_edition.proofs.collections.CollectionData.without_instance.Goals as goal

pub with-requires-clause-collection : goal.with-requires-clause-collection
with-requires-clause-collection c =
    let collection = c.args.self.now in
    let id = c.args.id.now in
    let is : IsCollection collection = subst IsCollection c.self.view_is c.self.invariant.0 in
    let list : c.in_ok-instances.instances ≡ collection.instances = c.in_ok-instances.ensures ∙ ap (λ (b : CollectionValue). b.instances) c.self.view_is in
    let left : c.take_out.new.self ≡ without_id instance_id id collection.instances = c.in_ok-take_out.ensures.without ∙ ap (without_id instance_id id) list in
    let parameters = count_is collection.parameters c.in_ok-parameters.ensures c.len.ensures.len in
    subst IsCollection (sym (instance_taken collection is c.requires (parameters_in c.in_ok-parameters.parameters) c.take_out.new.self id parameters left))
    (take_instance_keeps collection id is c.requires)

pub returns-clause-left : goal.returns-clause-left
returns-clause-left c =
    let collection = c.args.self.now in
    let id = c.args.id.now in
    let is : IsCollection collection = subst IsCollection c.self.view_is c.self.invariant.0 in
    let list : c.in_ok-instances.instances ≡ collection.instances = c.in_ok-instances.ensures ∙ ap (λ (b : CollectionValue). b.instances) c.self.view_is in
    let left : c.take_out.new.self ≡ without_id instance_id id collection.instances = c.in_ok-take_out.ensures.without ∙ ap (without_id instance_id id) list in
    let parameters = count_is collection.parameters c.in_ok-parameters.ensures c.len.ensures.len in
    c.in_ok-with.ensures ∙ instance_taken collection is c.requires (parameters_in c.in_ok-parameters.parameters) c.take_out.new.self id parameters left
