-- What is planned over an instance of a collection, or refused of it, is so of the collection that has the instance.
use Rattle.std.proofs.Common.{◌≡◌, ◌∙◌, ap}
use Rattle.std.specs.Prelude.{List, ℕ, None, Some, Ok, Err, Option, Result, IfOk, IfErr, option_map}
use Rattle.edr_edition.specs.Values.{InstanceValue, CollectionValue}
use Rattle.edr_edition.specs.declared.kinds.Kind.{Kind}
use Rattle.edr_edition.specs.declared.kinds.Kind.TheVariants.{Grid}
use Rattle.edr_edition.specs.Stores.{Held, Subject, held_in, instance_named, of_grid, subject_in}
use Rattle.edr_query.specs.Values.{QueryValue}
use Rattle.edr_query.specs.declared.pages.Page.TheVariants.{Ask}
use Rattle.edr_select.specs.declared.planning.PlanFault.{PlanFault}
use Rattle.edr_select.specs.declared.planning.PlanFault.TheVariants.{Refused, OutOfMemory}
use Rattle.edr_select.specs.declared.plans.Reply.{Reply}
use Rattle.edr_select.specs.Checks.{refused_in, grid_of}
use Rattle.edr_select.specs.RefusalLaws.{of_query_found}
use Rattle.edr_select.specs.Steps.{IsFaultOf, IsFirstFault, IsPlanOver}
use Rattle.edr_plan.specs.Found.{IsFoundIn, IsReplyIn}

abbrev subject_held : CollectionValue → Held → Subject
subject_held collection held = record { collection = collection; held = held }

subject_named : (collection : CollectionValue) (id : Option (List ℕ)) (instance : InstanceValue) → collection.kind ≡ Grid
    → instance_named id collection.instances ≡ Some instance → subject_in id collection ≡ Some (grid_of collection instance)
subject_named collection id instance kind named =
    ap (λ (k : Kind). option_map (subject_held collection) (held_in collection k id)) kind
    ∙ ap (λ (o : Option InstanceValue). option_map (subject_held collection) (option_map of_grid o)) named

pub reply_in : (collection : CollectionValue) (q : QueryValue) (instance : InstanceValue) → collection.kind ≡ Grid → IsFoundIn collection q instance
    → (result : Result Reply PlanFault)
    → IfOk result (λ reply. IsPlanOver collection q instance (record { query = q; reply = reply })) → IfOk result (IsReplyIn collection q)
reply_in collection q instance kind found (Ok reply) h = record {
  none = found.refused_is ∙ of_query_found collection q None h.none;
  subject = grid_of collection instance;
  named = subject_named collection q.instance instance kind found.instance_is;
  valid = h.valid;
  stands = h.stands;
}
reply_in collection q instance kind found (Err fault) h = tt

pub fault_in : (collection : CollectionValue) (q : QueryValue) (instance : InstanceValue) → IsFoundIn collection q instance
    → (result : Result Reply PlanFault) → IfErr result (IsFirstFault collection q) → IfErr result (IsFaultOf (refused_in collection (Ask q)))
fault_in collection q instance found (Ok reply) h = tt
fault_in collection q instance found (Err (Refused refusal)) h = found.refused_is ∙ of_query_found collection q (Some refusal) h
fault_in collection q instance found (Err OutOfMemory) h = tt
