-- What is planned, or refused, by the refusal that is found from that of names on is so by the first, and the other way round; for the
-- proofs of the calls that plan.
use Rattle.std.proofs.Common.{None, Some}
use Rattle.edr_edition.specs.Values.{InstanceValue, CollectionValue}
use Rattle.edr_query.specs.Values.{QueryValue}
use Rattle.edr_select.specs.declared.planning.PlanFault.{PlanFault}
use Rattle.edr_select.specs.declared.planning.PlanFault.TheVariants.{Refused, OutOfMemory}
use Rattle.edr_select.specs.Checks.{refused_query}
use Rattle.edr_select.specs.Plans.{PlanValue}
use Rattle.edr_select.specs.RefusalLaws.{found_of_query, of_query_found}
use Rattle.edr_select.specs.Steps.{IsFaultOf, IsFirstFault, IsPlanIn, IsPlanOver}

pub plan_over : (collection : CollectionValue) (q : QueryValue) (instance : InstanceValue) (plan : PlanValue)
    → IsPlanIn collection q instance plan → IsPlanOver collection q instance plan
plan_over collection q instance plan h =
    record { none = found_of_query collection q None h.none; query_is = h.query_is; valid = h.valid; stands = h.stands }

pub plan_in : (collection : CollectionValue) (q : QueryValue) (instance : InstanceValue) (plan : PlanValue)
    → IsPlanOver collection q instance plan → IsPlanIn collection q instance plan
plan_in collection q instance plan h =
    record { none = of_query_found collection q None h.none; query_is = h.query_is; valid = h.valid; stands = h.stands }

pub fault_first : (collection : CollectionValue) (q : QueryValue) (fault : PlanFault)
    → IsFaultOf (refused_query collection q) fault → IsFirstFault collection q fault
fault_first collection q (Refused refusal) h = found_of_query collection q (Some refusal) h
fault_first collection q OutOfMemory h = tt

pub first_fault : (collection : CollectionValue) (q : QueryValue) (fault : PlanFault)
    → IsFirstFault collection q fault → IsFaultOf (refused_query collection q) fault
first_fault collection q (Refused refusal) h = of_query_found collection q (Some refusal) h
first_fault collection q OutOfMemory h = tt
