-- What is planned by the refusal that is found is planned by the first.
use Rattle.std.proofs.Common.{◌≡◌, sym, subst}
use Rattle.std.specs.Prelude.{None, Some, Ok, Err, Result, IfOk, IfErr}
use Rattle.edr_edition.specs.Values.{EditionValue}
use Rattle.edr_query.specs.Values.{QueryValue}
use Rattle.edr_query.specs.declared.pages.Page.TheVariants.{Ask}
use Rattle.edr_select.specs.declared.planning.PlanFault.{PlanFault}
use Rattle.edr_select.specs.declared.planning.PlanFault.TheVariants.{Refused, OutOfMemory}
use Rattle.edr_select.specs.Plans.{PlanValue, IsReplyTo}
use Rattle.edr_select.specs.Planning.{MatchPlan}
use Rattle.edr_select.specs.Refusals.{refused}
use Rattle.edr_select.specs.RefusalLaws.{found_first}
use Rattle.edr_select.specs.Steps.{IsFaultOf}
use Rattle.edr_plan.specs.Found.{IsReplyOf}

pub match_plan : (edition : EditionValue) (q : QueryValue) (result : Result PlanValue PlanFault)
    → IfOk result (λ plan. (plan.query ≡ q) × IsReplyOf edition q plan.reply) → IfErr result (IsFaultOf (refused edition (Ask q))) → MatchPlan result edition q
match_plan edition q (Ok plan) planned fault = record {
  none = found_first edition (Ask q) None planned.1.none;
  query_is = planned.0;
  subject = planned.1.subject;
  named = planned.1.named;
  valid = planned.1.valid;
  stands = subst (λ (asked : QueryValue). IsReplyTo plan.reply asked planned.1.subject) (sym planned.0) planned.1.stands;
}
match_plan edition q (Err (Refused refusal)) planned fault = found_first edition (Ask q) (Some refusal) fault
match_plan edition q (Err OutOfMemory) planned fault = tt
