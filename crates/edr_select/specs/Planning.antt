-- What planning answers.
use Rattle.std.specs.Prelude.{◌≡◌, ⊤, Result, Ok, Err, None, Some}
use Rattle.covjson_value.specs.Coverages.{IsValidDocument}
use Rattle.edr_edition.specs.Values.{EditionValue}
use Rattle.edr_edition.specs.Stores.{Subject, subject_of}
use Rattle.edr_query.specs.declared.pages.Page.TheVariants.{Ask}
use Rattle.edr_query.specs.Values.{QueryValue}
use Rattle.edr_select.specs.declared.planning.PlanFault.{PlanFault}
use Rattle.edr_select.specs.declared.planning.PlanFault.TheVariants.{Refused, OutOfMemory}
use Rattle.edr_select.specs.Refusals.{IsFirstRefusal}
use Rattle.edr_select.specs.Documents.{document}
use Rattle.edr_select.specs.Plans.{PlanValue, StandsFor}

-- no refusal applies to the query, its document is valid, and the plan stands for it in what it names in the edition
pub record IsPlanFor (edition : EditionValue) (query : QueryValue) (plan : PlanValue) : Type 0 where
  pub none : IsFirstRefusal edition (Ask query) None
  pub query_is : plan.query ≡ query
  pub subject : Subject
  pub named : subject_of edition query.collection query.instance ≡ Some subject
  pub valid : IsValidDocument (document subject query)
  pub stands : StandsFor plan subject

-- a plan, or the first refusal that applies; it is free where memory is wanting
abbrev pub MatchPlan : Result PlanValue PlanFault → EditionValue → QueryValue → Type 0
MatchPlan (Ok plan) edition query = IsPlanFor edition query plan
MatchPlan (Err (Refused refusal)) edition query = IsFirstRefusal edition (Ask query) (Some refusal)
MatchPlan (Err OutOfMemory) edition query = ⊤
