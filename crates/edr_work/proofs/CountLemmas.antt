-- What a plan says of what is counted.
use Rattle.std.proofs.Common.{◌≡◌, ◌∙◌, ℕ, List, ap, sym, subst, length, Some}
use Rattle.std.specs.declared.option.Option.{Option}
use Rattle.covjson_value.specs.declared.coverages.Document.{Document}
use Rattle.covjson_value.specs.Coverages.{IsValidDocument}
use Rattle.edr_station.specs.declared.tallies.Tally.{Tally}
use Rattle.edr_station.specs.Tallies.{tally_of}
use Rattle.edr_edition.specs.Values.{EditionValue}
use Rattle.edr_edition.specs.Stores.{Subject, subject_of}
use Rattle.edr_query.specs.Values.{QueryValue}
use Rattle.edr_select.specs.Documents.{document}
use Rattle.edr_select.specs.Plans.{PlanValue, StandsFor}
use Rattle.edr_select.specs.Planning.{IsPlanFor}
use Rattle.edr_select.specs.Selections.{needed}
use Rattle.edr_work.specs.Lines.{document_values}
use Rattle.edr_work.specs.Counting.{IsCount}

same_subject : (s t : Subject) → Some s ≡ Some t → s ≡ t
same_subject s t e = cc

-- what a store is over that is made with the ids of the query
pub subject_is : (edition : EditionValue) (query : QueryValue) (plan : PlanValue) (subject : Subject) (collection : List ℕ) (instance : Option (List ℕ))
    → (planned : IsPlanFor edition query plan) → collection ≡ query.collection → instance ≡ query.instance → Some subject ≡ subject_of edition collection instance
    → subject ≡ planned.subject
subject_is edition query plan subject collection instance planned c i store =
    same_subject subject planned.subject (store ∙ (ap (λ (id : List ℕ). subject_of edition id instance) c ∙ (ap (subject_of edition query.collection) i ∙ planned.named)))

-- the plan stands for its query there
pub stands_in : (edition : EditionValue) (query : QueryValue) (plan : PlanValue) (subject : Subject) (planned : IsPlanFor edition query plan) → subject ≡ planned.subject → StandsFor plan subject
stands_in edition query plan subject planned e = subst (StandsFor plan) (sym e) planned.stands

-- its document is valid
pub is_valid : (edition : EditionValue) (query : QueryValue) (plan : PlanValue) (subject : Subject) (planned : IsPlanFor edition query plan) → subject ≡ planned.subject
    → IsValidDocument (document subject plan.query)
is_valid edition query plan subject planned e =
    subst IsValidDocument (ap (λ (s : Subject). document s query) (sym e) ∙ ap (document subject) (sym planned.query_is)) planned.valid

-- what was counted
pub counted : (edition : EditionValue) (query : QueryValue) (plan : PlanValue) (subject : Subject) (tally : Tally) (opened : ℕ) (planned : IsPlanFor edition query plan) → subject ≡ planned.subject
    → tally ≡ tally_of (document_values (document subject plan.query)) → opened ≡ length (needed subject plan.query) → IsCount edition query tally opened
counted edition query plan subject tally opened planned e t o = record {
  none = planned.none;
  subject = planned.subject;
  named = planned.named;
  tally_is = t ∙ ap (λ (d : Document). tally_of (document_values d)) (ap (λ (s : Subject). document s plan.query) e ∙ ap (document planned.subject) planned.query_is);
  opened_is = o ∙ ap (λ (list : List ℕ). length list) (ap (λ (s : Subject). needed s plan.query) e ∙ ap (needed planned.subject) planned.query_is);
}

-- what is told twice is the same
pub told_once : (told : Option (List ℕ)) (one other : List ℕ) → told ≡ Some one → told ≡ Some other → one ≡ other
told_once told one other e f = cc
