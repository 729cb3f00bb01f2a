-- What is written for a page.
use Rattle.std.proofs.Common.{◌≡◌, inl, inr, ◌∙◌, ℕ, List, ap, sym, subst, arith, Some, Ok, Err}
use Rattle.std.specs.Prelude.{Result, option_map}
use Rattle.std.specs.declared.option.Option.{Option}
use Rattle.edr_base.specs.Calls.{Front}
use Rattle.edr_base.specs.declared.refusals.Refusal.{Refusal}
use Rattle.edr_base.specs.declared.sending.SendFault.{SendFault}
use Rattle.edr_base.specs.declared.sending.SendFault.TheVariants as sending
use Rattle.covjson_value.specs.Trees.{document_text}
use Rattle.edr_edition.specs.Values.{EditionValue}
use Rattle.edr_edition.specs.Stores.{Subject, subject_of}
use Rattle.edr_query.specs.Values.{QueryValue}
use Rattle.edr_query.specs.declared.pages.Page.TheVariants.{Ask}
use Rattle.edr_select.specs.Documents.{document}
use Rattle.edr_select.specs.Plans.{PlanValue, StandsFor}
use Rattle.edr_select.specs.Planning.{IsPlanFor}
use Rattle.edr_serve.specs.declared.answering.AnswerFault.{AnswerFault}
use Rattle.edr_serve.specs.declared.answering.AnswerFault.TheVariants.{Refused, WriteFault, OutOfMemory}
use Rattle.edr_describe.specs.Answers.{IsTextOf}
use Rattle.edr_serve.specs.Answers.{Answers}
use Rattle.edr_serve.specs.Faults.{of_sending}

-- ---- queries

-- the text of the document is that of the query, of the ids that a store is made with
pub text_planned : (edition : EditionValue) (query : QueryValue) (plan : PlanValue) (subject : Subject) (collection : List ℕ) (instance : Option (List ℕ))
    → IsPlanFor edition query plan → collection ≡ query.collection → instance ≡ query.instance → Some subject ≡ subject_of edition collection instance
    → IsTextOf edition (Ask query) (document_text (document subject plan.query))
text_planned edition query plan subject collection instance planned c i store = record {
  none = planned.none;
  text_is = ap (option_map (λ (s : Subject). document_text (document s query))) (ap (λ (id : List ℕ). subject_of edition id query.instance) (sym c) ∙ (ap (subject_of edition collection) (sym i) ∙ sym store))
      ∙ ap (λ (q : QueryValue). Some (document_text (document subject q))) (sym planned.query_is);
}

same_subject : {s t : Subject} → Some s ≡ Some t → s ≡ t
same_subject e = grind (arith, e)

-- the plan stands for its query in the subject of a store that is made with these ids
pub stands_planned : (edition : EditionValue) (query : QueryValue) (plan : PlanValue) (subject : Subject) (collection : List ℕ) (instance : Option (List ℕ))
    → IsPlanFor edition query plan → collection ≡ query.collection → instance ≡ query.instance → Some subject ≡ subject_of edition collection instance
    → StandsFor plan subject
stands_planned edition query plan subject collection instance planned c i store =
    let named : Some subject ≡ Some planned.subject =
    store ∙ (ap (λ (id : List ℕ). subject_of edition id instance) c ∙ (ap (subject_of edition query.collection) i ∙ planned.named)) in
    subst (StandsFor plan) (sym (same_subject named)) planned.stands

-- a beginning of its text was written, and a fault of the sink is answered
pub sent_in_part : (T : Type 0) (fault : SendFault) (P : Result (List ℕ) Refusal → Type 0) (text : List ℕ) (old new : Option (List ℕ))
    → P (Ok text) → Front text old new → Answers {T = T} (Err (of_sending fault)) P old new
sent_in_part T sending.WriteFault P text old new is front = record { text = text; is = is; front = front }
sent_in_part T sending.OutOfMemory P text old new is front = inr (record { text = text; is = is; front = front })

-- ---- targets

-- what is written as one answer is also written as another
pub answers_more : {T : Type 0} (r : Result T AnswerFault) (P Q : Result (List ℕ) Refusal → Type 0) (old new : Option (List ℕ))
    → ((answer : Result (List ℕ) Refusal) → P answer → Q answer) → Answers r P old new → Answers r Q old new
answers_more (Ok done) P Q old new h w = (w.0, h (Ok w.0) w.1, w.2)
answers_more (Err (Refused refusal)) P Q old new h w = (h (Err refusal) w.0, w.1)
answers_more (Err WriteFault) P Q old new h w = record { text = w.text; is = h (Ok w.text) w.is; front = w.front }
answers_more (Err OutOfMemory) P Q old new h (inl e) = inl e
answers_more (Err OutOfMemory) P Q old new h (inr w) = inr (record { text = w.text; is = h (Ok w.text) w.is; front = w.front })
