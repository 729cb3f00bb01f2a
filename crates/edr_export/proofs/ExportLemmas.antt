-- What a plan says of the document that is held, and what is written for a page.
use Rattle.std.proofs.Common.{◌≡◌, ◌⊎◌, inl, inr, ◌∙◌, ℕ, List, ap, sym, subst, Some, Ok, Err}
use Rattle.std.specs.Prelude.{Result, IfOk}
use Rattle.std.specs.declared.option.Option.{Option}
use Rattle.edr_base.specs.Calls.{Front}
use Rattle.edr_base.specs.declared.refusals.Refusal.{Refusal}
use Rattle.edr_base.specs.declared.sending.SendFault.{SendFault}
use Rattle.edr_base.specs.declared.sending.SendFault.TheVariants as sending
use Rattle.covjson_value.specs.declared.coverages.Document.{Document}
use Rattle.covjson_value.specs.Coverages.{IsValidDocument}
use Rattle.edr_edition.specs.Values.{EditionValue}
use Rattle.edr_edition.specs.Stores.{Subject, subject_of}
use Rattle.edr_query.specs.Values.{QueryValue}
use Rattle.edr_select.specs.Documents.{document}
use Rattle.edr_select.specs.Plans.{PlanValue, StandsFor}
use Rattle.edr_select.specs.Planning.{IsPlanFor}
use Rattle.edr_serve.specs.declared.answering.AnswerFault.{AnswerFault}
use Rattle.edr_serve.specs.declared.answering.AnswerFault.TheVariants.{Refused, WriteFault, OutOfMemory}
use Rattle.edr_serve.specs.Answers.{Answers}
use Rattle.edr_serve.specs.Faults.{of_sending}
use Rattle.edr_csv.specs.Tables.{IsTable, table_text}
use Rattle.edr_csv.specs.Rows.{document_records, WrittenValuesAreRead}
use Rattle.edr_export.specs.Documents.{IsDocumentOf}
use Rattle.edr_export.specs.Exports.{IsTableOf}

same_subject : {s t : Subject} → Some s ≡ Some t → s ≡ t
same_subject e = cc

-- what a store is over that is made with the ids of the query
pub subject_is : (edition : EditionValue) (query : QueryValue) (plan : PlanValue) (subject : Subject) (collection : List ℕ) (instance : Option (List ℕ))
    → (planned : IsPlanFor edition query plan) → collection ≡ query.collection → instance ≡ query.instance → Some subject ≡ subject_of edition collection instance
    → subject ≡ planned.subject
subject_is edition query plan subject collection instance planned c i store =
    same_subject (store ∙ (ap (λ (id : List ℕ). subject_of edition id instance) c ∙ (ap (subject_of edition query.collection) i ∙ planned.named)))

-- the plan stands for its query there
pub stands_in : (edition : EditionValue) (query : QueryValue) (plan : PlanValue) (subject : Subject) (planned : IsPlanFor edition query plan) → subject ≡ planned.subject → StandsFor plan subject
stands_in edition query plan subject planned e = subst (StandsFor plan) (sym e) planned.stands

-- its document is that of the query
pub document_is : (edition : EditionValue) (query : QueryValue) (plan : PlanValue) (subject : Subject) (planned : IsPlanFor edition query plan) → subject ≡ planned.subject
    → document subject plan.query ≡ document planned.subject query
document_is edition query plan subject planned e = ap (λ (s : Subject). document s plan.query) e ∙ ap (document planned.subject) planned.query_is

-- and valid
pub is_valid : (edition : EditionValue) (query : QueryValue) (plan : PlanValue) (subject : Subject) (planned : IsPlanFor edition query plan) → subject ≡ planned.subject
    → IsValidDocument (document subject plan.query)
is_valid edition query plan subject planned e = subst IsValidDocument (sym (document_is edition query plan subject planned e)) planned.valid

pub told_once : (told : Option (List ℕ)) (one other : List ℕ) → told ≡ Some one → told ≡ Some other → one ≡ other
told_once told one other e f = cc

-- what is held is the document of the query
pub held : (edition : EditionValue) (query : QueryValue) (plan : PlanValue) (d : Document) (planned : IsPlanFor edition query plan) → d ≡ document planned.subject query → IsDocumentOf edition query d
held edition query plan d planned e = record {
  none = planned.none;
  subject = planned.subject;
  named = planned.named;
  held_is = e;
  valid = subst IsValidDocument (sym e) planned.valid;
}

-- its table is that of the query
pub table_is : WrittenValuesAreRead → (edition : EditionValue) (query : QueryValue) (d : Document) → IsDocumentOf edition query d → IsTableOf edition query (table_text (document_records d))
table_is written edition query d h = record {
  none = h.none;
  subject = h.subject;
  named = h.named;
  text_is = ap (λ (e : Document). table_text (document_records e)) h.held_is;
  reads_back = subst (λ (e : Document). IsTable (table_text (document_records d)) (document_records e)) h.held_is (written d);
}

-- a beginning of a text was written, and a fault of the sink is answered
pub sent_in_part : (T : Type 0) (fault : SendFault) (P : Result (List ℕ) Refusal → Type 0) (text : List ℕ) (old new : Option (List ℕ))
    → P (Ok text) → Front text old new → Answers {T = T} (Err (of_sending fault)) P old new
sent_in_part T sending.WriteFault P text old new is front = record { text = text; is = is; front = front }
sent_in_part T sending.OutOfMemory P text old new is front = inr (record { text = text; is = is; front = front })

-- what is written as one answer is also written as another
pub answers_more : {T : Type 0} (r : Result T AnswerFault) (P Q : Result (List ℕ) Refusal → Type 0) (old new : Option (List ℕ))
    → ((answer : Result (List ℕ) Refusal) → P answer → Q answer) → Answers r P old new → Answers r Q old new
answers_more (Ok done) P Q old new h w = (w.0, h (Ok w.0) w.1, w.2)
answers_more (Err (Refused refusal)) P Q old new h w = (h (Err refusal) w.0, w.1)
answers_more (Err WriteFault) P Q old new h w = record { text = w.text; is = h (Ok w.text) w.is; front = w.front }
answers_more (Err OutOfMemory) P Q old new h (inl e) = inl e
answers_more (Err OutOfMemory) P Q old new h (inr w) = inr (record { text = w.text; is = h (Ok w.text) w.is; front = w.front })

-- an answer that is one document is also an equal one
pub ok_is : {E : Type 0} (r : Result Document E) (one other : Document) → IfOk r (λ d. d ≡ one) → one ≡ other → IfOk r (λ d. d ≡ other)
ok_is (Ok d) one other h e = h ∙ e
ok_is (Err f) one other h e = tt
