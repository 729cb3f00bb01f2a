-- Laws of replies of data, and what is told of them.
use Rattle.std.proofs.Common.{◌≡◌, ◌≢◌, ℕ, List, sym, ap, ◌∙◌, subst, Some, None, Ok, Err, inl, inr}
use Rattle.std.specs.Prelude.{Result}
use Rattle.std.specs.declared.option.Option.{Option}
use Rattle.edr_http.specs.Heads.{Told}
use Rattle.edr_json.specs.Json.{TextsHaveOneTree}
use Rattle.edr_json.specs.Trees.{text_or_empty}
use Rattle.serde_json.specs.Find.{get}
use Rattle.serde_json.specs.Data.{Data}
use Rattle.std.specs.Prelude.{codes}
use Rattle.covjson_value.specs.declared.coverages.Document.{Document}
use Rattle.covjson_checks.specs.declared.faults.CovFault.{CovFault}
use Rattle.covjson_checks.specs.declared.faults.CovFault.TheVariants as cov
use Rattle.covjson_read.specs.Standing.{StandsForDocument}
use Rattle.covjson_read.specs.Rows.{DocumentRows}
use Rattle.covjson_read.specs.Laws.{DocumentRowsHaveOneAnswer, TextsHaveOneDocument}
use Rattle.edr_reply.specs.declared.messages.Message.{Message}
use Rattle.edr_reply.specs.Messages.{IsMessage, TakesMessage}
use Rattle.edr_reply.specs.BrokenParts.{IsFirstBreak}
use Rattle.edr_reply.specs.Laws.{MessageIsOne, BreakIsOne, BrokenIsNone}
use Rattle.edr_client.specs.declared.replies.Reply.{Reply}
use Rattle.edr_client.specs.declared.replies.ReplyFault.{ReplyFault}
use Rattle.edr_client.specs.declared.replies.ReplyFault.TheVariants.{ReadFault, BadReply, NotData, Cov, OutOfMemory}
use Rattle.edr_client.specs.Replies.{IsCode, IsReply, IsNotData, IsNoDocument, IsLeft}
use Rattle.edr_client.specs.Answering.{TellsCov, Answers}
use Rattle.edr_client.specs.Laws.{OneIsHeard}

-- a body that stands for no document is answered with its fault, or want of memory
pub cov_answers : (message : Message) (fault : CovFault) (result : ReplyFault) → message.status ≡ 200
    → (fault ≢ cov.OutOfMemory → (document : Document) → ¬ (StandsForDocument message.body document)) → (fault ≢ cov.OutOfMemory → DocumentRows message.body (Err fault))
    → TellsCov fault result → Answers message (Err result)
cov_answers message fault ReadFault s none rows t = absurd t
cov_answers message fault (BadReply place) s none rows t = absurd t
cov_answers message fault (NotData status code) s none rows t = absurd t
cov_answers message fault (Cov found) s none rows t = (s, none t.1, subst (λ (f : CovFault). DocumentRows message.body (Err f)) (sym t.0) (rows t.1))
cov_answers message fault OutOfMemory s none rows t = tt

-- where the bytes are told
pub no_document_told : (message : Message) (fault : CovFault) (left left' : Option (List ℕ)) → Told (TakesMessage message) left left' → Answers message (Err (Cov fault)) → Told (λ bytes rest. IsLeft (IsNoDocument bytes fault) rest) left left'
no_document_told message fault None left' t a = tt
no_document_told message fault (Some bytes) None t a = absurd t
no_document_told message fault (Some bytes) (Some rest) t a = (t.0, record { message = message; is_message = t.1; status = a.0; none = a.1; first_fault = a.2 }, t.2)

-- ---- one thing is heard

code_one : TextsHaveOneTree → (body a b : List ℕ) → IsCode body a → IsCode body b → a ≡ b
code_one trees body a b (inl x) (inl y) = x.2 ∙ (ap (λ (t : Data). text_or_empty (get (codes "code") t)) (trees body x.0 y.0 x.1 y.1) ∙ sym y.2)
code_one trees body a b (inl x) (inr y) = absurd (y.0 x.0 x.1)
code_one trees body a b (inr x) (inl y) = absurd (x.0 y.0 y.1)
code_one trees body a b (inr x) (inr y) = x.1 ∙ sym y.1

same_reply : (a b : Reply) → a.edition ≡ b.edition → a.document ≡ b.document → a ≡ b
same_reply a b e d = ap (λ (n : Option ℕ). record { edition = n; document = a.document }) e ∙ ap (λ (w : Document). record { edition = b.edition; document = w }) d

same_not_data : (s t : ℕ) (a b : List ℕ) → s ≡ t → a ≡ b → NotData s a ≡ NotData t b
same_not_data s t a b e f = ap (λ (n : ℕ). NotData n a) e ∙ ap (λ (w : List ℕ). NotData t w) f

module _ (messages : MessageIsOne) (broken : BrokenIsNone) (breaks : BreakIsOne) (trees : TextsHaveOneTree) (documents : TextsHaveOneDocument) (rows : DocumentRowsHaveOneAnswer) where
  -- a reply isn't broken
  whole : (bytes : List ℕ) (message : Message) (rest : List ℕ) (place : ℕ) → IsMessage bytes message rest → IsFirstBreak bytes place → ⊥
  whole bytes message rest place x y = broken bytes place y.applies message rest x

  -- a status of data is no other one
  other_status : (bytes : List ℕ) (m n : Message) (r q : List ℕ) (status : ℕ) → IsMessage bytes m r → m.status ≡ 200 → IsMessage bytes n q → status ≡ n.status → status ≢ 200 → ⊥
  other_status bytes m n r q status x s y e other = other (e ∙ (ap (λ (w : Message). w.status) (messages bytes n m q r y x).0 ∙ s))

  replies_one : (bytes : List ℕ) (a b : Reply) (r q : List ℕ) → IsReply bytes a r → IsReply bytes b q → a ≡ b
  replies_one bytes a b r q x y =
      let one = (messages bytes x.message y.message r q x.is_message y.is_message).0 in
      let there : StandsForDocument y.message.body a.document = subst (λ (m : Message). StandsForDocument m.body a.document) one x.document in
      same_reply a b (x.edition ∙ (ap (λ (m : Message). m.edition) one ∙ sym y.edition)) (documents y.message.body a.document b.document there y.document)

  no_document_none : (bytes : List ℕ) (a : Reply) (r q : List ℕ) (fault : CovFault) → IsReply bytes a r → IsNoDocument bytes fault q → ⊥
  no_document_none bytes a r q fault x y =
      let one = (messages bytes x.message y.message r q x.is_message y.is_message).0 in
      y.none a.document (subst (λ (m : Message). StandsForDocument m.body a.document) one x.document)

  not_data_one : (bytes : List ℕ) (s t : ℕ) (a b r q : List ℕ) → IsNotData bytes s a r → IsNotData bytes t b q → NotData s a ≡ NotData t b
  not_data_one bytes s t a b r q x y =
      let one = (messages bytes x.message y.message r q x.is_message y.is_message).0 in
      same_not_data s t a b (x.status_is ∙ (ap (λ (m : Message). m.status) one ∙ sym y.status_is))
      (code_one trees y.message.body a b (subst (λ (m : Message). IsCode m.body a) one x.code_is) y.code_is)

  no_document_one : (bytes : List ℕ) (f g : CovFault) (r q : List ℕ) → IsNoDocument bytes f r → IsNoDocument bytes g q → f ≡ g
  no_document_one bytes f g r q x y =
      let one = (messages bytes x.message y.message r q x.is_message y.is_message).0 in
      let there : DocumentRows y.message.body (Err f) = subst (λ (m : Message). DocumentRows m.body (Err f)) one x.first_fault in
      same f g (rows y.message.body (Err f) (Err g) there y.first_fault)
    where
      same : (f g : CovFault) → ◌≡◌ {A = Result Document CovFault} (Err f) (Err g) → f ≡ g
      same f g e = cc

  pub one_heard : OneIsHeard
  one_heard bytes (Ok a) (Ok b) x y = ap Ok (replies_one bytes a b x.0 y.0 x.1 y.1)
  one_heard bytes (Ok a) (Err ReadFault) x y = absurd y
  one_heard bytes (Ok a) (Err (BadReply place)) x y = absurd (whole bytes x.1.message x.0 place x.1.is_message y)
  one_heard bytes (Ok a) (Err (NotData status code)) x y = absurd (other_status bytes x.1.message y.1.message x.0 y.0 status x.1.is_message x.1.status y.1.is_message y.1.status_is y.1.other)
  one_heard bytes (Ok a) (Err (Cov fault)) x y = absurd (no_document_none bytes a x.0 y.0 fault x.1 y.1)
  one_heard bytes (Ok a) (Err OutOfMemory) x y = absurd y
  one_heard bytes (Err ReadFault) other x y = absurd x
  one_heard bytes (Err (BadReply p)) (Ok b) x y = absurd (whole bytes y.1.message y.0 p y.1.is_message x)
  one_heard bytes (Err (BadReply p)) (Err ReadFault) x y = absurd y
  one_heard bytes (Err (BadReply p)) (Err (BadReply q)) x y = ap (λ (n : ℕ). Err (BadReply n)) (breaks bytes p q x.applies y.applies)
  one_heard bytes (Err (BadReply p)) (Err (NotData status code)) x y = absurd (whole bytes y.1.message y.0 p y.1.is_message x)
  one_heard bytes (Err (BadReply p)) (Err (Cov fault)) x y = absurd (whole bytes y.1.message y.0 p y.1.is_message x)
  one_heard bytes (Err (BadReply p)) (Err OutOfMemory) x y = absurd y
  one_heard bytes (Err (NotData s a)) (Ok b) x y = absurd (other_status bytes y.1.message x.1.message y.0 x.0 s y.1.is_message y.1.status x.1.is_message x.1.status_is x.1.other)
  one_heard bytes (Err (NotData s a)) (Err ReadFault) x y = absurd y
  one_heard bytes (Err (NotData s a)) (Err (BadReply q)) x y = absurd (whole bytes x.1.message x.0 q x.1.is_message y)
  one_heard bytes (Err (NotData s a)) (Err (NotData t b)) x y = ap Err (not_data_one bytes s t a b x.0 y.0 x.1 y.1)
  one_heard bytes (Err (NotData s a)) (Err (Cov fault)) x y = absurd (other_status bytes y.1.message x.1.message y.0 x.0 s y.1.is_message y.1.status x.1.is_message x.1.status_is x.1.other)
  one_heard bytes (Err (NotData s a)) (Err OutOfMemory) x y = absurd y
  one_heard bytes (Err (Cov f)) (Ok b) x y = absurd (no_document_none bytes b y.0 x.0 f y.1 x.1)
  one_heard bytes (Err (Cov f)) (Err ReadFault) x y = absurd y
  one_heard bytes (Err (Cov f)) (Err (BadReply q)) x y = absurd (whole bytes x.1.message x.0 q x.1.is_message y)
  one_heard bytes (Err (Cov f)) (Err (NotData t b)) x y = absurd (other_status bytes x.1.message y.1.message x.0 y.0 t x.1.is_message x.1.status y.1.is_message y.1.status_is y.1.other)
  one_heard bytes (Err (Cov f)) (Err (Cov g)) x y = ap (λ (w : CovFault). Err (Cov w)) (no_document_one bytes f g x.0 y.0 x.1 y.1)
  one_heard bytes (Err (Cov f)) (Err OutOfMemory) x y = absurd y
  one_heard bytes (Err OutOfMemory) other x y = absurd x
