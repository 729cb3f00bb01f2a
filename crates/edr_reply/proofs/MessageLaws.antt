-- Laws of replies: there is one, and bytes that break off begin with none.
use Rattle.std.proofs.Common.{◌≡◌, ℕ, ◌+◌, length, length-append, List, [], ◌∷◌, refl, sym, ap, ap₂, ◌∙◌, subst, arith, Some, None, inl, inr}
use Rattle.std.specs.declared.option.Option.{Option}
use Rattle.std.specs.Str.Parse.{digits_value}
use Rattle.httparse.specs.Grammar.{ResponseHead, print_response, status_code}
use Rattle.httparse.proofs.GrammarLemmas.{response_unique}
use Rattle.edr_http.specs.Checks.{Field}
use Rattle.edr_reply.specs.declared.framing.Framing.{Framing}
use Rattle.edr_reply.specs.declared.framing.Framing.TheVariants.{Chunked, Sized, TooLong, ToEnd}
use Rattle.edr_reply.specs.declared.messages.Message.{Message}
use Rattle.edr_reply.specs.Messages.{BeginsWithHead, fields_of, HasNumber, IsEdition, IsFraming, IsBody, IsMessage, HasNoEnd}
use Rattle.edr_reply.specs.BrokenParts.{LacksHead, BreaksBody, BreaksBehindHead, BreaksAt, IsFirstBreak}
use Rattle.edr_reply.specs.Taking.{IsCutBody}
use Rattle.edr_reply.specs.Laws.{MessageIsOne, BreakIsOne, BrokenIsNone}
use Rattle.edr_reply.proofs.ChunkLaws.{front_same, chunked_one, chunked_broken, chunks_break_one}

-- some bytes begin with one head
head_one : (bytes : List ℕ) (h k : ResponseHead) (r q : List ℕ) → BeginsWithHead bytes h r → BeginsWithHead bytes k q → (h ≡ k) × (r ≡ q)
head_one bytes h k r q x y = response_unique bytes h k r q (x.0.reads, x.1) (y.0.reads, y.1)

-- ---- what its fields say is one

pub number_one : (name : List ℕ) (fields : List Field) (m n : ℕ) → HasNumber name fields m → HasNumber name fields n → m ≡ n
number_one name fields m n x y =
    let one : x.value ∷ [] ≡ y.value ∷ [] = sym x.one ∙ y.one in
    let value : x.value ≡ y.value = cc in
    x.number_is ∙ (ap (digits_value 10) value ∙ sym y.number_is)

edition_one : (fields : List Field) (a b : Option ℕ) → IsEdition fields a → IsEdition fields b → a ≡ b
edition_one fields None None x y = refl
edition_one fields None (Some n) x y = absurd (x n y.1 y.0)
edition_one fields (Some m) None x y = absurd (y m x.1 x.0)
edition_one fields (Some m) (Some n) x y = ap Some (number_one _ fields m n x.0 y.0)

framing_one : (fields : List Field) (a b : Framing) → IsFraming fields a → IsFraming fields b → a ≡ b
framing_one fields Chunked Chunked x y = refl
framing_one fields Chunked (Sized n) x y = absurd (y.0 x)
framing_one fields Chunked TooLong x y = absurd (y.0 x)
framing_one fields Chunked ToEnd x y = absurd (y.0 x)
framing_one fields (Sized m) Chunked x y = absurd (x.0 y)
framing_one fields (Sized m) (Sized n) x y = ap Sized (number_one _ fields m n x.1 y.1)
framing_one fields (Sized m) TooLong x y = absurd (omega (arith, number_one _ fields m y.1 x.1 y.2, x.2, y.3))
framing_one fields (Sized m) ToEnd x y = absurd (y.1 m x.1)
framing_one fields TooLong Chunked x y = absurd (x.0 y)
framing_one fields TooLong (Sized n) x y = absurd (omega (arith, number_one _ fields n x.1 y.1 x.2, y.2, x.3))
framing_one fields TooLong TooLong x y = refl
framing_one fields TooLong ToEnd x y = absurd (y.1 x.1 x.2)
framing_one fields ToEnd Chunked x y = absurd (x.0 y)
framing_one fields ToEnd (Sized n) x y = absurd (x.1 n y.1)
framing_one fields ToEnd TooLong x y = absurd (x.1 y.1 y.2)
framing_one fields ToEnd ToEnd x y = refl

-- ---- bodies

body_one : (framing : Framing) (bytes a b r q : List ℕ) → IsBody framing bytes a r → IsBody framing bytes b q → (a ≡ b) × (r ≡ q)
body_one Chunked bytes a b r q x y = chunked_one bytes a b r q x y
body_one (Sized size) bytes a b r q x y = front_same a b r q (x.1 ∙ sym y.1) (sym x.0 ∙ y.0)
body_one TooLong bytes a b r q x y = absurd x
body_one ToEnd bytes a b r q x y = (x.0 ∙ sym y.0, x.1 ∙ sym y.1)

body_broken : (framing : Framing) (bytes a r : List ℕ) (k : ℕ) → BreaksBody framing bytes k → IsBody framing bytes a r → ⊥
body_broken Chunked bytes a r k x y = chunked_broken bytes a r k x y
body_broken (Sized size) bytes a r k x y = omega (arith, x.0, ap length y.0, length-append a r, y.1)
body_broken TooLong bytes a r k x y = y
body_broken ToEnd bytes a r k x y = omega (arith, x.0, y.2)

body_break_one : (framing : Framing) (bytes : List ℕ) (j k : ℕ) → BreaksBody framing bytes j → BreaksBody framing bytes k → j ≡ k
body_break_one Chunked bytes j k x y = chunks_break_one bytes j k x y
body_break_one (Sized size) bytes j k x y = x.1 ∙ sym y.1
body_break_one TooLong bytes j k x y = x ∙ sym y
body_break_one ToEnd bytes j k x y = x.1 ∙ sym y.1

-- ---- whole replies

same_message : (m n : Message) → m.status ≡ n.status → m.edition ≡ n.edition → m.body ≡ n.body → m ≡ n
same_message m n p q r =
    ap (λ (s : ℕ). record { status = s; edition = m.edition; body = m.body }) p
    ∙ (ap (λ (e : Option ℕ). record { status = n.status; edition = e; body = m.body }) q
    ∙ ap (λ (b : List ℕ). record { status = n.status; edition = n.edition; body = b }) r)

pub message_one : MessageIsOne
message_one bytes one other rest rest' x y =
    let head = head_one bytes x.head y.head x.behind y.behind x.begins y.begins in
    let edition : IsEdition (fields_of y.head) one.edition = subst (λ (h : ResponseHead). IsEdition (fields_of h) one.edition) head.0 x.edition in
    let framed : IsFraming (fields_of y.head) x.framing = subst (λ (h : ResponseHead). IsFraming (fields_of h) x.framing) head.0 x.framed in
    let framing = framing_one (fields_of y.head) x.framing y.framing framed y.framed in
    let there : IsBody y.framing y.behind one.body rest =
    subst (λ (f : Framing). IsBody f y.behind one.body rest) framing (subst (λ (b : List ℕ). IsBody x.framing b one.body rest) head.1 x.body) in
    let body = body_one y.framing y.behind one.body other.body rest rest' there y.body in
    (same_message one other (x.status ∙ (ap status_code head.0 ∙ sym y.status)) (edition_one (fields_of y.head) one.edition other.edition edition y.edition) body.0, body.1)

behind_one : (bytes : List ℕ) (j k : ℕ) → BreaksBehindHead bytes j → BreaksBehindHead bytes k → j ≡ k
behind_one bytes j k x y =
    let head = head_one bytes x.head y.head x.rest y.rest x.begins y.begins in
    let framed : IsFraming (fields_of y.head) x.framing = subst (λ (h : ResponseHead). IsFraming (fields_of h) x.framing) head.0 x.framed in
    let framing = framing_one (fields_of y.head) x.framing y.framing framed y.framed in
    let there : BreaksBody y.framing y.rest x.within =
    subst (λ (f : Framing). BreaksBody f y.rest x.within) framing (subst (λ (b : List ℕ). BreaksBody x.framing b x.within) head.1 x.breaks) in
    x.place_is ∙ (ap₂ (λ h n. length (print_response h) + n) head.0 (body_break_one y.framing y.rest x.within y.within there y.breaks) ∙ sym y.place_is)

pub one_break : BreakIsOne
one_break bytes j k (inl x) (inl y) = x.1 ∙ sym y.1
one_break bytes j k (inl x) (inr y) = absurd (x.0 y.head y.rest y.begins)
one_break bytes j k (inr x) (inl y) = absurd (y.0 x.head x.rest x.begins)
one_break bytes j k (inr x) (inr y) = behind_one bytes j k x y

behind_none : (bytes : List ℕ) (k : ℕ) (message : Message) (rest : List ℕ) → BreaksBehindHead bytes k → IsMessage bytes message rest → ⊥
behind_none bytes k message rest x y =
    let head = head_one bytes x.head y.head x.rest y.behind x.begins y.begins in
    let framed : IsFraming (fields_of y.head) x.framing = subst (λ (h : ResponseHead). IsFraming (fields_of h) x.framing) head.0 x.framed in
    let framing = framing_one (fields_of y.head) x.framing y.framing framed y.framed in
    let there : BreaksBody y.framing y.behind x.within =
    subst (λ (f : Framing). BreaksBody f y.behind x.within) framing (subst (λ (b : List ℕ). BreaksBody x.framing b x.within) head.1 x.breaks) in
    body_broken y.framing y.behind message.body rest x.within there y.body

pub none_broken : BrokenIsNone
none_broken bytes k (inl x) message rest y = x.0 y.head y.behind y.begins
none_broken bytes k (inr x) message rest y = behind_none bytes k message rest x y

-- the one place is the first
pub first_break : (bytes : List ℕ) (k : ℕ) → BreaksAt bytes k → IsFirstBreak bytes k
first_break bytes k x = record {
  applies = x;
  none_before = λ other before y. let same = one_break bytes other k y x in omega (arith, before, same);
}

-- ---- bytes that end in the midst of a reply

cut_ends : (framing : Framing) (bytes a r : List ℕ) → IsCutBody framing bytes → IsBody framing bytes a r → framing ≡ ToEnd
cut_ends Chunked bytes a r cut y = absurd (chunked_broken bytes a r cut.0 cut.1 y)
cut_ends (Sized size) bytes a r cut y = absurd (omega (arith, cut, ap length y.0, length-append a r, y.1))
cut_ends TooLong bytes a r cut y = absurd y
cut_ends ToEnd bytes a r cut y = refl

pub head_no_end : (bytes : List ℕ) → LacksHead bytes → HasNoEnd bytes
head_no_end bytes lacks message rest y = absurd (lacks y.head y.behind y.begins)

pub body_no_end : (bytes behind : List ℕ) (head : ResponseHead) (framing : Framing) → BeginsWithHead bytes head behind → IsFraming (fields_of head) framing → IsCutBody framing behind → HasNoEnd bytes
body_no_end bytes behind head framing begins is cut message rest y =
    let one = head_one bytes head y.head behind y.behind begins y.begins in
    let framed : IsFraming (fields_of y.head) framing = subst (λ (h : ResponseHead). IsFraming (fields_of h) framing) one.0 is in
    let same = framing_one (fields_of y.head) framing y.framing framed y.framed in
    let there : IsCutBody y.framing y.behind = subst (λ (f : Framing). IsCutBody f y.behind) same (subst (λ (b : List ℕ). IsCutBody framing b) one.1 cut) in
    cut_ends y.framing y.behind message.body rest there y.body
