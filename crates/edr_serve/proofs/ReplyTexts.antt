-- The reply to one request: each way of writing it writes the one text that it has.
use Rattle.std.proofs.Common.{◌≡◌, ℕ, Bool, true, false, List, [], append-nil, sym, ap, subst, ◌∙◌, refl, Some, None, Ok, Err}
use Rattle.std.specs.declared.option.Option.{Option}
use Rattle.std.specs.Prelude.{option_map, unwrap_or, Result, IfOk}
use Rattle.std.specs.Io.KnownBytes.{append_known}
use Rattle.serde_json.specs.Written.{compact_text}
use Rattle.edr_base.specs.Calls.{Writes, Front}
use Rattle.edr_base.specs.KnownBytes.{writes_on, writes_stop, front_none}
use Rattle.edr_base.specs.declared.refusals.Refusal.{Refusal}
use Rattle.covjson_value.specs.Trees.{document_text}
use Rattle.edr_edition.specs.Values.{EditionValue}
use Rattle.edr_edition.specs.Stores.{Subject, subject_of}
use Rattle.edr_query.specs.Values.{QueryValue}
use Rattle.edr_query.specs.declared.pages.Page.{Page}
use Rattle.edr_query.specs.declared.pages.Page.TheVariants.{Landing, Conformance, Collections, Collection, Instances, Instance, Locations, Ask}
use Rattle.edr_select.specs.Refusals.{refused, IsFirstRefusal}
use Rattle.edr_select.specs.Selections.{needed}
use Rattle.edr_select.specs.Documents.{document}
use Rattle.edr_select.specs.Plans.{PlanValue}
use Rattle.edr_select.specs.Planning.{IsPlanFor}
use Rattle.edr_select.specs.RefusalLaws.{first_found}
use Rattle.edr_describe.specs.Descriptions.{description}
use Rattle.edr_describe.specs.Describing.{IsDescription, IsDescribed}
use Rattle.edr_http.specs.Chunks.{chunked}
use Rattle.edr_http.specs.Replies.{Body, reply_head, reply_text, refusal_body}
use Rattle.edr_describe.specs.Answers.{data_text, page_text}
use Rattle.edr_serve.specs.Replies.{is_description, body_unless, body_from, chunks_needed, chunks_unless, chunks_from}

-- ---- a head, and then the body

-- a head was written whole, and then the chunks of the body, or a beginning of them
pub whole_reply : {T E : Type 0} (r : Result T E) (a b c : Option (List ℕ)) (body : Body) (number : Option ℕ) (head last : Bool)
    → head ≡ false → b ≡ append_known a (reply_head body.status body.json number last) → Writes r (chunked body.text) b c → Writes r (reply_text body number head last) a c
whole_reply r a b c body number true last f at_head written = absurd (cc f)
whole_reply r a b c body number false last f at_head written = writes_on r a b c (reply_head body.status body.json number last) (chunked body.text) at_head written

-- to HEAD the head is all
pub head_alone : {T E : Type 0} (r : Result T E) (a b : Option (List ℕ)) (body : Body) (number : Option ℕ) (head last : Bool)
    → head ≡ true → Writes r (reply_head body.status body.json number last) a b → Writes r (reply_text body number head last) a b
head_alone r a b body number false last t written = absurd (cc t)
head_alone r a b body number true last t written = subst (λ text. Writes r text a b) (sym (append-nil (reply_head body.status body.json number last))) written

-- the head broke off
pub head_broke : (T : Type 0) {E : Type 0} (e : E) (a b : Option (List ℕ)) (body : Body) (number : Option ℕ) (head last : Bool)
    → Front (reply_head body.status body.json number last) a b → Writes {T = T} (Err e) (reply_text body number head last) a b
head_broke T e a b body number true last front = writes_stop T e a b (reply_head body.status body.json number last) [] front
head_broke T e a b body number false last front = writes_stop T e a b (reply_head body.status body.json number last) (chunked body.text) front

pub nothing_written : (T : Type 0) {E : Type 0} (e : E) (text : List ℕ) (a : Option (List ℕ)) → Writes {T = T} (Err e) text a a
nothing_written T e text a = record { whole = tt; front = front_none a a text refl }

-- ---- a text of JSON

abbrev json_body : List ℕ → Body
json_body text = record { status = 200; json = true; text = text }

pub text_whole : {T E : Type 0} (r : Result T E) (a b c : Option (List ℕ)) (text : List ℕ) (number : Option ℕ) (head last : Bool)
    → head ≡ false → b ≡ append_known a (reply_head 200 true number last) → Writes r (chunked text) b c → Writes r (reply_text (json_body text) number head last) a c
text_whole r a b c text number head last = whole_reply r a b c (json_body text) number head last

pub text_headed : {T E : Type 0} (r : Result T E) (a b : Option (List ℕ)) (text : List ℕ) (number : Option ℕ) (head last : Bool)
    → head ≡ true → Writes r (reply_head 200 true number last) a b → Writes r (reply_text (json_body text) number head last) a b
text_headed r a b text number head last = head_alone r a b (json_body text) number head last

pub text_broke : (T : Type 0) {E : Type 0} (e : E) (a b : Option (List ℕ)) (text : List ℕ) (number : Option ℕ) (head last : Bool)
    → Front (reply_head 200 true number last) a b → Writes {T = T} (Err e) (reply_text (json_body text) number head last) a b
text_broke T e a b text number head last = head_broke T e a b (json_body text) number head last

-- ---- what an edition answers

-- a body is that of the page
in_place : {T E : Type 0} (r : Result T E) (a b : Option (List ℕ)) (e : EditionValue) (page : Page) (body : Body) (number : Option ℕ) (head last : Bool)
    → body_from e page ≡ body → Writes r (reply_text body number head last) a b → Writes r (reply_text (body_from e page) number head last) a b
in_place r a b e page body number head last same written = subst (λ (x : Body). Writes r (reply_text x number head last) a b) (sym same) written

refused_body : (e : EditionValue) (page : Page) (refusal : Refusal) → IsFirstRefusal e page (Some refusal) → body_from e page ≡ refusal_body refusal
refused_body e page refusal h = ap (λ o. body_unless o e page) (first_found e page (Some refusal) h)

pub refused_page : {T E : Type 0} (r : Result T E) (a b : Option (List ℕ)) (e : EditionValue) (page : Page) (refusal : Refusal) (number : Option ℕ) (head last : Bool)
    → IsFirstRefusal e page (Some refusal) → Writes r (reply_text (refusal_body refusal) number head last) a b → Writes r (reply_text (body_from e page) number head last) a b
refused_page r a b e page refusal number head last h = in_place r a b e page (refusal_body refusal) number head last (refused_body e page refusal h)

-- a page that describes has the text of its description
described_text : (e : EditionValue) (page : Page) → IsDescription page → (is_description page ≡ true) × (page_text e page ≡ option_map compact_text (description e page))
described_text e Landing d = (refl, refl)
described_text e Conformance d = (refl, refl)
described_text e Collections d = (refl, refl)
described_text e (Collection c) d = (refl, refl)
described_text e (Instances c) d = (refl, refl)
described_text e (Instance c i) d = (refl, refl)
described_text e (Locations c) d = (refl, refl)
described_text e (Ask q) d = absurd d

described_body : (e : EditionValue) (page : Page) (text : List ℕ) → IsDescription page → IsDescribed e page text → body_from e page ≡ json_body text
described_body e page text d x =
    let same = described_text e page d in
    let told : page_text e page ≡ Some text = same.1 ∙ x.text_is in
    ap (λ o. body_unless o e page) (first_found e page None x.none)
    ∙ (ap (λ (json : Bool). record { status = 200; json = json; text = unwrap_or (page_text e page) [] }) same.0
    ∙ ap (λ (o : Option (List ℕ)). json_body (unwrap_or o [])) told)

pub described : {T E : Type 0} (r : Result T E) (a b : Option (List ℕ)) (e : EditionValue) (page : Page) (text : List ℕ) (number : Option ℕ) (head last : Bool)
    → IsDescription page → IsDescribed e page text → Writes r (reply_text (json_body text) number head last) a b → Writes r (reply_text (body_from e page) number head last) a b
described r a b e page text number head last d x = in_place r a b e page (json_body text) number head last (described_body e page text d x)

-- ---- data

abbrev data_body : List ℕ → Body
data_body text = record { status = 200; json = false; text = text }

abbrev text_of : EditionValue → QueryValue → List ℕ
text_of e q = unwrap_or (data_text e q) []

planned_body : (e : EditionValue) (q : QueryValue) (plan : PlanValue) → IsPlanFor e q plan → body_from e (Ask q) ≡ data_body (text_of e q)
planned_body e q plan x = ap (λ o. body_unless o e (Ask q)) (first_found e (Ask q) None x.none)

pub planned_whole : {T E : Type 0} (r : Result T E) (a b c : Option (List ℕ)) (e : EditionValue) (q : QueryValue) (plan : PlanValue) (number : Option ℕ) (head last : Bool)
    → IsPlanFor e q plan → head ≡ false → b ≡ append_known a (reply_head 200 false number last) → Writes r (chunked (text_of e q)) b c
    → Writes r (reply_text (body_from e (Ask q)) number head last) a c
planned_whole r a b c e q plan number head last x f at_head written =
    in_place r a c e (Ask q) (data_body (text_of e q)) number head last (planned_body e q plan x) (whole_reply r a b c (data_body (text_of e q)) number head last f at_head written)

pub planned_headed : {T E : Type 0} (r : Result T E) (a b : Option (List ℕ)) (e : EditionValue) (q : QueryValue) (plan : PlanValue) (number : Option ℕ) (head last : Bool)
    → IsPlanFor e q plan → head ≡ true → Writes r (reply_head 200 false number last) a b → Writes r (reply_text (body_from e (Ask q)) number head last) a b
planned_headed r a b e q plan number head last x t written =
    in_place r a b e (Ask q) (data_body (text_of e q)) number head last (planned_body e q plan x) (head_alone r a b (data_body (text_of e q)) number head last t written)

pub planned_broke : (T : Type 0) {E : Type 0} (fault : E) (a b : Option (List ℕ)) (e : EditionValue) (q : QueryValue) (plan : PlanValue) (number : Option ℕ) (head last : Bool)
    → IsPlanFor e q plan → Front (reply_head 200 false number last) a b → Writes {T = T} (Err fault) (reply_text (body_from e (Ask q)) number head last) a b
planned_broke T fault a b e q plan number head last x front =
    in_place {T = T} (Err fault) a b e (Ask q) (data_body (text_of e q)) number head last (planned_body e q plan x) (head_broke T fault a b (data_body (text_of e q)) number head last front)

-- the text and the chunks of what the query names
pub data_sent : {T E : Type 0} (r : Result T E) (a b : Option (List ℕ)) (e : EditionValue) (q : QueryValue) (plan : PlanValue) (s : Subject)
    → IsPlanFor e q plan → Some s ≡ subject_of e q.collection q.instance → Writes r (chunked (document_text (document s plan.query))) a b → Writes r (chunked (text_of e q)) a b
data_sent r a b e q plan s x named written =
    let same : document_text (document s plan.query) ≡ text_of e q =
    ap (λ (p : QueryValue). document_text (document s p)) x.query_is ∙ ap (λ (o : Option Subject). unwrap_or (option_map (λ (z : Subject). document_text (document z q)) o) []) named in
    subst (λ text. Writes r (chunked text) a b) same written

pub data_read : (e : EditionValue) (q : QueryValue) (plan : PlanValue) (s : Subject) → IsPlanFor e q plan → Some s ≡ subject_of e q.collection q.instance
    → needed s plan.query ≡ chunks_needed e q
data_read e q plan s x named =
    ap (λ (p : QueryValue). needed s p) x.query_is ∙ ap (λ (o : Option Subject). unwrap_or (option_map (λ (z : Subject). needed z q) o) []) named

-- ---- the chunks that are opened

pub planned_chunks : (e : EditionValue) (q : QueryValue) (plan : PlanValue) (head : Bool) → IsPlanFor e q plan → head ≡ false → chunks_needed e q ≡ chunks_from e (Ask q) head
planned_chunks e q plan true x f = absurd (cc f)
planned_chunks e q plan false x f = sym (ap (λ o. chunks_unless o e (Ask q)) (first_found e (Ask q) None x.none))

-- so those that were read are
pub planned_reads : {E : Type 0} (r : Result (List ℕ) E) (e : EditionValue) (q : QueryValue) (plan : PlanValue) (head : Bool) → IsPlanFor e q plan → head ≡ false
    → IfOk r (λ reads. reads ≡ chunks_needed e q) → IfOk r (λ reads. reads ≡ chunks_from e (Ask q) head)
planned_reads (Ok reads) e q plan head x f h = h ∙ planned_chunks e q plan head x f
planned_reads (Err fault) e q plan head x f h = tt

pub headed_chunks : (e : EditionValue) (page : Page) (head : Bool) → head ≡ true → [] ≡ chunks_from e page head
headed_chunks e page true t = refl
headed_chunks e page false t = absurd (cc t)

pub refused_chunks : (e : EditionValue) (page : Page) (refusal : Refusal) (head : Bool) → IsFirstRefusal e page (Some refusal) → [] ≡ chunks_from e page head
refused_chunks e page refusal true h = refl
refused_chunks e page refusal false h = sym (ap (λ o. chunks_unless o e page) (first_found e page (Some refusal) h))

pub refused_reads : {E : Type 0} (r : Result (List ℕ) E) (e : EditionValue) (page : Page) (refusal : Refusal) (head : Bool) → IsFirstRefusal e page (Some refusal)
    → IfOk r (λ reads. reads ≡ []) → IfOk r (λ reads. reads ≡ chunks_from e page head)
refused_reads (Ok reads) e page refusal head h none = none ∙ refused_chunks e page refusal head h
refused_reads (Err fault) e page refusal head h none = tt

none_for : (o : Option Refusal) (e : EditionValue) (page : Page) → IsDescription page → [] ≡ chunks_unless o e page
none_for (Some refusal) e page d = refl
none_for None e Landing d = refl
none_for None e Conformance d = refl
none_for None e Collections d = refl
none_for None e (Collection c) d = refl
none_for None e (Instances c) d = refl
none_for None e (Instance c i) d = refl
none_for None e (Locations c) d = refl
none_for None e (Ask q) d = absurd d

pub described_chunks : (e : EditionValue) (page : Page) (head : Bool) → IsDescription page → [] ≡ chunks_from e page head
described_chunks e page true d = refl
described_chunks e page false d = none_for (refused e page) e page d

-- ---- names of what is answered

-- a page and an edition under other names
pub renamed : {T E : Type 0} (r : Result T E) (a b : Option (List ℕ)) (e : EditionValue) (page page' : Page) (number number' : ℕ) (head last : Bool)
    → page ≡ page' → number ≡ number' → Writes r (reply_text (body_from e page) (Some number) head last) a b → Writes r (reply_text (body_from e page') (Some number') head last) a b
renamed r a b e page page' number number' head last same same_number written =
    subst (λ (n : ℕ). Writes r (reply_text (body_from e page') (Some n) head last) a b) same_number
    (subst (λ (p : Page). Writes r (reply_text (body_from e p) (Some number) head last) a b) same written)

pub same_ok : {T U E : Type 0} (x : T) (y : U) (text : List ℕ) (a b : Option (List ℕ)) → Writes {E = E} (Ok x) text a b → Writes {E = E} (Ok y) text a b
same_ok x y text a b written = record { whole = written.whole; front = written.front }

pub same_err : {T E : Type 0} (U : Type 0) (e f : E) (text : List ℕ) (a b : Option (List ℕ)) → Writes {T = T} (Err e) text a b → Writes {T = U} (Err f) text a b
same_err U e f text a b written = record { whole = tt; front = written.front }

-- a plan stands for the query that it keeps
pub plan_own : (e : EditionValue) (q : QueryValue) (plan : PlanValue) → IsPlanFor e q plan → IsPlanFor e plan.query plan
plan_own e q plan x = subst (λ (p : QueryValue). IsPlanFor e p plan) (sym x.query_is) x

-- the query that a plan keeps is that which it stands for
pub plan_written : {T E : Type 0} (r : Result T E) (a b : Option (List ℕ)) (e : EditionValue) (q : QueryValue) (plan : PlanValue) (number : Option ℕ) (head last : Bool)
    → IsPlanFor e q plan → Writes r (reply_text (body_from e (Ask plan.query)) number head last) a b → Writes r (reply_text (body_from e (Ask q)) number head last) a b
plan_written r a b e q plan number head last x written = subst (λ (p : QueryValue). Writes r (reply_text (body_from e (Ask p)) number head last) a b) x.query_is written

-- what a store is over, by the names in the query
pub named_subject : (e : EditionValue) (q : QueryValue) (s : Subject) (collection : List ℕ) (instance : Option (List ℕ))
    → collection ≡ q.collection → instance ≡ q.instance → Some s ≡ subject_of e collection instance → Some s ≡ subject_of e q.collection q.instance
named_subject e q s collection instance c i named =
    named ∙ (ap (λ (id : List ℕ). subject_of e id instance) c ∙ ap (subject_of e q.collection) i)
