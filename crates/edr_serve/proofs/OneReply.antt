-- One request: what answering it does to what is written, seen and taken.
use Rattle.std.proofs.Common.{◌≡◌, ◌⊎◌, inl, inr, ℕ, ◌≤◌, Bool, List, [], ◌∷◌, sym, ap, subst, ◌∙◌, refl, Some, None, Ok, Err, append-nil, arith}
use Rattle.std.specs.declared.option.Option.{Option}
use Rattle.std.proofs.lemmas.List.Elements.{All-nil, All-cons}
use Rattle.std.specs.Prelude.{is_some, Result, IfOk, OnErr}
use Rattle.std.specs.Io.KnownBytes.{append_known}
use Rattle.edr_base.specs.Calls.{Front, Writes}
use Rattle.edr_base.specs.KnownBytes.{front_none}
use Rattle.edr_base.specs.declared.refusals.Refusal.{Refusal}
use Rattle.edr_edition.specs.Values.{EditionValue}
use Rattle.edr_edition.specs.Shelves.{IsShelfList, BeginsSeen, EndsWith, TakenGrew}
use Rattle.edr_query.specs.declared.pages.Page.{Page}
use Rattle.edr_query.specs.Targets.{IsTarget}
use Rattle.edr_http.specs.declared.heads.Head.{Head}
use Rattle.edr_http.specs.Checks.{Refuses, is_head, says_close}
use Rattle.edr_http.specs.Replies.{reply_text, refusal_body}
use Rattle.edr_serve.specs.declared.ends.End.{End}
use Rattle.edr_serve.specs.declared.reports.OneReport.{OneReport}
use Rattle.edr_serve.specs.Requests.{Request, end_by_turns, end_of, IsOf}
use Rattle.edr_serve.specs.Replies.{body_from, chunks_from, output}
use Rattle.edr_serve.specs.Sessions.{State, state, last_number, BrokeOff, IsReplied}
use Rattle.edr_serve.specs.Serving.{HeadReplied, HeadBroken}
use Rattle.edr_serve.proofs.Shelves.{seen_same, taken_same, last_later, order_of}

-- ---- from an edition

abbrev page_request : Bool → Page → Option End → Request
page_request head page end = record { is_head = head; asked = Ok page; end = end }

abbrev page_text : Bool → Page → Option End → EditionValue → List ℕ
page_text head page end e = reply_text (body_from e page) (Some e.number) head (is_some end)

page_output : (head : Bool) (page : Page) (end : Option End) (e : EditionValue) → page_text head page end e ≡ output (page_request head page end ∷ []) (e ∷ [])
page_output head page end e = sym (append-nil (page_text head page end e))

pub page_replied : (head : Bool) (page : Page) (end : Option End) (e : EditionValue) (reads : List ℕ) (w w' : Option (List ℕ)) (s s' : List EditionValue) (t t' : Option (List ℕ))
    → BeginsSeen s s' → EndsWith s' e → IsShelfList s' → TakenGrew t t' (e.number ∷ [])
    → w' ≡ append_known w (page_text head page end e) → reads ≡ chunks_from e page head
    → IsReplied (page_request head page end) (state w s t) (state w' s' t') (record { edition = Some e.number; reads = reads; end = end })
page_replied head page end e reads w w' s s' t t' grows last ascending taken bytes opens = record {
  editions = e ∷ [];
  answered = record {
    full = refl;
    bytes = bytes ∙ ap (append_known w) (page_output head page end e);
    chunks_are = ap (λ (z : List ℕ). z ∷ []) opens;
    numbers_are = refl;
    uses = (s', grows, last, seen_same s');
    order = order_of s s' e grows last ascending;
    taken = taken;
  };
  newest = All-cons (EndsWith s') e [] last (All-nil (EndsWith s'));
  unread = λ n. absurd (cc n);
  end = refl;
}

pub page_broke : (head : Bool) (page : Page) (end : Option End) (e : EditionValue) (w w' : Option (List ℕ)) (s s' : List EditionValue) (t t' : Option (List ℕ))
    → BeginsSeen s s' → EndsWith s' e → IsShelfList s' → TakenGrew t t' (e.number ∷ [])
    → Front (page_text head page end e) w w' → BrokeOff (page_request head page end ∷ []) (state w s t) (state w' s' t')
page_broke head page end e w w' s s' t t' grows last ascending taken front = record {
  editions = e ∷ [];
  few = omega arith;
  bytes = subst (λ (z : List ℕ). Front z w w') (page_output head page end e) front;
  uses = (s', grows, last, seen_same s');
  order = order_of s s' e grows last ascending;
  taken = taken;
}

-- no edition was had
pub page_untaken : (requests : List Request) (w : Option (List ℕ)) (s s' : List EditionValue) (t t' : Option (List ℕ))
    → BeginsSeen s s' → IsShelfList s' → TakenGrew t t' [] → BrokeOff requests (state w s t) (state w s' t')
page_untaken requests w s s' t t' grows ascending taken = record {
  editions = [];
  few = omega arith;
  bytes = front_none w w (output requests []) refl;
  uses = grows;
  order = last_later s s' grows ascending;
  taken = taken;
}

-- ---- from none

abbrev refused_request : Bool → Refusal → Option End → Request
refused_request head refusal end = record { is_head = head; asked = Err refusal; end = end }

abbrev refused_text : Bool → Refusal → Option End → List ℕ
refused_text head refusal end = reply_text (refusal_body refusal) None head (is_some end)

same_order : (s : List EditionValue) → last_number s ≤ last_number s
same_order s = omega arith

pub refused_replied : (head : Bool) (refusal : Refusal) (end : Option End) (w w' : Option (List ℕ)) (s : List EditionValue) (t : Option (List ℕ))
    → w' ≡ append_known w (refused_text head refusal end)
    → IsReplied (refused_request head refusal end) (state w s t) (state w' s t) (record { edition = None; reads = []; end = end })
refused_replied head refusal end w w' s t bytes = record {
  editions = [];
  answered = record {
    full = refl;
    bytes = bytes ∙ ap (append_known w) (sym (append-nil (refused_text head refusal end)));
    chunks_are = refl;
    numbers_are = refl;
    uses = seen_same s;
    order = same_order s;
    taken = taken_same t;
  };
  newest = All-nil (EndsWith s);
  unread = λ n. refl;
  end = refl;
}

pub refused_broke : (head : Bool) (refusal : Refusal) (end : Option End) (w w' : Option (List ℕ)) (s : List EditionValue) (t : Option (List ℕ))
    → Front (refused_text head refusal end) w w' → BrokeOff (refused_request head refusal end ∷ []) (state w s t) (state w' s t)
refused_broke head refusal end w w' s t front = record {
  editions = [];
  few = omega arith;
  bytes = subst (λ (z : List ℕ). Front z w w') (sym (append-nil (refused_text head refusal end))) front;
  uses = seen_same s;
  order = same_order s;
  taken = taken_same t;
}

pub none_broke : (w : Option (List ℕ)) (s : List EditionValue) (t : Option (List ℕ)) → BrokeOff [] (state w s t) (state w s t)
none_broke w s t = record {
  editions = [];
  few = omega arith;
  bytes = front_none w w [] refl;
  uses = seen_same s;
  order = same_order s;
  taken = taken_same t;
}

-- ---- a head

page_of : (n : ℕ) (head : Head) (h : Bool) (page : Page) (end : Option End)
    → Refuses head None → IsTarget head.target (Ok page) → h ≡ is_head head → end ≡ end_by_turns n (says_close head) → IsOf n head (page_request h page end)
page_of n head h page end none asked is_head_is end_is = record { refusal = None; refused = none; asks = asked; is_head_is = is_head_is; end_is = end_is }

pub head_page : (n : ℕ) (head : Head) (h : Bool) (page : Page) (end : Option End) (a b : State) (report : OneReport)
    → Refuses head None → IsTarget head.target (Ok page) → h ≡ is_head head → end ≡ end_by_turns n (says_close head) → IsReplied (page_request h page end) a b report
    → HeadReplied n head a b report
head_page n head h page end a b report none asked is_head_is end_is replied =
    record { request = page_request h page end; is_of = page_of n head h page end none asked is_head_is end_is; replied = replied }

pub head_page_broke : (n : ℕ) (head : Head) (h : Bool) (page : Page) (end : Option End) (a b : State)
    → Refuses head None → IsTarget head.target (Ok page) → h ≡ is_head head → end ≡ end_by_turns n (says_close head) → BrokeOff (page_request h page end ∷ []) a b
    → HeadBroken n head a b
head_page_broke n head h page end a b none asked is_head_is end_is broke =
    inl (record { request = page_request h page end; is_of = page_of n head h page end none asked is_head_is end_is; broke_off = broke })

-- a refusal of the head, or of its target
abbrev Refused : Head → Refusal → Type 0
Refused head refusal = Refuses head (Some refusal) ⊎ (Refuses head None × IsTarget head.target (Err refusal))

refused_of : (n : ℕ) (head : Head) (h : Bool) (refusal : Refusal) (end : Option End)
    → Refused head refusal → h ≡ is_head head → end ≡ end_of n (says_close head) (Err refusal) → IsOf n head (refused_request h refusal end)
refused_of n head h refusal end (inl of_head) is_head_is end_is = record { refusal = Some refusal; refused = of_head; asks = refl; is_head_is = is_head_is; end_is = end_is }
refused_of n head h refusal end (inr of_target) is_head_is end_is = record { refusal = None; refused = of_target.0; asks = of_target.1; is_head_is = is_head_is; end_is = end_is }

pub head_refused : (n : ℕ) (head : Head) (h : Bool) (refusal : Refusal) (end : Option End) (w w' : Option (List ℕ)) (s : List EditionValue) (t : Option (List ℕ))
    → Refuses head (Some refusal) → h ≡ is_head head → end ≡ end_of n (says_close head) (Err refusal) → w' ≡ append_known w (refused_text h refusal end)
    → HeadReplied n head (state w s t) (state w' s t) (record { edition = None; reads = []; end = end })
head_refused n head h refusal end w w' s t of_head is_head_is end_is bytes =
    record { request = refused_request h refusal end; is_of = refused_of n head h refusal end (inl of_head) is_head_is end_is; replied = refused_replied h refusal end w w' s t bytes }

pub head_refused_broke : (n : ℕ) (head : Head) (h : Bool) (refusal : Refusal) (end : Option End) (w w' : Option (List ℕ)) (s : List EditionValue) (t : Option (List ℕ))
    → Refuses head (Some refusal) → h ≡ is_head head → end ≡ end_of n (says_close head) (Err refusal) → Front (refused_text h refusal end) w w'
    → HeadBroken n head (state w s t) (state w' s t)
head_refused_broke n head h refusal end w w' s t of_head is_head_is end_is front =
    inl (record { request = refused_request h refusal end; is_of = refused_of n head h refusal end (inl of_head) is_head_is end_is; broke_off = refused_broke h refusal end w w' s t front })

pub target_refused : (n : ℕ) (head : Head) (h : Bool) (refusal : Refusal) (end : Option End) (w w' : Option (List ℕ)) (s : List EditionValue) (t : Option (List ℕ))
    → Refuses head None → IsTarget head.target (Err refusal) → h ≡ is_head head → end ≡ end_of n (says_close head) (Err refusal) → w' ≡ append_known w (refused_text h refusal end)
    → HeadReplied n head (state w s t) (state w' s t) (record { edition = None; reads = []; end = end })
target_refused n head h refusal end w w' s t none of_target is_head_is end_is bytes =
    record { request = refused_request h refusal end; is_of = refused_of n head h refusal end (inr (none, of_target)) is_head_is end_is; replied = refused_replied h refusal end w w' s t bytes }

pub target_refused_broke : (n : ℕ) (head : Head) (h : Bool) (refusal : Refusal) (end : Option End) (w w' : Option (List ℕ)) (s : List EditionValue) (t : Option (List ℕ))
    → Refuses head None → IsTarget head.target (Err refusal) → h ≡ is_head head → end ≡ end_of n (says_close head) (Err refusal) → Front (refused_text h refusal end) w w'
    → HeadBroken n head (state w s t) (state w' s t)
target_refused_broke n head h refusal end w w' s t none of_target is_head_is end_is front =
    inl (record { request = refused_request h refusal end; is_of = refused_of n head h refusal end (inr (none, of_target)) is_head_is end_is; broke_off = refused_broke h refusal end w w' s t front })

pub head_unread : (n : ℕ) (head : Head) (w : Option (List ℕ)) (s : List EditionValue) (t : Option (List ℕ)) → HeadBroken n head (state w s t) (state w s t)
head_unread n head w s t = inr (none_broke w s t)

-- ---- the same of results

pub on_err : {T E : Type 0} (r : Result T E) (P : Type 0) → P → OnErr r P
on_err (Ok x) P p = tt
on_err (Err e) P p = p

pub head_refused_fault : {T E : Type 0} (r : Result T E) (n : ℕ) (head : Head) (h : Bool) (refusal : Refusal) (end : Option End) (w w' : Option (List ℕ)) (s : List EditionValue) (t : Option (List ℕ))
    → Refuses head (Some refusal) → h ≡ is_head head → end ≡ end_of n (says_close head) (Err refusal) → Writes r (refused_text h refusal end) w w'
    → OnErr r (HeadBroken n head (state w s t) (state w' s t))
head_refused_fault r n head h refusal end w w' s t of_head is_head_is end_is written =
    on_err r (HeadBroken n head (state w s t) (state w' s t)) (head_refused_broke n head h refusal end w w' s t of_head is_head_is end_is written.front)

pub target_refused_fault : {T E : Type 0} (r : Result T E) (n : ℕ) (head : Head) (h : Bool) (refusal : Refusal) (end : Option End) (w w' : Option (List ℕ)) (s : List EditionValue) (t : Option (List ℕ))
    → Refuses head None → IsTarget head.target (Err refusal) → h ≡ is_head head → end ≡ end_of n (says_close head) (Err refusal) → Writes r (refused_text h refusal end) w w'
    → OnErr r (HeadBroken n head (state w s t) (state w' s t))
target_refused_fault r n head h refusal end w w' s t none of_target is_head_is end_is written =
    on_err r (HeadBroken n head (state w s t) (state w' s t)) (target_refused_broke n head h refusal end w w' s t none of_target is_head_is end_is written.front)

-- the report of a page that was answered from an edition
abbrev page_report : Bool → Page → Option End → EditionValue → OneReport
page_report head page end e = record { edition = Some e.number; reads = chunks_from e page head; end = end }

pub page_answered : {E : Type 0} (r : Result OneReport E) (head : Bool) (page : Page) (end : Option End) (e took : EditionValue) (w w' : Option (List ℕ)) (s s' : List EditionValue) (t t' : Option (List ℕ))
    → took ≡ e → BeginsSeen s s' → EndsWith s' took → IsShelfList s' → TakenGrew t t' (took.number ∷ [])
    → Writes r (page_text head page end e) w w' → IfOk r (λ report. report ≡ page_report head page end e)
    → IfOk r (λ report. IsReplied (page_request head page end) (state w s t) (state w' s' t') report)
page_answered (Err fault) head page end e took w w' s s' t t' same grows last ascending taken written report = tt
page_answered (Ok one) head page end e took w w' s s' t t' same grows last ascending taken written report =
    let ends : EndsWith s' e = subst (λ (z : EditionValue). EndsWith s' z) same last in
    let took_it : TakenGrew t t' (e.number ∷ []) = subst (λ (z : EditionValue). TakenGrew t t' (z.number ∷ [])) same taken in
    subst (λ (x : OneReport). IsReplied (page_request head page end) (state w s t) (state w' s' t') x) (sym report)
    (page_replied head page end e (chunks_from e page head) w w' s s' t t' grows ends ascending took_it written.whole refl)

pub page_fault : {T E : Type 0} (r : Result T E) (head : Bool) (page : Page) (end : Option End) (e took : EditionValue) (w w' : Option (List ℕ)) (s s' : List EditionValue) (t t' : Option (List ℕ))
    → took ≡ e → BeginsSeen s s' → EndsWith s' took → IsShelfList s' → TakenGrew t t' (took.number ∷ [])
    → Writes r (page_text head page end e) w w' → OnErr r (BrokeOff (page_request head page end ∷ []) (state w s t) (state w' s' t'))
page_fault r head page end e took w w' s s' t t' same grows last ascending taken written =
    let ends : EndsWith s' e = subst (λ (z : EditionValue). EndsWith s' z) same last in
    let took_it : TakenGrew t t' (e.number ∷ []) = subst (λ (z : EditionValue). TakenGrew t t' (z.number ∷ [])) same taken in
    on_err r (BrokeOff (page_request head page end ∷ []) (state w s t) (state w' s' t')) (page_broke head page end e w w' s s' t t' grows ends ascending took_it written.front)

-- a reply that was written is flushed
pub settled : {T U E : Type 0} (x : T) (y : U) (text : List ℕ) (a b c : Option (List ℕ)) → c ≡ b → Writes {E = E} (Ok x) text a b → Writes {E = E} (Ok y) text a c
settled x y text a b c same written = record { whole = same ∙ written.whole; front = subst (λ (z : Option (List ℕ)). Front text a z) (sym same) written.front }

-- it was written, and couldn't be flushed
pub unsettled : {T E : Type 0} (U : Type 0) (x : T) (f : E) (text : List ℕ) (a b c : Option (List ℕ)) → c ≡ b → Writes {E = E} (Ok x) text a b → Writes {T = U} (Err f) text a c
unsettled U x f text a b c same written = record { whole = tt; front = subst (λ (z : Option (List ℕ)). Front text a z) (sym same) written.front }

-- whether it closes, under another name
pub closing : {T E : Type 0} (r : Result T E) (a b : Option (List ℕ)) (e : EditionValue) (page : Page) (number : ℕ) (head last last' : Bool)
    → last ≡ last' → Writes r (reply_text (body_from e page) (Some number) head last) a b → Writes r (reply_text (body_from e page) (Some number) head last') a b
closing r a b e page number head last last' same written = subst (λ (l : Bool). Writes r (reply_text (body_from e page) (Some number) head l) a b) same written
