-- Laws of requests: the bytes alone say which they hold.
use Rattle.std.proofs.Common.{◌≡◌, inl, inr, ⊎_elim, ℕ, zero, suc, ◌-◌, arith, Bool, true, false, List, [], ◌∷◌, ◌++◌, append-nil, sym, ap, subst, ◌∙◌, refl, Some, None, Ok, Err}
use Rattle.std.specs.declared.option.Option.{Option}
use Rattle.std.specs.Prelude.{is_some, if◌then◌else◌, Result}
use Rattle.httparse.specs.Grammar.{RequestHead, print_request, print_blank, print_version, print_end, print_section}
use Rattle.edr_base.specs.declared.refusals.Refusal.{Refusal}
use Rattle.edr_base.specs.RefusalTable.{line_of}
use Rattle.edr_query.specs.declared.pages.Page.{Page}
use Rattle.edr_query.specs.Targets.{IsTarget, TargetIsOne}
use Rattle.edr_http.specs.declared.heads.Head.{Head}
use Rattle.edr_http.specs.Heads.{HeadOf, HasHead, HasNoHead, HeadIsOne, IsDecided}
use Rattle.edr_http.specs.Checks.{Refuses, RefusalIsOne, is_head, says_close}
use Rattle.edr_serve.specs.declared.ends.End.{End}
use Rattle.edr_serve.specs.declared.ends.End.TheVariants.{ClosedByRefusal}
use Rattle.edr_serve.specs.Requests.{Request, AsksUnless, closes, end_by_turns, end_of, IsOf, no_head, IsFirstRequest, Requests, Begun}
use Rattle.edr_serve.specs.SessionLaws.{RequestsExist}

asks_same : TargetIsOne → (refusal : Option Refusal) (target : List ℕ) (a b : Result Page Refusal) → AsksUnless refusal target a → AsksUnless refusal target b → a ≡ b
asks_same one (Some r) target a b x y = x ∙ sym y
asks_same one None target a b x y = one target a b x y

same_request : (r s : Request) → r.is_head ≡ s.is_head → r.asked ≡ s.asked → r.end ≡ s.end → r ≡ s
same_request r s h a e =
    ap (λ z. record { is_head = z; asked = r.asked; end = r.end }) h ∙ ap (λ z. record { is_head = s.is_head; asked = z; end = r.end }) a
    ∙ ap (λ z. record { is_head = s.is_head; asked = s.asked; end = z }) e

-- one head makes one request
head_same : RefusalIsOne → TargetIsOne → (n : ℕ) (h : Head) (r s : Request) → IsOf n h r → IsOf n h s → r ≡ s
head_same refusal target n h r s x y =
    let checked : x.refusal ≡ y.refusal = refusal h x.refusal y.refusal x.refused y.refused in
    let moved : AsksUnless y.refusal h.target r.asked = subst (λ (o : Option Refusal). AsksUnless o h.target r.asked) checked x.asks in
    let asked : r.asked ≡ s.asked = asks_same target y.refusal h.target r.asked s.asked moved y.asks in
    same_request r s (x.is_head_is ∙ sym y.is_head_is) asked (x.end_is ∙ ap (end_of n (says_close h)) asked ∙ sym y.end_is)

first_same : HeadIsOne → RefusalIsOne → TargetIsOne → (n : ℕ) (b : List ℕ) (r s : Request) (p q : List ℕ) → IsFirstRequest n b r p → IsFirstRequest n b s q → (r ≡ s) × (p ≡ q)
first_same head refusal target n b r s p q (inr x) (inr y) = (x.request_is ∙ sym y.request_is, x.rest_is ∙ sym y.rest_is)
first_same head refusal target n b r s p q (inr x) (inl y) = absurd (x.none y.head q y.begins)
first_same head refusal target n b r s p q (inl x) (inr y) = absurd (y.none x.head p x.begins)
first_same head refusal target n b r s p q (inl x) (inl y) =
    let same = head b x.head y.head p q x.begins y.begins in
    (head_same refusal target n y.head r s (subst (λ (h : Head). IsOf n h r) same.0 x.is_of) y.is_of, same.1)

-- ---- no head is empty

front_empty : (xs ys : List ℕ) → [] ≡ xs ++ ys → [] ≡ xs
front_empty [] ys e = refl
front_empty (x ∷ xs) ys e = cc

back_some : (xs ys : List ℕ) (x : ℕ) → [] ≡ xs ++ (x ∷ ys) → ⊥
back_some [] ys x e = cc
back_some (z ∷ xs) ys x e = cc

some_head : (h : RequestHead) → [] ≡ print_request h → ⊥
unfolding print_request
some_head h e =
    let front : List ℕ = print_blank h.blank ++ h.method in
    let line : List ℕ = front ++ (32 ∷ h.target) in
    let versioned : List ℕ = line ++ (32 ∷ print_version h.minor) in
    back_some front h.target 32 (front_empty line (32 ∷ print_version h.minor) (front_empty versioned (print_end h.line_end) (front_empty (versioned ++ print_end h.line_end) (print_section h.fields h.last) e)))

never : (h : RequestHead) (p : List ℕ) → [] ≡ print_request h ++ p → ⊥
never h p e = some_head h (front_empty (print_request h) p e)

pub no_first : (n : ℕ) (r : Request) (p : List ℕ) → IsFirstRequest n [] r p → ⊥
no_first n r p (inr x) = x.some refl
no_first n r p (inl x) = never x.begins.tree p x.begins.begins.reads.1

-- ---- lists of requests

-- some bytes hold one list of requests at most
pub requests_same : HeadIsOne → RefusalIsOne → TargetIsOne → (n : ℕ) (b : List ℕ) (rs ss : List Request) → Requests n b rs → Requests n b ss → rs ≡ ss
requests_same head refusal target n b [] [] x y = refl
requests_same head refusal target n b [] (s ∷ ss) x y = absurd (no_first n s y.0 (subst (λ (z : List ℕ). IsFirstRequest n z s y.0) x y.1))
requests_same head refusal target n b (r ∷ rs) [] x y = absurd (no_first n r x.0 (subst (λ (z : List ℕ). IsFirstRequest n z r x.0) y x.1))
requests_same head refusal target n b (r ∷ rs) (s ∷ ss) x y =
    let u = first_same head refusal target n b r s x.0 y.0 x.1 y.1 in
    let end : is_some r.end ≡ is_some s.end = ap (λ (z : Request). is_some z.end) u.0 in
    let more : (v : Bool) → is_some r.end ≡ v → rs ≡ ss = elim [
      | true ↦ λ t. x.2 t ∙ sym (y.2 (sym end ∙ t))
      | false ↦ λ f. requests_same head refusal target (n - 1) x.0 rs ss (x.3 f) (subst (λ (z : List ℕ). Requests (n - 1) z ss) (sym u.1) (y.3 (sym end ∙ f)))
    ] in
    ap (λ z. z ∷ rs) u.0 ∙ ap (λ z. s ∷ z) (more (is_some r.end) refl)

-- the requests that were begun are the first of those that the bytes hold
pub begun_same : HeadIsOne → RefusalIsOne → TargetIsOne → (n : ℕ) (b : List ℕ) (rs all : List Request) → Begun n b rs → Requests n b all → (more : List Request) × (all ≡ rs ++ more)
begun_same head refusal target n b [] all x y = (all, refl)
begun_same head refusal target n b (r ∷ rs) [] x y = absurd (no_first n r x.0 (subst (λ (z : List ℕ). IsFirstRequest n z r x.0) y x.1))
begun_same head refusal target n b (r ∷ rs) (s ∷ ss) x y =
    let u = first_same head refusal target n b r s x.0 y.0 x.1 y.1 in
    let end : is_some r.end ≡ is_some s.end = ap (λ (z : Request). is_some z.end) u.0 in
    let more : (v : Bool) → is_some r.end ≡ v → (m : List Request) × (ss ≡ rs ++ m) = elim [
      | true ↦ λ t. ([], y.2 (sym end ∙ t) ∙ (sym (x.2 t) ∙ sym (append-nil rs)))
      | false ↦ λ f. begun_same head refusal target (n - 1) x.0 rs ss (x.3 f) (subst (λ (z : List ℕ). Requests (n - 1) z ss) (sym u.1) (y.3 (sym end ∙ f)))
    ] in
    let tail = more (is_some r.end) refl in
    (tail.0, ap (λ z. s ∷ z) tail.1 ∙ ap (λ z. z ∷ (rs ++ tail.0)) (sym u.0))

-- ---- there are some

both : (b : Bool) → b ≡ true → b ≡ false → ⊥
both b t f = cc

-- the last turn ends a session
last_ends : (close : Bool) (asked : Result Page Refusal) → end_of 1 close asked ≡ None → ⊥
last_ends true (Ok page) e = cc
last_ends false (Ok page) e = cc
last_ends close (Err refusal) e = last_refused close (closes refusal) (line_of refusal).number e
  where
    last_refused : (close shuts : Bool) (number : ℕ) → (if shuts then Some (ClosedByRefusal number) else end_by_turns 1 close) ≡ None → ⊥
    last_refused close true number e = cc
    last_refused true false number e = cc
    last_refused false false number e = cc

-- requests behind some bytes' first
Behind : ℕ → Type 0
Behind n = (m : ℕ) → n ≡ suc m → (c : List ℕ) → (rs : List Request) × Requests (suc m) c rs

with_head : (n : ℕ) → Behind n → (b : List ℕ) (head : Head) (rest : List ℕ) → HeadOf b head rest → (r : Request) → IsOf (suc n) head r → (o : Option End) → r.end ≡ o
    → (rs : List Request) × Requests (suc n) b rs
unfolding Behind
with_head n behind b head rest x r is (Some end) e =
    (r ∷ [], (rest, inl (record { head = head; begins = x; is_of = is }), (λ _. refl), λ f. absurd (both (is_some r.end) (ap is_some e) f)))
with_head zero behind b head rest x r is None e = absurd (last_ends (says_close head) r.asked (sym is.end_is ∙ e))
with_head (suc m) behind b head rest x r is None e =
    let more = behind m refl rest in
    let fewer : suc m ≡ suc (suc m) - 1 = omega arith in
    (r ∷ more.0, (rest, inl (record { head = head; begins = x; is_of = is }), (λ t. absurd (both (is_some r.end) t (ap is_some e))), λ _. subst (λ (k : ℕ). Requests k rest more.0) fewer more.1))

asked_of : (o : Option Refusal) (target : List ℕ) → ((target : List ℕ) → (asked : Result Page Refusal) × IsTarget target asked) → (asked : Result Page Refusal) × AsksUnless o target asked
asked_of (Some refusal) target targets = (Err refusal, refl)
asked_of None target targets = targets target

found_first : ((bytes : List ℕ) → IsDecided bytes) → ((head : Head) → (refusal : Option Refusal) × Refuses head refusal) → ((target : List ℕ) → (asked : Result Page Refusal) × IsTarget target asked)
    → (n : ℕ) → Behind n → (b : List ℕ) → (rs : List Request) × Requests (suc n) b rs
found_first decided refused targets n behind [] = ([], refl)
found_first decided refused targets n behind (x ∷ b) = ⊎_elim
    (λ (has : HasHead (x ∷ b)).
    let o = refused has.0 in
    let a = asked_of o.0 has.0.target targets in
    let r : Request = record { is_head = is_head has.0; asked = a.0; end = end_of (suc n) (says_close has.0) a.0 } in
    with_head n behind (x ∷ b) has.0 has.1 has.2 r (record { refusal = o.0; refused = o.1; asks = a.1; is_head_is = refl; end_is = refl }) r.end refl)
    (λ (none : HasNoHead (x ∷ b)). (no_head ∷ [], (x ∷ b, inr (record { some = λ e. cc e; none = none; request_is = refl; rest_is = refl }), (λ _. refl), λ f. absurd (cc f))))
    (decided (x ∷ b))

pub requests_found : RequestsExist
unfolding Behind
requests_found decided refused targets zero b = found_first decided refused targets zero (λ m e. absurd (cc e)) b
requests_found decided refused targets (suc n) b =
    found_first decided refused targets (suc n) (λ m e c. subst (λ (k : ℕ). (rs : List Request) × Requests (suc k) c rs) (omega (arith, e)) (requests_found decided refused targets n c)) b
