-- A target has one answer, and its refusal is the first.
use Rattle.std.proofs.Common.{◌≡◌, inl, inr, ◌∙◌, ℕ, List, refl, ap, sym, subst, Some, Ok, Err}
use Rattle.std.specs.Prelude.{Result}
use Rattle.std.specs.declared.option.Option.{Option}
use Rattle.edr_base.specs.declared.refusals.Refusal.{Refusal}
use Rattle.edr_edition.specs.Values.{EditionValue}
use Rattle.edr_query.specs.declared.pages.Page.{Page}
use Rattle.edr_base.specs.RefusalLaws.{least_once}
use Rattle.edr_query.specs.Targets.{IsTarget, Refuses, TargetIsOne}
use Rattle.edr_select.specs.Refusals.{Applies}
use Rattle.edr_describe.specs.Answers.{IsAnswer}
use Rattle.edr_serve.specs.Answers.{AnswerIsOne, AppliesTo, IsTheFirst, RefusalIsTheFirst}

some_same : {V : Type 0} (a b : V) (o : Option V) → o ≡ Some a → o ≡ Some b → a ≡ b
some_same a b o e f = cc

ok_same : {T E : Type 0} (a b : T) (r : Result T E) → r ≡ Ok a → r ≡ Ok b → a ≡ b
ok_same a b r e f = cc

err_same : {T E : Type 0} (a b : E) (r : Result T E) → r ≡ Err a → r ≡ Err b → a ≡ b
err_same a b r e f = cc

-- a page has one answer
of_page : (edition : EditionValue) (page : Page) (one other : Result (List ℕ) Refusal) → IsAnswer edition page one → IsAnswer edition page other → one ≡ other
of_page edition page (Ok a) (Ok b) x y = ap Ok (some_same a b _ x.text_is y.text_is)
of_page edition page (Ok a) (Err r) x y = absurd (x.none r y.applies)
of_page edition page (Err r) (Ok a) x y = absurd (y.none r x.applies)
of_page edition page (Err r) (Err s) x y = ap Err (least_once (Applies edition page) r s x y)

-- a target asks for one page
page_same : TargetIsOne → (target : List ℕ) (a b : Page) → IsTarget target (Ok a) → IsTarget target (Ok b) → a ≡ b
page_same one target a b x y = ok_same a b (Ok a) refl (one target (Ok a) (Ok b) x y)

-- a target is refused by one refusal
refusal_same : TargetIsOne → (target : List ℕ) (r s : Refusal) → IsTarget target (Err r) → IsTarget target (Err s) → r ≡ s
refusal_same one target r s x y = err_same r s (Err r) refl (one target (Err r) (Err s) x y)

pub one_answer : TargetIsOne → AnswerIsOne
one_answer one edition target a b (inl x) (inl y) =
    of_page edition y.page a b (subst (λ (page : Page). IsAnswer edition page a) (page_same one target x.page y.page x.asked y.asked) x.answered) y.answered
one_answer one edition target a b (inl x) (inr y) = absurd (x.asked.none y.refusal y.refused.applies)
one_answer one edition target a b (inr x) (inl y) = absurd (y.asked.none x.refusal x.refused.applies)
one_answer one edition target a b (inr x) (inr y) =
    x.is ∙ (ap Err (refusal_same one target x.refusal y.refusal x.refused y.refused) ∙ sym y.is)

-- ---- the first refusal

-- what applies to a target that asks for a page applies to that page
at_page : TargetIsOne → (edition : EditionValue) (target : List ℕ) (page : Page) (refusal : Refusal) → IsTarget target (Ok page) → AppliesTo edition target refusal → Applies edition page refusal
at_page one edition target page refusal asked (inl refuses) = absurd (asked.none refusal refuses)
at_page one edition target page refusal asked (inr h) = subst (λ (p : Page). Applies edition p refusal) (page_same one target h.0 page h.1 asked) h.2

-- what applies to a target that is refused applies to the target
at_target : (edition : EditionValue) (target : List ℕ) (other refusal : Refusal) → IsTarget target (Err other) → AppliesTo edition target refusal → Refuses target refusal
at_target edition target other refusal least (inl refuses) = refuses
at_target edition target other refusal least (inr h) = absurd (h.1.none other least.applies)

first_of_page : TargetIsOne → (edition : EditionValue) (target : List ℕ) (page : Page) (answer : Result (List ℕ) Refusal)
    → IsTarget target (Ok page) → IsAnswer edition page answer → IsTheFirst edition target answer
first_of_page one edition target page (Ok text) asked x = λ refusal h. x.none refusal (at_page one edition target page refusal asked h)
first_of_page one edition target page (Err refusal) asked x = record {
  applies = inr (page, asked, x.applies);
  none_before = λ other lower h. x.none_before other lower (at_page one edition target page other asked h);
}

first_of_target : (edition : EditionValue) (target : List ℕ) (refusal : Refusal) → IsTarget target (Err refusal) → IsTheFirst edition target (Err refusal)
first_of_target edition target refusal least = record {
  applies = inl least.applies;
  none_before = λ other lower h. least.none_before other lower (at_target edition target refusal other least h);
}

pub is_first : TargetIsOne → RefusalIsTheFirst
is_first one edition target answer (inl x) = first_of_page one edition target x.page answer x.asked x.answered
is_first one edition target answer (inr x) = subst (λ (a : Result (List ℕ) Refusal). IsTheFirst edition target a) (sym x.is) (first_of_target edition target x.refusal x.refused)
