-- Rows of checks, and the computed answer that they lead to.
use Rattle.std.specs.Prelude.{Result, IfErr}
use Rattle.std.proofs.Common.{◌≡◌, ◌⊎◌, inl, inr, Bool, true, false, true≢false, Option, Some, None, Ok, Err, refl, sym, ap, ◌∙◌}
use Rattle.serde_json.specs.Data.{Data, Items, no_items, item}
use Rattle.edr_base.specs.FirstThatApplies.{Check, Find, Then, Gives, and_then, or_fault, check}
use Rattle.covjson_checks.specs.declared.faults.CovFault.{CovFault}
use Rattle.covjson_checks.specs.Answers.{Answer, each}

-- the rows have this answer and no other
pub record LeadTo {F T : Type 0} (Rows : Result T F → Type 0) (answer : Result T F) : Type 0 where
  pub follows : Rows answer
  pub only : (other : Result T F) → Rows other → other ≡ answer

-- ---- one row before others

-- nothing is no value
none_some : {V : Type 0} (x : V) → ◌≡◌ {A = Option V} None (Some x) → ⊥
none_some x h = cc

-- a value is no fault
pub ok_err : {F T : Type 0} (x : T) (f : F) → ◌≡◌ {A = Result T F} (Ok x) (Err f) → ⊥
ok_err x f h = cc

-- the value that ends the rows
pub gives_leads : {F T : Type 0} (x : T) → LeadTo {F = F} (Gives x) (Ok x)
gives_leads x = record { follows = refl; only = λ other h. h }

-- a check by a test
pub check_leads : {F T : Type 0} (b : Bool) (Holds : Type 0) (f : F) (Next : Result T F → Type 0) (next : Result T F) → (b ≡ true → Holds) → (Holds → b ≡ true)
    → (Holds → LeadTo Next next) → LeadTo (Check Holds f Next) (and_then (check b f) (λ _. next))
check_leads true Holds f Next next tells given rest = record {
  follows = inl (tells refl, (rest (tells refl)).follows);
  only = λ other h. elim h [ inl k ↦ (rest k.0).only other k.1 | inr k ↦ absurd (k.0 (tells refl)) ];
}
check_leads false Holds f Next next tells given rest = record {
  follows = inr ((λ h. true≢false (sym (given h))), refl);
  only = λ other h. elim h [ inl k ↦ absurd (true≢false (sym (given k.0))) | inr k ↦ k.1 ];
}

-- and the last check
pub check_ends : {F : Type 0} (b : Bool) (Holds : Type 0) (f : F) → (b ≡ true → Holds) → (Holds → b ≡ true) → LeadTo (Check Holds f (Gives tt)) (check b f)
check_ends true Holds f tells given = check_leads true Holds f (Gives tt) (Ok tt) tells given (λ h. gives_leads tt)
check_ends false Holds f tells given = check_leads false Holds f (Gives tt) (Ok tt) tells given (λ h. gives_leads tt)

-- a value that is found by itself
pub find_leads : {F T V : Type 0} (o : Option V) (IsFound : V → Type 0) (f : F) (Next : V → Result T F → Type 0) (next : V → Result T F)
    → ((x : V) → o ≡ Some x → IsFound x) → ((x : V) → IsFound x → o ≡ Some x) → ((x : V) → IsFound x → LeadTo (Next x) (next x))
    → LeadTo (Find IsFound f Next) (and_then (or_fault o f) next)
find_leads None IsFound f Next next tells given rest = record {
  follows = inr ((λ x h. none_some x (given x h)), refl);
  only = λ other h. elim h [ inl k ↦ absurd (none_some k.0 (given k.0 k.1)) | inr k ↦ k.1 ];
}
find_leads (Some y) IsFound f Next next tells given rest = record {
  follows = inl (y, tells y refl, (rest y (tells y refl)).follows);
  only = λ other h. elim h [
    | inl k ↦ let found = given k.0 k.1 in let same : k.0 ≡ y = cc in (rest k.0 k.1).only other k.2 ∙ ap next same
    | inr k ↦ absurd (k.0 y (tells y refl))
  ];
}

-- a value that is there where a test is passed
pub find_tested : {F T V : Type 0} (b : Bool) (IsFound : V → Type 0) (f : F) (Next : V → Result T F → Type 0) (next : Result T F)
    → (b ≡ true → (x : V) × IsFound x) → ((x : V) → IsFound x → b ≡ true) → ((x : V) → IsFound x → LeadTo (Next x) next)
    → LeadTo (Find IsFound f Next) (and_then (check b f) (λ _. next))
find_tested true IsFound f Next next tells given rest =
    let found = tells refl in
    record {
      follows = inl (found.0, found.1, (rest found.0 found.1).follows);
      only = λ other h. elim h [ inl k ↦ (rest k.0 k.1).only other k.2 | inr k ↦ absurd (k.0 found.0 found.1) ];
    }
find_tested false IsFound f Next next tells given rest = record {
  follows = inr ((λ x h. true≢false (sym (given x h))), refl);
  only = λ other h. elim h [ inl k ↦ absurd (true≢false (sym (given k.0 k.1))) | inr k ↦ k.1 ];
}

-- a value that is answered, where all faults are one
pub find_ends : {F V : Type 0} (a : Result V F) (IsFound : V → Type 0) (f : F) → ((x : V) → a ≡ Ok x → IsFound x) → ((x : V) → IsFound x → a ≡ Ok x)
    → IfErr a (λ g. g ≡ f) → LeadTo (Find IsFound f Gives) a
find_ends (Ok y) IsFound f tells given one = record {
  follows = inl (y, tells y refl, refl);
  only = λ other h. elim h [ inl k ↦ k.2 ∙ sym (given k.0 k.1) | inr k ↦ absurd (k.0 y (tells y refl)) ];
}
find_ends (Err g) IsFound f tells given one = record {
  follows = inr ((λ x h. ok_err x g (sym (given x h))), ap Err one);
  only = λ other h. elim h [ inl k ↦ absurd (ok_err k.0 g (sym (given k.0 k.1))) | inr k ↦ k.1 ∙ ap Err (sym one) ];
}

-- rows of their own
pub then_leads : {F T V : Type 0} (Rows : Result V F → Type 0) (a : Result V F) (Next : V → Result T F → Type 0) (next : V → Result T F)
    → LeadTo Rows a → ((x : V) → a ≡ Ok x → LeadTo (Next x) (next x)) → LeadTo (Then Rows Next) (and_then a next)
then_leads Rows (Ok y) Next next here rest = record {
  follows = inl (y, here.follows, (rest y refl).follows);
  only = λ other h. elim h [
    | inl k ↦ let one = here.only (Ok k.0) k.1 in let same : k.0 ≡ y = cc in (rest k.0 (sym one)).only other k.2 ∙ ap next same
    | inr k ↦ absurd (ok_err y k.0 (sym (here.only (Err k.0) k.1)))
  ];
}
then_leads Rows (Err g) Next next here rest = record {
  follows = inr (g, here.follows, refl);
  only = λ other h. elim h [
    | inl k ↦ absurd (ok_err k.0 g (here.only (Ok k.0) k.1))
    | inr k ↦ let one = here.only (Err k.0) k.1 in let same : k.0 ≡ g = cc in k.2 ∙ ap Err same
  ];
}

-- ---- rows that end in a value

-- the row is passed
pub row_passed : {F T A B : Type 0} (x : T) (f : F) → A ⊎ (B × ◌≡◌ {A = Result T F} (Ok x) (Err f)) → A
row_passed x f (inl h) = h
row_passed x f (inr h) = absurd (ok_err x f h.1)

-- and so are rows of their own
pub rows_passed : {F T A : Type 0} {B : F → Type 0} (x : T) → A ⊎ ((f : F) × B f × ◌≡◌ {A = Result T F} (Ok x) (Err f)) → A
rows_passed x (inl h) = h
rows_passed x (inr h) = absurd (ok_err x h.0 h.2)

-- ---- answers with one fault

-- of two steps
pub and_then_one : {F T U : Type 0} (a : Result T F) (next : T → Result U F) (f : F) → IfErr a (λ g. g ≡ f) → ((x : T) → IfErr (next x) (λ g. g ≡ f))
    → IfErr (and_then a next) (λ g. g ≡ f)
and_then_one (Ok x) next f one each_one = each_one x
and_then_one (Err g) next f one each_one = one

-- of a value that may be there
pub or_fault_one : {F T : Type 0} (o : Option T) (f : F) → IfErr (or_fault o f) (λ g. g ≡ f)
or_fault_one None f = refl
or_fault_one (Some x) f = tt

-- of a test
pub check_one : {F : Type 0} (b : Bool) (f : F) → IfErr (check b f) (λ g. g ≡ f)
check_one true f = tt
check_one false f = refl

-- of each item
pub each_one : {V : Type 0} (answer_of : Data → Answer V) (f : CovFault) → ((d : Data) → IfErr (answer_of d) (λ g. g ≡ f)) → (ds : Items)
    → IfErr (each answer_of ds) (λ g. g ≡ f)
each_one answer_of f one no_items = tt
each_one answer_of f one (item d ds) =
    and_then_one (answer_of d) _ f (one d) (λ v. and_then_one (each answer_of ds) _ f (each_one answer_of f one ds) (λ vs. tt))
