-- Rows over the items of a list have the answer that is given item by item, with the place of the first that is at fault.
use Rattle.std.proofs.Common.{◌≡◌, ◌⊎◌, ℕ, suc, ◌+◌, List, [], ◌∷◌, Bool, true, false, Decides, Ok, Err, inl, inr, refl, sym, ap, ◌∙◌, subst, arith}
use Rattle.serde_json.specs.Data.{Data, Items, no_items, item}
use Rattle.edr_base.specs.FirstThatApplies.{and_then, check}
use Rattle.edr_json.specs.Trees.{EachStands}
use Rattle.edr_json.specs.AnswerLaws.{and_then_given}
use Rattle.covjson_checks.specs.declared.faults.CovFault.{CovFault}
use Rattle.covjson_checks.specs.Answers.{Answer}
use Rattle.covjson_checks.specs.Places.{EachItem, IsFirstItem, CheckEach, failing_place}
use Rattle.covjson_checks.specs.PlaceLaws.{each_none, each_more, each_head, each_tail, first_is, first_here, first_here_place, first_later, first_later_place, first_place, first_among, FirstFailing}
use Rattle.covjson_checks.specs.RowLaws.{HaveAnswer}

-- what is found of each item, or the first place at which there is nothing
abbrev pub Outcome : {V : Type 0} → (ℕ → CovFault) → (Data → V → Type 0) → (Data → Type 0) → Items → ℕ → Answer (List V) → Type 0
Outcome {V} fault_at R Is ds place answer =
    ((vs : List V) × (answer ≡ Ok vs) × EachStands R ds vs × EachItem Is ds)
    ⊎ ((d : Data) × (first : IsFirstItem (λ other. ¬ (Is other)) ds d) × (answer ≡ Err (fault_at (place + first.place))))

-- that outcome is the answer of a row over each item
pub check_each_answers : {V T : Type 0} (fault_at : ℕ → CovFault) (R : Data → V → Type 0) (Is : Data → Type 0) (ds : Items) (Next : Answer T → Type 0) (answer : Answer (List V)) (next : List V → Answer T)
    → Outcome fault_at R Is ds 0 answer → ((vs : List V) → EachStands R ds vs → HaveAnswer Next (next vs)) → HaveAnswer (CheckEach Is fault_at ds Next) (and_then answer next)
check_each_answers fault_at R Is ds Next answer next (inl h) rows =
    let vs = h.0 in
    let has = rows vs h.2 in
    let given : HaveAnswer (CheckEach Is fault_at ds Next) (next vs) = record {
      follows = inl (h.3, has.follows);
      only = λ other k. elim k [
        | inl w ↦ has.only other w.1
        | inr w ↦ absurd (first_is (λ e. ¬ (Is e)) ds w.0 w.1 (h.3 w.0 (first_among (λ e. ¬ (Is e)) ds w.0 w.1)))
      ];
    } in
    subst (λ a. HaveAnswer (CheckEach Is fault_at ds Next) (and_then a next)) (sym h.1) given
check_each_answers {V} {T} fault_at R Is ds Next answer next (inr h) rows =
    let first = h.1 in
    let at : 0 + first.place ≡ first.place = omega arith in
    let fault : ℕ → Answer T = λ place. Err (fault_at place) in
    let given : HaveAnswer (CheckEach Is fault_at ds Next) (fault (0 + first.place)) = record {
      follows = inr (h.0, first, ap fault at);
      only = λ other k. elim k [
        | inl w ↦ absurd (first_is (λ e. ¬ (Is e)) ds h.0 first (w.0 h.0 (first_among (λ e. ¬ (Is e)) ds h.0 first)))
        | inr w ↦ w.2 ∙ ap fault (first_place (λ e. ¬ (Is e)) ds w.0 h.0 w.1 first ∙ sym at)
      ];
    } in
    subst (λ a. HaveAnswer (CheckEach Is fault_at ds Next) (and_then a next)) (sym h.2) given

-- a value is found of an item, or there is none and its place is the fault
abbrev pub Found : {V : Type 0} → (ℕ → CovFault) → (Data → V → Type 0) → (Data → Type 0) → ℕ → Data → Answer V → Type 0
Found {V} fault_at R Is place d answer = ((v : V) × (answer ≡ Ok v) × R d v × Is d) ⊎ ((¬ (Is d)) × (answer ≡ Err (fault_at place)))

-- items in turn, each with its place
module _ {V : Type 0} (fault_at : ℕ → CovFault) (step : ℕ → Data → Answer V) (run : ℕ → Items → Answer (List V)) (Had Is : Data → Type 0) (R : Data → V → Type 0)
    (none : (place : ℕ) → run place no_items ≡ Ok [])
    (more : (place : ℕ) (d : Data) (ds : Items) → run place (item d ds) ≡ and_then (step place d) (λ v. and_then (run (suc place) ds) (λ vs. Ok (v ∷ vs))))
    (one : (place : ℕ) (d : Data) → Had d → Found fault_at R Is place d (step place d)) where
  -- an item of which a value is found, before the others
  after : (place : ℕ) (d : Data) (ds : Items) → (v : V) × (step place d ≡ Ok v) × R d v × Is d → Outcome fault_at R Is ds (suc place) (run (suc place) ds) → Outcome fault_at R Is (item d ds) place (run place (item d ds))
  after place d ds h (inl w) =
      inl (h.0 ∷ w.0, more place d ds ∙ and_then_given (step place d) _ h.0 _ h.1 (and_then_given (run (suc place) ds) _ w.0 _ w.1 refl), (h.2, w.2), each_more Is d ds h.3 w.3)
  after place d ds h (inr w) =
      let not : ¬ (¬ (Is d)) = λ no_more. no_more h.3 in
      let later = first_later (λ other. ¬ (Is other)) d ds w.0 not w.1 in
      let at : suc place + w.1.place ≡ place + later.place = omega (arith, first_later_place (λ other. ¬ (Is other)) d ds w.0 not w.1) in
      let fault : ℕ → Answer (List V) = λ p. Err (fault_at p) in
      inr (w.0, later, more place d ds ∙ and_then_given (step place d) _ h.0 _ h.1 (ap (λ (a : Answer (List V)). and_then a (λ vs. Ok (h.0 ∷ vs))) w.2 ∙ ap fault at))

  -- an item, before the others
  either_way : (place : ℕ) (d : Data) (ds : Items) → Found fault_at R Is place d (step place d) → Outcome fault_at R Is ds (suc place) (run (suc place) ds) → Outcome fault_at R Is (item d ds) place (run place (item d ds))
  either_way place d ds (inl h) later = after place d ds h later
  either_way place d ds (inr h) later =
      let first = first_here (λ other. ¬ (Is other)) d ds h.0 in
      let at : place ≡ place + first.place = omega (arith, first_here_place (λ other. ¬ (Is other)) d ds h.0) in
      let fault : ℕ → Answer (List V) = λ p. Err (fault_at p) in
      inr (d, first, more place d ds ∙ ap (λ (a : Answer V). and_then a (λ v. and_then (run (suc place) ds) (λ vs. Ok (v ∷ vs)))) h.1 ∙ ap fault at)

  pub outcome : (place : ℕ) (ds : Items) → EachItem Had ds → Outcome fault_at R Is ds place (run place ds)
  outcome place no_items had = inl ([], none place, tt, each_none Is)
  outcome place (item d ds) had = either_way place d ds (one place d (each_head Had d ds had)) (outcome (suc place) ds (each_tail Had d ds had))

-- ---- by one test of all items

-- where all pass, the next rows have the answer; else the fault is that of the place which the test gives
pub each_tested : {T : Type 0} (fault_at : ℕ → CovFault) (Is : Data → Type 0) (one : Data → Bool) (ds : Items) (Next : Answer T → Type 0) (all : Bool) (next : Answer T)
    → Decides all (EachItem Is ds) → (all ≡ false → FirstFailing Is one ds) → (EachItem Is ds → HaveAnswer Next next)
    → HaveAnswer (CheckEach Is fault_at ds Next) (and_then (check all (fault_at (failing_place one ds))) (λ _. next))
each_tested fault_at Is one ds Next true next decides failing rows =
    let each = decides.0 refl in
    let has = rows each in
    record {
      follows = inl (each, has.follows);
      only = λ other k. elim k [
        | inl w ↦ has.only other w.1
        | inr w ↦ absurd (first_is (λ e. ¬ (Is e)) ds w.0 w.1 (each w.0 (first_among (λ e. ¬ (Is e)) ds w.0 w.1)))
      ];
    }
each_tested {T} fault_at Is one ds Next false next decides failing rows =
    let f = failing refl in
    let fault : ℕ → Answer T = λ place. Err (fault_at place) in
    record {
      follows = inr (f.0, f.1, ap fault (sym f.2));
      only = λ other k. elim k [
        | inl w ↦ absurd (first_is (λ e. ¬ (Is e)) ds f.0 f.1 (w.0 f.0 (first_among (λ e. ¬ (Is e)) ds f.0 f.1)))
        | inr w ↦ w.2 ∙ ap fault (first_place (λ e. ¬ (Is e)) ds w.0 f.0 w.1 f.1 ∙ f.2)
      ];
    }
