-- More of rows of checks and the computation of their answer.
use Rattle.std.specs.Prelude.{Result, ◌↔◌}
use Rattle.std.proofs.Common.{◌≡◌, Ok, Err, sym, subst}
use Rattle.covjson_checks.specs.RowLaws.{HasOneAnswer, HaveAnswer}

-- where rows have one answer, an answer that follows them is that one
pub one_is_answer : {F T : Type 0} (Rows : Result T F → Type 0) (answer : Result T F) → Rows answer → HasOneAnswer Rows → HaveAnswer Rows answer
one_is_answer Rows answer follows one = record { follows = follows; only = λ other rows. one other answer rows follows }

-- where rows with a value say what stands, the answer is that value exactly where it stands
pub answer_stands : {F T : Type 0} (Rows : Result T F → Type 0) (answer : Result T F) (Stands : T → Type 0) → HaveAnswer Rows answer → ((x : T) → Rows (Ok x) → Stands x) → ((x : T) → Stands x → Rows (Ok x))
    → (x : T) → (answer ≡ Ok x) ↔ Stands x
answer_stands Rows answer Stands has tells passes x =
    (λ h. tells x (subst Rows h has.follows), λ s. sym (has.only (Ok x) (passes x s)))

-- what an answer gives is one value
pub same_ok : {T F : Type 0} (x y : T) → ◌≡◌ {A = Result T F} (Ok x) (Ok y) → x ≡ y
same_ok x y h = cc

-- and a value is no fault
pub not_fault : {T F : Type 0} (x : T) (f : F) → ¬ (◌≡◌ {A = Result T F} (Ok x) (Err f))
not_fault x f h = cc
