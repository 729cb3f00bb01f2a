-- Rows of checks have one answer where each row finds one value.
use Rattle.std.specs.Prelude.{Result}
use Rattle.std.proofs.Common.{◌≡◌, Ok, Err, inl, inr, sym, ap, ◌∙◌, subst}
use Rattle.edr_base.specs.FirstThatApplies.{Check, Find, Then, Gives}

-- no two answers follow the rows
abbrev pub HasOneAnswer : {F T : Type 0} → (Result T F → Type 0) → Type 0
HasOneAnswer {F} {T} Rows = (one other : Result T F) → Rows one → Rows other → one ≡ other

pub gives_one : {F T : Type 0} (value : T) → HasOneAnswer {F = F} (Gives value)
gives_one value one other h k = h ∙ sym k

pub check_one : {F T : Type 0} (Holds : Type 0) (fault : F) (Next : Result T F → Type 0) → (Holds → HasOneAnswer Next) → HasOneAnswer (Check Holds fault Next)
check_one Holds fault Next later one other (inl h) (inl k) = later h.0 one other h.1 k.1
check_one Holds fault Next later one other (inl h) (inr k) = absurd (k.0 h.0)
check_one Holds fault Next later one other (inr h) (inl k) = absurd (h.0 k.0)
check_one Holds fault Next later one other (inr h) (inr k) = h.1 ∙ sym k.1

pub find_one : {V F T : Type 0} (IsFound : V → Type 0) (fault : F) (Next : V → Result T F → Type 0) → ((v w : V) → IsFound v → IsFound w → v ≡ w)
    → ((v : V) → IsFound v → HasOneAnswer (Next v)) → HasOneAnswer (Find IsFound fault Next)
find_one IsFound fault Next unique later one other (inl h) (inl k) =
    let same : h.0 ≡ k.0 = unique h.0 k.0 h.1 k.1 in
    later k.0 k.1 one other (subst (λ v. Next v one) same h.2) k.2
find_one IsFound fault Next unique later one other (inl h) (inr k) = absurd (k.0 h.0 h.1)
find_one IsFound fault Next unique later one other (inr h) (inl k) = absurd (h.0 k.0 k.1)
find_one IsFound fault Next unique later one other (inr h) (inr k) = h.1 ∙ sym k.1

pub then_one : {V F T : Type 0} (Rows : Result V F → Type 0) (Next : V → Result T F → Type 0) → HasOneAnswer Rows
    → ((v : V) → Rows (Ok v) → HasOneAnswer (Next v)) → HasOneAnswer (Then Rows Next)
then_one Rows Next unique later one other (inl h) (inl k) =
    let same : h.0 ≡ k.0 = let e = unique (Ok h.0) (Ok k.0) h.1 k.1 in cc in
    later k.0 k.1 one other (subst (λ v. Next v one) same h.2) k.2
then_one Rows Next unique later one other (inl h) (inr k) = let e = unique (Ok h.0) (Err k.0) h.1 k.1 in cc
then_one Rows Next unique later one other (inr h) (inl k) = let e = unique (Err h.0) (Ok k.0) h.1 k.1 in cc
then_one Rows Next unique later one other (inr h) (inr k) =
    let same : h.0 ≡ k.0 = let e = unique (Err h.0) (Err k.0) h.1 k.1 in cc in
    h.2 ∙ (ap Err same ∙ sym k.2)
