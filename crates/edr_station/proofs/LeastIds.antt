-- The least id of those that are so, one place more at a time.
use Rattle.std.proofs.Common.{◌≡◌, ℕ, ◌+◌, ◌<◌, ◌≤◌, List, inl, inr, length, All, Option, Some, None, Less, Equal, refl, sym, ap, ◌∙◌, subst, arith}
use Rattle.std.proofs.Math.Nat.{eq-or-lt_of_le}
use Rattle.std.proofs.lemmas.Cmp.{nat_list_cmp_total}
use Rattle.std.proofs.lemmas.Bool.{cases_eq}
use Rattle.std.proofs.lemmas.List.{get_or_default}
use Rattle.edr_base.specs.Names.{order}
use Rattle.edr_ids.specs.ListLaws.{order_itself}
use Rattle.edr_base.specs.FirstThatApplies.{IsLeast, IsLeastId}
use Rattle.edr_station.specs.declared.inputs.StationInput.{StationInput}
use Rattle.edr_station.specs.declared.inputs.StationFault.{StationFault}
use Rattle.edr_station.specs.declared.inputs.StationFault.TheVariants.{SameId, WrongCount, OutOfMemory}
use Rattle.edr_station.specs.Inputs.{no_input, input_at, id_at, HasCounts, IsRepeated, IsMiscounted, rank, Applies}
use Rattle.edr_station.specs.Least.{IsRepeatAt, IsMiscountedAt, IsBelow, IsLeastPlace, IsLesser, HaveOwnIds}

not_below_itself : (inputs : List StationInput) (place : ℕ) → IsBelow inputs place place → ⊥
not_below_itself inputs place below = let e : Less ≡ Equal = sym below ∙ order_itself (id_at inputs place) in cc

below_trans : (inputs : List StationInput) (a b c : ℕ) → IsBelow inputs a b → IsBelow inputs b c → IsBelow inputs a c
below_trans inputs a b c = nat_list_cmp_total.trans (id_at inputs a) (id_at inputs b) (id_at inputs c)

module _ (inputs : List StationInput) (IsSo : ℕ → Type 0) (place : ℕ) where
  -- what holds of all places below, and of this one, holds of all up to it
  up_to : (P : ℕ → Type 0) → ((at : ℕ) → at < place → P at) → P place → (at : ℕ) → at < place + 1 → P at
  up_to P below here at h =
      let le : at ≤ place = omega arith in
      elim (eq-or-lt_of_le le) [
        | inl same ↦ subst P (sym same) here
        | inr less ↦ below at less
      ]

  pub least_yes : (least result : Option ℕ) → IsSo place → IsLeastPlace inputs IsSo place least → IsLesser inputs least place result → IsLeastPlace inputs IsSo (place + 1) result
  least_yes None result so h is =
      subst (IsLeastPlace inputs IsSo (place + 1)) (sym is)
      (omega arith, so, up_to (λ at. IsSo at → ¬ (IsBelow inputs at place)) (λ at below so'. absurd (h at below so')) (λ so' below. not_below_itself inputs place below))
  least_yes (Some p) result so h (inl lower) =
      subst (IsLeastPlace inputs IsSo (place + 1)) (sym lower.0) (
        omega arith,
        so,
        up_to (λ at. IsSo at → ¬ (IsBelow inputs at place)) (λ at below so' under. h.2 at below so' (below_trans inputs at place p under lower.1)) (λ so' below. not_below_itself inputs place below),
      )
  least_yes (Some p) result so h (inr higher) =
      subst (IsLeastPlace inputs IsSo (place + 1)) (sym higher.0)
      (omega (arith, h.0), h.1, up_to (λ at. IsSo at → ¬ (IsBelow inputs at p)) h.2 (λ so'. higher.1))

  pub least_no : (least : Option ℕ) → ¬ (IsSo place) → IsLeastPlace inputs IsSo place least → IsLeastPlace inputs IsSo (place + 1) least
  least_no None lacks h = up_to (λ at. ¬ (IsSo at)) h lacks
  least_no (Some p) lacks h = (omega (arith, h.0), h.1, up_to (λ at. IsSo at → ¬ (IsBelow inputs at p)) h.2 (λ so. absurd (lacks so)))

pub least_repeated : (inputs : List StationInput) (place : ℕ) → IsLeastPlace inputs (IsRepeatAt inputs) (length inputs) (Some place) → IsLeastId (IsRepeated inputs) (id_at inputs place)
least_repeated inputs place h = record {
  so = record { first = h.1.0; second = place; apart = h.1.1; inside = h.0; first_has = h.1.2; second_has = refl };
  none_before = λ other r less.
      h.2 r.second r.inside (r.first, r.apart, r.first_has ∙ sym r.second_has) (ap (λ k. order k (id_at inputs place)) r.second_has ∙ less);
}

pub none_miscounted : (parameters : ℕ) (inputs : List StationInput) → IsLeastPlace inputs (IsMiscountedAt parameters inputs) (length inputs) None
    → (id : List ℕ) → ¬ (IsMiscounted parameters inputs id)
none_miscounted parameters inputs h id m = h m.place m.inside m.differs

pub least_miscounted : (parameters : ℕ) (inputs : List StationInput) (place : ℕ) → IsLeastPlace inputs (IsMiscountedAt parameters inputs) (length inputs) (Some place)
    → IsLeastId (IsMiscounted parameters inputs) (id_at inputs place)
least_miscounted parameters inputs place h = record {
  so = record { place = place; inside = h.0; has = refl; differs = h.1 };
  none_before = λ other m less. h.2 m.place m.inside m.differs (ap (λ k. order k (id_at inputs place)) m.has ∙ less);
}

-- an input that isn't miscounted has the counts
nat_stable : (a b : ℕ) → ((a ≡ b → ⊥) → ⊥) → a ≡ b
nat_stable a b twice = elim (cases_eq a b) [
  | inl e ↦ e
  | inr differs ↦ absurd (twice differs)
]

counts_stable : (parameters : ℕ) (input : StationInput) → ((HasCounts parameters input → ⊥) → ⊥) → HasCounts parameters input
counts_stable parameters input twice = record {
  many = nat_stable _ _ (λ differs. twice (λ h. differs h.many));
  long = λ k d inside. nat_stable _ _ (λ differs. twice (λ h. differs (h.long k d inside)));
}

pub all_counted : (parameters : ℕ) (inputs : List StationInput) → IsLeastPlace inputs (IsMiscountedAt parameters inputs) (length inputs) None → All (HasCounts parameters) inputs
all_counted parameters inputs h k d inside =
    subst (HasCounts parameters) (get_or_default inputs k no_input d inside) (counts_stable parameters (input_at inputs k) (h k inside))

-- no id is repeated
never_repeated : (inputs : List StationInput) → HaveOwnIds inputs → (id : List ℕ) → IsRepeated inputs id → ⊥
never_repeated inputs once id r = once r.second r.inside (r.first, r.apart, r.first_has ∙ sym r.second_has)

none_before_wrong : (parameters : ℕ) (inputs : List StationInput) (wrong : List ℕ) → HaveOwnIds inputs → (fault : StationFault) → rank fault < rank (WrongCount wrong)
    → ¬ (Applies parameters inputs fault)
none_before_wrong parameters inputs wrong once (SameId id) less a = never_repeated inputs once id a.so
none_before_wrong parameters inputs wrong once (WrongCount id) less a = absurd (omega (arith, less))
none_before_wrong parameters inputs wrong once OutOfMemory less a = a

pub wrong_is_least : (parameters : ℕ) (inputs : List StationInput) (place : ℕ) → HaveOwnIds inputs → IsLeastPlace inputs (IsMiscountedAt parameters inputs) (length inputs) (Some place)
    → IsLeast rank (Applies parameters inputs) (WrongCount (id_at inputs place))
wrong_is_least parameters inputs place once h =
    record { applies = least_miscounted parameters inputs place h; none_before = none_before_wrong parameters inputs (id_at inputs place) once }

pub none_applies : (parameters : ℕ) (inputs : List StationInput) → HaveOwnIds inputs → IsLeastPlace inputs (IsMiscountedAt parameters inputs) (length inputs) None
    → (fault : StationFault) → ¬ (Applies parameters inputs fault)
none_applies parameters inputs once h (SameId id) a = never_repeated inputs once id a.so
none_applies parameters inputs once h (WrongCount id) a = none_miscounted parameters inputs h id a.so
none_applies parameters inputs once h OutOfMemory a = a
