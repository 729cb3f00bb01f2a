-- What is noted of some observations, and of one more: of those of one id the first.
use Rattle.std.proofs.Common.{◌≡◌, ◌≢◌, inl, inr, ℕ, zero, suc, ◌<◌, true, false, List, [], ◌∷◌, ◌++◌, length, get_or, Option, Some, None, option_map, refl, sym, ap, ◌∙◌, arith}
use Rattle.std.proofs.lemmas.Bool.{cases_Bool, false≢true}
use Rattle.std.proofs.lemmas.Slice.Eq.{bytes_eq-Decides}
use Rattle.edr_ids.specs.Ids.{AreById, has_id, item_of, with_item}
use Rattle.edr_csv.specs.declared.observations.Observation.{Observation}

module _ {V : Type 0} (key : V → List ℕ) where
  -- the first item of an id among some items and one more
  pub found_before : (id : List ℕ) (xs : List V) (y x : V) → item_of key id xs ≡ Some x → item_of key id (xs ++ y ∷ []) ≡ Some x
  found_before id [] y x h = cc h
  found_before id (z ∷ xs) y x h = elim (cases_Bool (has_id key id z)) [
    | inl has ↦ (let found : Some z ≡ Some x = rw has at h in rw has found)
    | inr lacks ↦ (let rest : item_of key id xs ≡ Some x = rw lacks at h in rw lacks (found_before id xs y x rest))
  ]

  pub not_before : (id : List ℕ) (xs : List V) (y : V) → item_of key id xs ≡ None → item_of key id (xs ++ y ∷ []) ≡ item_of key id (y ∷ [])
  not_before id [] y h = refl
  not_before id (z ∷ xs) y h = elim (cases_Bool (has_id key id z)) [
    | inl has ↦ (let found : Some z ≡ None = rw has at h in absurd (cc found))
    | inr lacks ↦ (let rest : item_of key id xs ≡ None = rw lacks at h in rw lacks (not_before id xs y rest))
  ]

  -- where none of an id is found, none has it
  pub not_among : (id : List ℕ) (xs : List V) (k : ℕ) (d : V) → item_of key id xs ≡ None → k < length xs → key (get_or xs k d) ≢ id
  not_among id [] k d h inside own = omega (arith, inside)
  not_among id (z ∷ xs) zero d h inside own =
      let has : has_id key id z ≡ true = (bytes_eq-Decides (key z) id).1 own in
      let found : Some z ≡ None = rw has at h in
      cc found
  not_among id (z ∷ xs) (suc k) d h inside own = elim (cases_Bool (has_id key id z)) [
    | inl has ↦ (let found : Some z ≡ None = rw has at h in cc found)
    | inr lacks ↦ (let rest : item_of key id xs ≡ None = rw lacks at h in not_among id xs k d rest (omega (arith, inside)) own)
  ]

module _ {S : Type 0} (sid : S → List ℕ) (of : Observation → S) where
  abbrev pub noted_id : Observation → List ℕ
  noted_id o = sid (of o)

  -- these are noted of some observations
  abbrev pub AreNoted : List S → List Observation → Type 0
  AreNoted notes os = (id : List ℕ) → item_of sid id notes ≡ option_map of (item_of noted_id id os)

  pub none_noted : AreNoted [] []
  none_noted id = refl

  module _ (notes : List S) (os : List Observation) (are : AreNoted notes os) where
    -- the first observation of what is noted
    pub first_noted : (id : List ℕ) (note : S) → item_of sid id notes ≡ Some note → (first : Observation) × (item_of noted_id id os ≡ Some first) × (note ≡ of first)
    first_noted id note known = by_case (item_of noted_id id os) refl
      where
        by_case : (found : Option Observation) → item_of noted_id id os ≡ found → (first : Observation) × (item_of noted_id id os ≡ Some first) × (note ≡ of first)
        by_case None e = (let none : Some note ≡ None = sym known ∙ are id ∙ ap (option_map of) e in absurd (cc none))
        by_case (Some first) e = (let same : Some note ≡ Some (of first) = sym known ∙ are id ∙ ap (option_map of) e in (first, e, cc same))

    pub none_before : (id : List ℕ) → item_of sid id notes ≡ None → item_of noted_id id os ≡ None
    none_before id new = by_case (item_of noted_id id os) refl
      where
        by_case : (found : Option Observation) → item_of noted_id id os ≡ found → item_of noted_id id os ≡ None
        by_case None e = e
        by_case (Some first) e = (let none : None ≡ Some (of first) = sym new ∙ are id ∙ ap (option_map of) e in absurd (cc none))

    -- one more, which hasn't the id
    others : (o : Observation) (id : List ℕ) → has_id noted_id id o ≡ false → item_of noted_id id (os ++ o ∷ []) ≡ item_of noted_id id os
    others o id lacks = by_case (item_of noted_id id os) refl
      where
        by_case : (found : Option Observation) → item_of noted_id id os ≡ found → item_of noted_id id (os ++ o ∷ []) ≡ item_of noted_id id os
        by_case (Some first) e = found_before noted_id id os o first e ∙ sym e
        by_case None e = (let last : item_of noted_id id (o ∷ []) ≡ None = rw lacks refl in not_before noted_id id os o e ∙ last ∙ sym e)

    -- one more, whose id is noted
    pub notes_stay : (o : Observation) (note : S) → item_of sid (noted_id o) notes ≡ Some note → AreNoted notes (os ++ o ∷ [])
    notes_stay o note known id = elim (cases_Bool (has_id noted_id id o)) [
      | inl has ↦ (let own : noted_id o ≡ id = (bytes_eq-Decides (noted_id o) id).0 has in
          let first = first_noted id note (ap (λ (k : List ℕ). item_of sid k notes) (sym own) ∙ known) in
          are id ∙ ap (option_map of) (first.1 ∙ sym (found_before noted_id id os o first.0 first.1)))
      | inr lacks ↦ are id ∙ ap (option_map of) (sym (others o id lacks))
    ]

    -- one more, which is noted
    pub notes_on : AreById sid → (o : Observation) → item_of sid (noted_id o) notes ≡ None → AreNoted (with_item sid (of o) notes) (os ++ o ∷ [])
    notes_on laws o new id = elim (cases_Bool (has_id noted_id id o)) [
      | inl has ↦ (let own : noted_id o ≡ id = (bytes_eq-Decides (noted_id o) id).0 has in
          let set : item_of sid id (with_item sid (of o) notes) ≡ Some (of o) = ap (λ (k : List ℕ). item_of sid k (with_item sid (of o) notes)) (sym own) ∙ laws.set (of o) notes in
          let last : item_of noted_id id (o ∷ []) ≡ Some o = rw has refl in
          let none : item_of noted_id id os ≡ None = none_before id (ap (λ (k : List ℕ). item_of sid k notes) (sym own) ∙ new) in
          set ∙ ap (option_map of) (sym (not_before noted_id id os o none ∙ last)))
      | inr lacks ↦ (let differs : noted_id o ≢ id = λ e. false≢true (sym lacks ∙ (bytes_eq-Decides (noted_id o) id).1 e) in
          laws.set_others id (of o) notes differs ∙ are id ∙ ap (option_map of) (sym (others o id lacks)))
    ]
