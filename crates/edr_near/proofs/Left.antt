-- What is left of a cell, one item at a time.
use Rattle.std.proofs.Common.{◌≡◌, Bool, true, false, inl, inr, List, [], ◌∷◌, ◌++◌, Contains, refl, sym, ap, ◌∙◌, subst, arith}
use Rattle.std.specs.Prelude.{◌↔◌}
use Rattle.std.proofs.lemmas.Bool.{false≢true}
use Rattle.std.proofs.lemmas.List.Elements.{Contains-append_left, Contains-push, Contains-push_cases}

-- a list has those of others that pass no test
abbrev pub Has : {V : Type 0} → (V → Bool) → List V → List V → Type 0
Has {V} test others all = (v : V) → Contains others v ↔ (Contains all v × (test v ≡ false))

module _ {V : Type 0} (test : V → Bool) where
  pub none_yet : (others : List V) → others ≡ [] → Has test others []
  none_yet others none v = (
    λ there. absurd (not_in others none v there),
    λ both. absurd (not_in [] refl v both.0),
  )
    where
      not_in : (xs : List V) → xs ≡ [] → (v : V) → Contains xs v → ⊥
      not_in [] h v there = omega (arith, there.1)
      not_in (x ∷ xs) h v there = cc h

  pub keeps : (others all : List V) (item : V) → test item ≡ false → Has test others all → Has test (others ++ item ∷ []) (all ++ item ∷ [])
  keeps others all item passes was v = (
    λ there. elim (Contains-push_cases others item v there) [
      | inl old ↦ (let h = (was v).0 old in (Contains-append_left all (item ∷ []) v h.0, h.1))
      | inr is ↦ (subst (Contains (all ++ item ∷ [])) is (Contains-push all item), subst (λ x. test x ≡ false) is passes)
    ],
    λ both. elim (Contains-push_cases all item v both.0) [
      | inl old ↦ Contains-append_left others (item ∷ []) v ((was v).1 (old, both.1))
      | inr is ↦ subst (Contains (others ++ item ∷ [])) is (Contains-push others item)
    ],
  )

  pub leaves : (others all : List V) (item : V) → test item ≡ true → Has test others all → Has test others (all ++ item ∷ [])
  leaves others all item fails was v = (
    λ there. (let h = (was v).0 there in (Contains-append_left all (item ∷ []) v h.0, h.1)),
    λ both. elim (Contains-push_cases all item v both.0) [
      | inl old ↦ (was v).1 (old, both.1)
      | inr is ↦ absurd (false≢true (sym both.1 ∙ (ap test (sym is) ∙ fails)))
    ],
  )
