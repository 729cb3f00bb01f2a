-- Pairs go by their use.
use Rattle.std.proofs.Common.{◌≡◌, ◌≢◌, ℕ, ◌+◌, ◌<◌, ◌≤◌, true, false, not, bytes_eq, List, [], ◌∷◌, ◌++◌, length, take, Option, Some, None, inl, inr, refl, sym, ap, ◌∙◌, arith, take_all, take_at}
use Rattle.std.proofs.lemmas.Bool.{cases_Bool}
use Rattle.std.proofs.lemmas.Map.{none_passes_from_lookup}
use Rattle.std.proofs.lemmas.Map.Entries.{lookup-filter-keys}
use Rattle.std.proofs.lemmas.Slice.Eq.{bytes_eq-Decides}
use Rattle.std.specs.Option.{option_map_or}
use Rattle.edr_cache.specs.Pairs.{Pair, body_of, without, with_first, to_front, with_body, AreByUse}
use Rattle.edr_cache.specs.PairLaws.{bytes_eq_itself, body_of-to_front}
use Rattle.edr_cache.proofs.PairLemmas.{take_first, without_none, shorter}

module _ (target : List ℕ) where
  -- the body of another target
  is_other : (other key : List ℕ) → other ≢ target → bytes_eq other key ≡ true → not (bytes_eq target key) ≡ true
  is_other other key apart same =
      elim (cases_Bool (bytes_eq target key)) [
        | inl own ↦ absurd (apart ((bytes_eq-Decides other key).0 same ∙ sym ((bytes_eq-Decides target key).0 own)))
        | inr lacks ↦ rw lacks refl
      ]

  other_without : (other : List ℕ) (pairs : List Pair) → other ≢ target → body_of other (without target pairs) ≡ body_of other pairs
  other_without other pairs apart = lookup-filter-keys (bytes_eq other) (λ key. not (bytes_eq target key)) true (λ key same. is_other other key apart same) pairs

  other_first : (other body : List ℕ) (pairs : List Pair) → bytes_eq other target ≡ false → body_of other (with_first target body pairs) ≡ body_of other pairs
  other_first other body pairs apart =
      rw apart (other_without other pairs (λ same. false_is_true (sym apart ∙ (bytes_eq-Decides other target).1 same)))
    where
      false_is_true : false ≡ true → ⊥
      false_is_true e = cc

  other_fronted : (other : List ℕ) (pairs : List Pair) (found : Option (List ℕ)) → bytes_eq other target ≡ false
      → body_of other (option_map_or (λ body. with_first target body pairs) found pairs) ≡ body_of other pairs
  other_fronted other pairs None apart = refl
  other_fronted other pairs (Some body) apart = other_first other body pairs apart

  used : (other : List ℕ) (pairs : List Pair) → body_of other (to_front target pairs) ≡ body_of other pairs
  used other pairs =
      elim (cases_Bool (bytes_eq other target)) [
        | inl same ↦ (let own : other ≡ target = (bytes_eq-Decides other target).0 same in
            ap (λ key. body_of key (to_front target pairs)) own ∙ body_of-to_front target pairs ∙ sym (ap (λ key. body_of key pairs) own))
        | inr apart ↦ other_fronted other pairs (body_of target pairs) apart
      ]

  kept : (capacity : ℕ) (body : List ℕ) (pairs : List Pair) → 0 < capacity → body_of target (with_body capacity target body pairs) ≡ Some body
  kept capacity body pairs some = rw (take_first capacity (target, body) (without target pairs) some, bytes_eq_itself target) refl

  replaced : (capacity : ℕ) (old body : List ℕ) (pairs : List Pair) → body_of target pairs ≡ Some old → length pairs ≤ capacity
      → with_body capacity target body pairs ≡ with_first target body pairs
  replaced capacity old body pairs is few = take_all capacity (with_first target body pairs) (omega (arith, shorter target pairs old is, few))

  all_others : (pairs : List Pair) → body_of target pairs ≡ None → without target pairs ≡ pairs
  all_others pairs none = without_none target pairs (none_passes_from_lookup (bytes_eq target) pairs none)

  added : (capacity : ℕ) (body : List ℕ) (pairs : List Pair) → body_of target pairs ≡ None → length pairs < capacity
      → with_body capacity target body pairs ≡ (target, body) ∷ pairs
  added capacity body pairs none few =
      ap (λ list. take capacity ((target, body) ∷ list)) (all_others pairs none) ∙ take_all capacity ((target, body) ∷ pairs) (omega (arith, few))

  falls_out : (capacity : ℕ) (body : List ℕ) (pairs : List Pair) (last : Pair) → body_of target (pairs ++ last ∷ []) ≡ None → length pairs + 1 ≡ capacity
      → with_body capacity target body (pairs ++ last ∷ []) ≡ (target, body) ∷ pairs
  falls_out capacity body pairs last none full =
      ap (λ list. take capacity ((target, body) ∷ list)) (all_others (pairs ++ last ∷ []) none)
      ∙ take_at ((target, body) ∷ pairs) (last ∷ []) capacity (omega (arith, full))

pub by_use : AreByUse
by_use = record {
  used = used;
  kept = λ capacity target body pairs some. kept target capacity body pairs some;
  replaced = λ capacity target old body pairs is few. replaced target capacity old body pairs is few;
  added = λ capacity target body pairs none few. added target capacity body pairs none few;
  falls_out = λ capacity target body pairs last none full. falls_out target capacity body pairs last none full;
}
