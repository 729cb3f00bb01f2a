-- The pairs of a store as a cache turns them, and that they stay within its limits.
use Rattle.std.proofs.Common.{◌≡◌, ℕ, zero, suc, ◌-◌, ◌<◌, ◌≤◌, false, not, bytes_eq, List, [], ◌∷◌, length, take, Option, Some, None, option_map, inl, inr, refl, sym, ap, ◌∙◌, arith, take_all, length-take, le_refl}
use Rattle.std.proofs.lemmas.Bool.{cases_Bool}
use Rattle.std.proofs.lemmas.List.Elements.{All-nil}
use Rattle.std.proofs.lemmas.Map.{NonePasses, none_passes_from_lookup}
use Rattle.std.proofs.lemmas.Map.Entries.{none_past_head}
use Rattle.std.proofs.lemmas.Map.Keys.{IsDistinct-head, IsDistinct-tail, IsDistinct-cons}
use Rattle.std.proofs.lemmas.Map.Made.{IsDistinct-keys_filter}
use Rattle.std.proofs.lemmas.Slice.Eq.{bytes_eq-Decides}
use Rattle.std.specs.Cmp.Lexicographic.{nat_list_eq_equiv}
use Rattle.std.specs.List.{AllByRecursion, IsDistinct}
use Rattle.std.specs.Map.{keys_of, lookup_entry, remove_entry}
use Rattle.std.specs.Option.{option_map_or}
use Rattle.lru.proofs.CallerLemmas.{Contains-lookup_entry}
use Rattle.lru.proofs.Pairs.{lookup-lookup_entry}
use Rattle.lru.specs.LruCache.{lru_cache, promoted, put_entries}
use Rattle.edr_cache.specs.Limits.{capacity_limit, kept_limit}
use Rattle.edr_cache.specs.Pairs.{Pair, held, body_of, without, with_first, to_front, with_body, IsWithin}
use Rattle.edr_cache.specs.PairLaws.{All-to_front, All-with_body}

-- ---- the first of a list

pub take_first : {X : Type 0} (n : ℕ) (x : X) (xs : List X) → 0 < n → take n (x ∷ xs) ≡ x ∷ take (n - 1) xs
take_first zero x xs h = absurd (omega (arith, h))
take_first (suc n) x xs h = let less : suc n - 1 ≡ n = omega arith in rw less refl

-- ---- the pairs but that of a target

module _ (target : List ℕ) where
  pub without_none : (pairs : List Pair) → NonePasses (bytes_eq target) pairs → without target pairs ≡ pairs
  without_none [] none = refl
  without_none (pair ∷ pairs) none = rw none.0 (ap (λ list. pair ∷ list) (without_none pairs none.1))

  without_removed : (pairs : List Pair) → IsDistinct bytes_eq (keys_of pairs) → without target pairs ≡ remove_entry (bytes_eq target) pairs
  without_removed [] apart = refl
  without_removed (pair ∷ pairs) apart =
      elim (cases_Bool (bytes_eq target pair.0)) [
        | inl same ↦ rw same (without_none pairs (none_past_head nat_list_eq_equiv target pair pairs apart same))
        | inr other ↦ rw other (ap (λ list. pair ∷ list) (without_removed pairs (IsDistinct-tail bytes_eq pair.0 (keys_of pairs) apart)))
      ]

  length-without : (pairs : List Pair) → length (without target pairs) ≤ length pairs
  length-without [] = omega arith
  length-without (pair ∷ pairs) =
      elim (cases_Bool (bytes_eq target pair.0)) [
        | inl same ↦ rw same (omega (arith, length-without pairs))
        | inr other ↦ rw other (omega (arith, length-without pairs))
      ]

  -- they are fewer where there is one
  pub shorter : (pairs : List Pair) (body : List ℕ) → body_of target pairs ≡ Some body → length (without target pairs) < length pairs
  shorter [] body is = cc
  shorter (pair ∷ pairs) body is =
      elim (cases_Bool (bytes_eq target pair.0)) [
        | inl same ↦ rw same (omega (arith, length-without pairs))
        | inr other ↦ rw other (omega (arith, shorter pairs body (rw other at is)))
      ]

  none_without : (pairs : List Pair) → AllByRecursion (λ key. bytes_eq target key ≡ false) (keys_of (without target pairs))
  none_without [] = tt
  none_without (pair ∷ pairs) =
      elim (cases_Bool (bytes_eq target pair.0)) [
        | inl same ↦ rw same (none_without pairs)
        | inr other ↦ rw other (other, none_without pairs)
      ]

  -- ---- as a cache turns them

  entry_is : (pairs : List Pair) (pair : Pair) → lookup_entry (bytes_eq target) pairs ≡ Some pair → (pair.0 ≡ target) × (body_of target pairs ≡ Some pair.1)
  entry_is pairs pair is = (
    sym ((bytes_eq-Decides target pair.0).0 (Contains-lookup_entry (bytes_eq target) pairs pair is).1),
    sym (lookup-lookup_entry (bytes_eq target) pairs) ∙ ap (option_map (λ (found : Pair). found.1)) is,
  )

  no_entry : (pairs : List Pair) → lookup_entry (bytes_eq target) pairs ≡ None → body_of target pairs ≡ None
  no_entry pairs is = sym (lookup-lookup_entry (bytes_eq target) pairs) ∙ ap (option_map (λ (found : Pair). found.1)) is

  fronted : (pairs : List Pair) (found : Option Pair) → IsDistinct bytes_eq (keys_of pairs) → lookup_entry (bytes_eq target) pairs ≡ found
      → option_map_or (λ pair. pair ∷ remove_entry (bytes_eq target) pairs) found pairs ≡ to_front target pairs
  fronted pairs None apart is = sym (ap (λ body. option_map_or (λ own. with_first target own pairs) body pairs) (no_entry pairs is))
  fronted pairs (Some pair) apart is =
      let own = entry_is pairs pair is in let others = without_removed pairs apart in
      (λ i. (own.0 i, pair.1) ∷ sym others i) ∙ sym (ap (λ body. option_map_or (λ own. with_first target own pairs) body pairs) own.1)

  pub promoted_is : (pairs : List Pair) → IsDistinct bytes_eq (keys_of pairs) → promoted (bytes_eq target) pairs ≡ to_front target pairs
  promoted_is pairs apart = fronted pairs (lookup_entry (bytes_eq target) pairs) apart refl

  put_found : (pairs : List Pair) (capacity : ℕ) (body : List ℕ) (found : Option Pair) → IsDistinct bytes_eq (keys_of pairs) → length pairs ≤ capacity → 0 < capacity
      → lookup_entry (bytes_eq target) pairs ≡ found
      → option_map_or (λ pair. (pair.0, body) ∷ remove_entry (bytes_eq target) pairs) found ((target, body) ∷ take (capacity - 1) pairs) ≡ with_body capacity target body pairs
  put_found pairs capacity body None apart few roomy is =
      let all : without target pairs ≡ pairs = without_none pairs (none_passes_from_lookup (bytes_eq target) pairs (no_entry pairs is)) in
      sym (ap (λ list. take capacity ((target, body) ∷ list)) all ∙ take_first capacity (target, body) pairs roomy)
  put_found pairs capacity body (Some pair) apart few roomy is =
      let own = entry_is pairs pair is in let others = without_removed pairs apart in let fewer = shorter pairs pair.1 own.1 in
      (λ i. (own.0 i, body) ∷ sym others i) ∙ sym (take_all capacity ((target, body) ∷ without target pairs) (omega (arith, fewer, few)))

  pub put_is : (pairs : List Pair) (capacity : ℕ) (body : List ℕ) → IsDistinct bytes_eq (keys_of pairs) → length pairs ≤ capacity → 0 < capacity
      → put_entries bytes_eq (lru_cache pairs capacity) target body ≡ with_body capacity target body pairs
  put_is pairs capacity body apart few roomy = put_found pairs capacity body (lookup_entry (bytes_eq target) pairs) apart few roomy refl

-- ---- within the limits

module _ (P : List ℕ → Type 0) where
  keys_taken : (n : ℕ) (pairs : List Pair) → AllByRecursion P (keys_of pairs) → AllByRecursion P (keys_of (take n pairs))
  keys_taken zero pairs all = tt
  keys_taken (suc n) [] all = tt
  keys_taken (suc n) (pair ∷ pairs) all = (all.0, keys_taken n pairs all.1)

apart_none : IsDistinct bytes_eq []
unfolding IsDistinct
apart_none = tt

apart_taken : (n : ℕ) (pairs : List Pair) → IsDistinct bytes_eq (keys_of pairs) → IsDistinct bytes_eq (keys_of (take n pairs))
apart_taken zero pairs apart = apart_none
apart_taken (suc n) [] apart = apart_none
apart_taken (suc n) (pair ∷ pairs) apart =
    IsDistinct-cons bytes_eq pair.0 (keys_of (take n pairs))
    (keys_taken (λ key. bytes_eq pair.0 key ≡ false) n pairs (IsDistinct-head bytes_eq pair.0 (keys_of pairs) apart))
    (apart_taken n pairs (IsDistinct-tail bytes_eq pair.0 (keys_of pairs) apart))

pub within_none : (capacity : ℕ) → capacity ≤ capacity_limit → IsWithin (held [] capacity)
within_none capacity low = record { few = omega arith; at_most = low; short = All-nil (λ (pair : Pair). length pair.1 ≤ kept_limit); apart = apart_none }

module _ (target : List ℕ) where
  apart_first : (body : List ℕ) (pairs : List Pair) → IsDistinct bytes_eq (keys_of pairs) → IsDistinct bytes_eq (keys_of (with_first target body pairs))
  apart_first body pairs apart =
      IsDistinct-cons bytes_eq target (keys_of (without target pairs)) (none_without target pairs)
      (IsDistinct-keys_filter bytes_eq (λ pair. not (bytes_eq target pair.0)) pairs apart)

  length_fronted : (pairs : List Pair) (found : Option (List ℕ)) → body_of target pairs ≡ found
      → length (option_map_or (λ body. with_first target body pairs) found pairs) ≤ length pairs
  length_fronted pairs None is = le_refl (length pairs)
  length_fronted pairs (Some body) is = omega (arith, shorter target pairs body is)

  apart_fronted : (pairs : List Pair) (found : Option (List ℕ)) → IsDistinct bytes_eq (keys_of pairs)
      → IsDistinct bytes_eq (keys_of (option_map_or (λ body. with_first target body pairs) found pairs))
  apart_fronted pairs None apart = apart
  apart_fronted pairs (Some body) apart = apart_first body pairs apart

  pub within_front : (pairs : List Pair) (capacity : ℕ) → IsWithin (held pairs capacity) → IsWithin (held (to_front target pairs) capacity)
  within_front pairs capacity within = record {
    few = omega (arith, length_fronted pairs (body_of target pairs) refl, within.few);
    at_most = within.at_most;
    short = All-to_front (λ pair. length pair.1 ≤ kept_limit) target pairs within.short;
    apart = apart_fronted pairs (body_of target pairs) within.apart;
  }

  pub within_body : (pairs : List Pair) (capacity : ℕ) (body : List ℕ) → length body ≤ kept_limit → IsWithin (held pairs capacity)
      → IsWithin (held (with_body capacity target body pairs) capacity)
  within_body pairs capacity body short within = record {
    few = omega (arith, length-take capacity (with_first target body pairs));
    at_most = within.at_most;
    short = All-with_body (λ pair. length pair.1 ≤ kept_limit) target capacity body pairs short within.short;
    apart = apart_taken capacity (with_first target body pairs) (apart_first body pairs within.apart);
  }
