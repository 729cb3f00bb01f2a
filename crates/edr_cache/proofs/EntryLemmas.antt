-- The entries of a cache are turned as the pairs that they show.
use Rattle.std.proofs.Common.{◌≡◌, ℕ, ◌<◌, ◌≤◌, ◌-◌, Bool, true, false, cond, bytes_eq, List, [], ◌∷◌, length, take, Vec, Global, Option, Some, None, option_map, refl, sym, ap, ◌∙◌, subst}
use Rattle.std.proofs.lemmas.List.{take-map}
use Rattle.std.specs.Map.{lookup, lookup_entry, remove_entry}
use Rattle.std.specs.Option.{option_map_or}
use Rattle.lru.specs.LruCache.{lru_cache, promoted, put_entries}
use Rattle.edr_cache.specs.Limits.{capacity_limit, kept_limit}
use Rattle.edr_cache.specs.Pairs.{held, body_of, to_front, with_body, IsWithin}
use Rattle.edr_cache.specs.Entries.{Entry, pair_of, pairs_of, Cache, held_by, IsKept}
use Rattle.edr_cache.proofs.PairLemmas.{promoted_is, put_is, within_none, within_front, within_body}

-- ---- entries as pairs

module _ (target : List ℕ) where
  abbrev is_key : Vec ℕ Global → Bool
  is_key key = bytes_eq target key.items

  pub looked_up : (entries : List Entry) → lookup is_key entries ≡ body_of target (pairs_of entries)
  looked_up [] = refl
  looked_up (entry ∷ entries) = ap (cond (bytes_eq target entry.0.items) (Some entry.1)) (looked_up entries)

  removed : (entries : List Entry) → pairs_of (remove_entry is_key entries) ≡ remove_entry (bytes_eq target) (pairs_of entries)
  removed [] = refl
  removed (entry ∷ entries) =
      elim (bytes_eq target entry.0.items) as (λ same. pairs_of (cond same entries (entry ∷ remove_entry is_key entries)) ≡ cond same (pairs_of entries) (pair_of entry ∷ remove_entry (bytes_eq target) (pairs_of entries))) [
        | true ↦ refl
        | false ↦ ap (λ list. pair_of entry ∷ list) (removed entries)
      ]

  found : (entries : List Entry) → option_map pair_of (lookup_entry is_key entries) ≡ lookup_entry (bytes_eq target) (pairs_of entries)
  found [] = refl
  found (entry ∷ entries) =
      elim (bytes_eq target entry.0.items) as (λ same. option_map pair_of (cond same (Some entry) (lookup_entry is_key entries)) ≡ cond same (Some (pair_of entry)) (lookup_entry (bytes_eq target) (pairs_of entries))) [
        | true ↦ refl
        | false ↦ found entries
      ]

  fronted : (entries others : List Entry) (one : Option Entry)
      → pairs_of (option_map_or (λ entry. entry ∷ others) one entries) ≡ option_map_or (λ pair. pair ∷ pairs_of others) (option_map pair_of one) (pairs_of entries)
  fronted entries others None = refl
  fronted entries others (Some entry) = refl

  promoted_pairs : (entries : List Entry) → pairs_of (promoted is_key entries) ≡ promoted (bytes_eq target) (pairs_of entries)
  promoted_pairs entries =
      fronted entries (remove_entry is_key entries) (lookup_entry is_key entries)
      ∙ (λ i. option_map_or (λ pair. pair ∷ removed entries i) (found entries i) (pairs_of entries))

module _ (key : Vec ℕ Global) (body : List ℕ) where
  replaced : (others rest : List Entry) (one : Option Entry)
      → pairs_of (option_map_or (λ entry. (entry.0, body) ∷ others) one ((key, body) ∷ rest)) ≡ option_map_or (λ pair. (pair.0, body) ∷ pairs_of others) (option_map pair_of one) ((key.items, body) ∷ pairs_of rest)
  replaced others rest None = refl
  replaced others rest (Some entry) = refl

  put_pairs : (cache : Cache) → pairs_of (put_entries (λ x y. bytes_eq x.items y.items) cache key body) ≡ put_entries bytes_eq (lru_cache (pairs_of cache.entries) cache.cap) key.items body
  put_pairs cache =
      replaced (remove_entry (is_key key.items) cache.entries) (take (cache.cap - 1) cache.entries) (lookup_entry (is_key key.items) cache.entries)
      ∙ (λ i. option_map_or (λ pair. (pair.0, body) ∷ removed key.items cache.entries i) (found key.items cache.entries i) ((key.items, body) ∷ sym (take-map pair_of (cache.cap - 1) cache.entries) i))

-- ---- what a cache holds

pub empty_kept : (capacity : ℕ) → capacity ≤ capacity_limit → 0 < capacity → IsKept (lru_cache [] capacity)
empty_kept capacity low roomy = record { within = within_none capacity low; roomy = roomy }

module _ (cache : Cache) (kept : IsKept cache) where
  pub promoted_held : (target : List ℕ) → held_by (lru_cache (promoted (is_key target) cache.entries) cache.cap) ≡ held (to_front target (pairs_of cache.entries)) cache.cap
  promoted_held target = ap (λ pairs. held pairs cache.cap) (promoted_pairs target cache.entries ∙ promoted_is target (pairs_of cache.entries) kept.within.apart)

  pub promoted_kept : (target : List ℕ) → IsKept (lru_cache (promoted (is_key target) cache.entries) cache.cap)
  promoted_kept target = record {
    within = subst IsWithin (sym (promoted_held target)) (within_front target (pairs_of cache.entries) cache.cap kept.within);
    roomy = kept.roomy;
  }

  pub put_held : (key : Vec ℕ Global) (body : List ℕ)
      → held_by (lru_cache (put_entries (λ x y. bytes_eq x.items y.items) cache key body) cache.cap) ≡ held (with_body cache.cap key.items body (pairs_of cache.entries)) cache.cap
  put_held key body =
      ap (λ pairs. held pairs cache.cap) (put_pairs key body cache ∙ put_is key.items (pairs_of cache.entries) cache.cap body kept.within.apart kept.within.few kept.roomy)

  pub put_kept : (key : Vec ℕ Global) (body : List ℕ) → length body ≤ kept_limit
      → IsKept (lru_cache (put_entries (λ x y. bytes_eq x.items y.items) cache key body) cache.cap)
  put_kept key body short = record {
    within = subst IsWithin (sym (put_held key body)) (within_body key.items (pairs_of cache.entries) cache.cap body short kept.within);
    roomy = kept.roomy;
  }
