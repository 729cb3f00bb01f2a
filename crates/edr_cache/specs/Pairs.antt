-- The pairs of targets and bodies that a store keeps, the most recently used first.
use Rattle.std.specs.Prelude.{◌≡◌, ℕ, ◌+◌, ◌<◌, ◌≤◌, not, bytes_eq, List, [], ◌∷◌, ◌++◌, length, take, filter, All, None, Some}
use Rattle.std.specs.declared.option.Option.{Option}
use Rattle.std.specs.List.{IsDistinct}
use Rattle.std.specs.Map.{keys_of, lookup}
use Rattle.std.specs.Option.{option_map_or}
use Rattle.edr_cache.specs.Limits.{capacity_limit, kept_limit}

-- a target and the body that is kept for it, byte by byte
abbrev pub Pair : Type 0
Pair = List ℕ × List ℕ

-- a store: its pairs, the most recently used first, and how many there may be
pub record Held : Type 0 where
  pub pairs : List Pair
  pub capacity : ℕ

abbrev pub held : List Pair → ℕ → Held
held pairs capacity = record { pairs = pairs; capacity = capacity }

-- the body that is kept for a target, where there is one
abbrev pub body_of : List ℕ → List Pair → Option (List ℕ)
body_of target pairs = lookup (bytes_eq target) pairs

-- the pairs but that of a target
abbrev pub without : List ℕ → List Pair → List Pair
without target pairs = filter (λ pair. not (bytes_eq target pair.0)) pairs

-- a target with a body, and behind it the pairs of all others
abbrev pub with_first : List ℕ → List ℕ → List Pair → List Pair
with_first target body pairs = (target, body) ∷ without target pairs

-- the pairs once a target was asked for: its pair, where there is one, stands first
abbrev pub to_front : List ℕ → List Pair → List Pair
to_front target pairs = option_map_or (λ body. with_first target body pairs) (body_of target pairs) pairs

-- the pairs once a body was put for a target: it stands first, and what is then beyond the capacity falls out at the end
abbrev pub with_body : ℕ → List ℕ → List ℕ → List Pair → List Pair
with_body capacity target body pairs = take capacity (with_first target body pairs)

-- what holds of every store, and so of the memory that it takes
pub record IsWithin (store : Held) : Type 0 where
  pub few : length store.pairs ≤ store.capacity
  pub at_most : store.capacity ≤ capacity_limit
  pub short : All (λ (pair : Pair). length pair.1 ≤ kept_limit) store.pairs
  pub apart : IsDistinct bytes_eq (keys_of store.pairs)

-- pairs are told by their targets: a use changes their order alone, and of a full store the least recently used falls out
pub record AreByUse : Type 0 where
  pub used : (target other : List ℕ) (pairs : List Pair) → body_of other (to_front target pairs) ≡ body_of other pairs
  pub kept : (capacity : ℕ) (target body : List ℕ) (pairs : List Pair) → 0 < capacity → body_of target (with_body capacity target body pairs) ≡ Some body
  pub replaced : (capacity : ℕ) (target old body : List ℕ) (pairs : List Pair) → body_of target pairs ≡ Some old → length pairs ≤ capacity
      → with_body capacity target body pairs ≡ with_first target body pairs
  pub added : (capacity : ℕ) (target body : List ℕ) (pairs : List Pair) → body_of target pairs ≡ None → length pairs < capacity
      → with_body capacity target body pairs ≡ (target, body) ∷ pairs
  pub falls_out : (capacity : ℕ) (target body : List ℕ) (pairs : List Pair) (last : Pair) → body_of target (pairs ++ last ∷ []) ≡ None → length pairs + 1 ≡ capacity
      → with_body capacity target body (pairs ++ last ∷ []) ≡ (target, body) ∷ pairs
