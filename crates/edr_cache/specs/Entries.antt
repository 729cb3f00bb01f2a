-- For private clauses: how the entries of the cache that holds them show as pairs.
use Rattle.std.specs.Prelude.{ℕ, ◌<◌, List, [], map, Vec, None, Some}
use Rattle.std.specs.declared.alloc.Global.{Global}
use Rattle.std.specs.declared.option.Option.{Option}
use Rattle.lru.specs.LruCache.{LruCache}
use Rattle.edr_cache.specs.Pairs.{Pair, Held, held, IsWithin}

-- a key of the cache, and what it has there
abbrev pub Entry : Type 0
Entry = Vec ℕ Global × List ℕ

abbrev pub pair_of : Entry → Pair
pair_of entry = (entry.0.items, entry.1)

abbrev pub pairs_of : List Entry → List Pair
pairs_of entries = map pair_of entries

abbrev pub Cache : Type 0
Cache = LruCache (Vec ℕ Global) (List ℕ)

-- what a cache holds
abbrev pub held_by : Cache → Held
held_by cache = held (pairs_of cache.entries) cache.cap

-- what a store holds by its cache, where it has one
abbrev pub shown : Option Cache → Held
shown None = held [] 0
shown (Some cache) = held_by cache

-- what holds of the cache of a store
pub record IsKept (cache : Cache) : Type 0 where
  pub within : IsWithin (held_by cache)
  pub roomy : 0 < cache.cap
