-- Where an id stands among ascending ids; for private clauses.
use Rattle.std.specs.Prelude.{◌≡◌, ℕ, ◌<◌, ◌≤◌, true, List, length, Result, Ok, Err}
use Rattle.std.specs.List.{slice_index_or}
use Rattle.edr_ids.specs.Ids.{is_below, is_above}

-- the place of the item of an id, or the place where it would stand
abbrev pub IsPlaceOfId : {V : Type 0} → (V → List ℕ) → List ℕ → List V → Result ℕ ℕ → Type 0
IsPlaceOfId {V} id_of id items (Ok place) = (place < length items) × ((d : V) → id_of (slice_index_or items place d) ≡ id)
IsPlaceOfId {V} id_of id items (Err place) = (place ≤ length items)
    × (((at : ℕ) (d : V) → at < place → is_below id_of id (slice_index_or items at d) ≡ true)
    × ((at : ℕ) (d : V) → place ≤ at → at < length items → is_above id_of id (slice_index_or items at d) ≡ true))
