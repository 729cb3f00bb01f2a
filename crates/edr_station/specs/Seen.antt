-- The ids that were seen: for private clauses.
use Rattle.std.specs.Prelude.{◌≡◌, ◌↔◌, ℕ, ◌<◌, bytes_eq, List, map, IsTrue}
use Rattle.std.specs.Borrow.{Bor}
use Rattle.std.specs.List.{list_any}
use Rattle.std.specs.BTreeSet.{BTreeSet}
use Rattle.edr_station.specs.declared.inputs.StationInput.{StationInput}
use Rattle.edr_station.specs.Inputs.{id_at}

-- an input before the place has the id
abbrev pub IsBefore : List StationInput → ℕ → List ℕ → Type 0
IsBefore inputs place id = (first : ℕ) × (first < place) × (id_at inputs first ≡ id)

-- the set has the ids of the inputs before a place, and no others
abbrev pub AreSeen : BTreeSet (Bor (List ℕ)) → List StationInput → ℕ → Type 0
AreSeen seen inputs place =
    (id : List ℕ) → IsTrue (list_any (bytes_eq id) (map (λ (key : Bor (List ℕ)). key.now) seen.keys)) ↔ IsBefore inputs place id
