-- The least id of those that are so, by the places of inputs: for private clauses.
use Rattle.std.specs.Prelude.{◌≡◌, ◌⊎◌, ℕ, ◌<◌, List, length, Option, Some, MatchOption}
use Rattle.std.specs.declared.cmp.Ordering.TheVariants.{Less}
use Rattle.edr_base.specs.Names.{order}
use Rattle.edr_station.specs.declared.inputs.StationInput.{StationInput}
use Rattle.edr_station.specs.Inputs.{HasCounts, input_at, id_at}

-- an input before the place has the id of the one there
abbrev pub IsRepeatAt : List StationInput → ℕ → Type 0
IsRepeatAt inputs place = (first : ℕ) × (first < place) × (id_at inputs first ≡ id_at inputs place)

abbrev pub IsMiscountedAt : ℕ → List StationInput → ℕ → Type 0
IsMiscountedAt parameters inputs place = ¬ (HasCounts parameters (input_at inputs place))

-- the id at one place is below that at another
abbrev pub IsBelow : List StationInput → ℕ → ℕ → Type 0
IsBelow inputs one other = order (id_at inputs one) (id_at inputs other) ≡ Less

-- of the places below an end none that is so has a lower id, or none is so
abbrev pub IsLeastPlace : List StationInput → (ℕ → Type 0) → ℕ → Option ℕ → Type 0
IsLeastPlace inputs IsSo end least =
    MatchOption least ((at : ℕ) → at < end → ¬ (IsSo at)) (λ place. (place < end) × IsSo place × ((at : ℕ) → at < end → IsSo at → ¬ (IsBelow inputs at place)))

-- of a place and perhaps another one, that with the lower id
abbrev pub IsLesser : List StationInput → Option ℕ → ℕ → Option ℕ → Type 0
IsLesser inputs least place result =
    MatchOption least (result ≡ Some place)
    (λ at. ((result ≡ Some place) × IsBelow inputs place at) ⊎ ((result ≡ Some at) × (¬ (IsBelow inputs place at))))

-- no two inputs have one id
abbrev pub HaveOwnIds : List StationInput → Type 0
HaveOwnIds inputs = (place : ℕ) → place < length inputs → ¬ (IsRepeatAt inputs place)
