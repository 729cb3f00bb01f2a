-- A search through cells, from the nearest on: for private clauses.
use Rattle.std.specs.Prelude.{◌≡◌, ◌⊎◌, ℕ, ◌+◌, ◌*◌, ◌^◌, ◌<◌, ◌≤◌, nat_lt, nat_le, ◌&&◌, Bool, true, false, if◌then◌else◌, List, [], length, map, Contains, Option, None, Some, MatchOption, IfSome, IsSomeAnd}
use Rattle.std.specs.List.{slice_index_or}
use Rattle.edr_base.specs.declared.places.Spot.{Spot}
use Rattle.edr_near.specs.declared.candidates.Candidate.{Candidate}
use Rattle.edr_near.specs.Cells.{CellValue}
use Rattle.edr_near.specs.Near.{distance_of, Nearest}
use Rattle.edr_near.specs.Cells.{Has, distances, distance_at}
use Rattle.edr_near.specs.Looks.{is_within, times_in}

-- cells are read in the order of their squares' distance and their number
abbrev pub rank : ℕ → ℕ → ℕ
rank distance number = distance * 2 ^ 64 + number

abbrev pub rank_of : Candidate → ℕ
rank_of candidate = rank candidate.distance candidate.place

abbrev pub rank_at : List ℕ → ℕ → ℕ
rank_at distances number = rank (distance_at distances number) number

-- the cell of a rank was read, where all up to the last one were
abbrev pub is_read : Option Candidate → ℕ → Bool
is_read None at = false
is_read (Some last) at = nat_le at (rank_of last)

-- a cell that wasn't read, with its distance
pub record IsUnread (distances : List ℕ) (last : Option Candidate) (next : Candidate) : Type 0 where
  pub inside : next.place < length distances
  pub distance : next.distance ≡ distance_at distances next.place
  pub unread : is_read last (rank_of next) ≡ false

-- of the cells before an end that weren't read the first one, or none where all were
pub record IsFirst (distances : List ℕ) (last : Option Candidate) (end : ℕ) (next : Candidate) : Type 0 where
  pub unread : IsUnread distances last next
  pub first : (number : ℕ) → number < end → is_read last (rank_at distances number) ≡ false → rank_of next ≤ rank_at distances number

abbrev pub FirstUnread : List ℕ → Option Candidate → ℕ → Option Candidate → Type 0
FirstUnread distances last end first =
    MatchOption first ((number : ℕ) → number < end → is_read last (rank_at distances number) ≡ true) (IsFirst distances last end)

-- the items of the cell of a number
abbrev pub items_at : {V : Type 0} → List (CellValue V) → ℕ → List V
items_at {V} cells number = slice_index_or (map (λ (cell : CellValue V). cell.items) cells) number []

-- an item stands in a cell that was read
pub record IsFound {V : Type 0} (cells : List (CellValue V)) (distances : List ℕ) (last : Option Candidate) (item : V) : Type 0 where
  pub number : ℕ
  pub inside : number < length distances
  pub was_read : is_read last (rank_at distances number) ≡ true
  pub stands : Contains (items_at cells number) item

-- how far a search came: the nearest of what was read, no cell was read that is farther, and the numbers of those that were
pub record Searched {V : Type 0} (id_of : V → List ℕ) (spot_of : V → Spot) (spot : Spot) (cells : List (CellValue V)) (distances : List ℕ)
    (last : Option Candidate) (best : Option V) (numbers : List ℕ) : Type 0 where
  pub nearest : Nearest id_of spot_of spot (IsFound cells distances last) best
  pub within : (number : ℕ) → number < length distances → is_read last (rank_at distances number) ≡ true
      → IsSomeAnd best (λ item. distance_at distances number ≤ distance_of id_of spot_of spot item)
  pub each : (number : ℕ) → times_in numbers number ≡ (if nat_lt number (length distances) && is_read last (rank_at distances number) then 1 else 0)

-- the cell to be read next, or none where all that weren't read are farther than the best
abbrev pub NextCell : List ℕ → Option Candidate → Option ℕ → Option Candidate → Type 0
NextCell distances last limit next =
    MatchOption next
    ((number : ℕ) → number < length distances → is_read last (rank_at distances number) ≡ false → IsSomeAnd limit (λ distance. distance < distance_at distances number))
    (λ candidate. IsFirst distances last (length distances) candidate × IfSome limit (λ distance. candidate.distance ≤ distance))

-- of a candidate, if one is given, and another one the first
abbrev pub first_of : Option Candidate → Candidate → Candidate
first_of None other = other
first_of (Some first) other = if nat_le (rank_of first) (rank_of other) then first else other

-- the same, unless the other one was read
abbrev pub unless_read : Option Candidate → Option Candidate → Candidate → Option Candidate
unless_read last found other = if is_read last (rank_of other) then found else Some (first_of found other)

-- a square stands at a column and a row or before them, in ascending order of columns, and of rows in a column
abbrev pub IsFrom : ℕ → ℕ → ℕ → ℕ → Type 0
IsFrom column row column' row' = (column < column') ⊎ ((column ≡ column') × (row ≤ row'))

-- no cell from one number up to another is nearer than a distance
abbrev pub AreNoNearer : List ℕ → ℕ → ℕ → ℕ → Type 0
AreNoNearer distances low high distance = (number : ℕ) → low ≤ number → number < high → distance ≤ distance_at distances number

-- a candidate is read before the cells from one number up to another
abbrev pub AreBehind : List ℕ → ℕ → ℕ → Option Candidate → Type 0
AreBehind distances low high found = IsSomeAnd found (λ candidate. (number : ℕ) → low ≤ number → number < high → rank_of candidate ≤ rank_at distances number)

-- of a candidate, if one is given, and those of the cells from one number up to another that weren't read, the first
pub record IsFirstBetween (distances : List ℕ) (last : Option Candidate) (low high : ℕ) (found result : Option Candidate) : Type 0 where
  pub unread : IfSome result (IsUnread distances last)
  pub given : IfSome found (λ candidate. IsSomeAnd result (λ first. rank_of first ≤ rank_of candidate))
  pub first : (number : ℕ) → low ≤ number → number < high → is_read last (rank_at distances number) ≡ false → IsSomeAnd result (λ first. rank_of first ≤ rank_at distances number)

-- a whole search: the nearest of all items, and which cells were read
pub record IsSearched {V : Type 0} (id_of : V → List ℕ) (spot_of : V → Spot) (spot : Spot) (cells : List (CellValue V)) (best : Option V) (numbers : List ℕ) : Type 0 where
  pub nearest : Nearest id_of spot_of spot (Has cells) best
  pub each : MatchOption best (numbers ≡ [])
      (λ item. (number : ℕ) → times_in numbers number ≡ (if is_within (distances spot cells) (distance_of id_of spot_of spot item) number then 1 else 0))
