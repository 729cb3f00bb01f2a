-- For private clauses: what the calls that look for faults answer.
use Rattle.std.specs.Prelude.{◌≡◌, ℕ, ◌+◌, ◌<◌, ◌≤◌, List, length, Result, Ok, Err}
use Rattle.std.specs.List.{AllByRecursion}
use Rattle.edr_base.specs.FirstThatApplies.{IsFirstPlace}
use Rattle.edr_base.specs.Limits.{position_limit}
use Rattle.edr_wkt.specs.declared.geometry.Geometry.{Geometry}
use Rattle.edr_wkt.specs.declared.faults.WktFault.{WktFault}
use Rattle.edr_wkt.specs.declared.faults.WktFault.TheVariants.{NotWkt, TooManyPositions, OutOfRange, OpenRing, DecreasingM, OutOfMemory}
use Rattle.edr_wkt.specs.Faults.{IsInRange, IsClosed, IsBadAt, FallsAt}
use Rattle.edr_wkt.specs.Geometries.{positions_of, rings_of, line_of}

-- all items are good, and how many there are with those before; or the first bad place, counted with those before
abbrev pub MatchGood : {A : Type 0} → Result ℕ ℕ → (A → Type 0) → List A → ℕ → Type 0
MatchGood (Ok n) Good items before = AllByRecursion Good items × (n ≡ before + length items)
MatchGood (Err n) Good items before = (place : ℕ) × IsFirstPlace (IsBadAt Good items) place × (n ≡ before + place)

-- what the checks find one after the other: those before it were passed, and this fault
abbrev pub IsFound : WktFault → Geometry → Type 0
IsFound NotWkt g = ⊥
IsFound TooManyPositions g = position_limit < length (positions_of g)
IsFound (OutOfRange place) g = (length (positions_of g) ≤ position_limit) × IsFirstPlace (IsBadAt IsInRange (positions_of g)) place
IsFound (OpenRing place) g = (length (positions_of g) ≤ position_limit) × AllByRecursion IsInRange (positions_of g) × IsFirstPlace (IsBadAt IsClosed (rings_of g)) place
IsFound (DecreasingM place) g =
    (length (positions_of g) ≤ position_limit) × AllByRecursion IsInRange (positions_of g) × AllByRecursion IsClosed (rings_of g) × IsFirstPlace (FallsAt (line_of g)) place
IsFound OutOfMemory g = ⊥
