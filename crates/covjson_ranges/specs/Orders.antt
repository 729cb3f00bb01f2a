-- The values of a range in the order of the domain's axes.
use Rattle.std.specs.Prelude.{◌≡◌, ◌⊎◌, ℕ, zero, suc, ◌+◌, ◌-◌, ◌*◌, ◌/◌, ◌<◌, ◌≤◌, ℤ, true, false, if◌then◌else◌, List, [], ◌∷◌, ◌++◌, map, Option, None}
use Rattle.std.specs.List.{slice_index_or}
use Rattle.covjson_value.specs.declared.domains.Domain.{Domain}
use Rattle.covjson_value.specs.Domains.{count_of}
use Rattle.covjson_checks.specs.declared.turned.Turned.{Turned}
use Rattle.covjson_ranges.specs.declared.orders.Row.{Row}
use Rattle.covjson_ranges.specs.declared.places.Places.{Places}
use Rattle.covjson_value.specs.declared.axis_names.AxisName.{AxisName}
use Rattle.covjson_value.specs.declared.axis_names.AxisName.TheVariants.{T, Z, Y, X, Composite}
use Rattle.covjson_ranges.specs.Ranges.{length_of, is_range_turned, tree_number}
use Rattle.edr_chunk.specs.RowMajor.{place_in_row, row_of_number, place_of_number}

-- the numbers below a bound, ascending
abbrev pub below : ℕ → List ℕ
below zero = []
below (suc n) = below n ++ n ∷ []

-- the places whose value has that number in row-major order
abbrev pub places_at : Domain → ℕ → Places
places_at domain number =
    let node = row_of_number (length_of domain Composite) number in
    let row = row_of_number (length_of domain X) node in
    let plane = row_of_number (length_of domain Y) row in
    record {
      tuple = place_of_number (length_of domain Composite) number;
      x = place_of_number (length_of domain X) node;
      y = place_of_number (length_of domain Y) row;
      z = place_of_number (length_of domain Z) plane;
      t = row_of_number (length_of domain Z) plane;
    }

-- the value that a tree has at some places of the domain
abbrev pub value_in_tree : Domain → Turned → List AxisName → List (Option ℤ) → Places → Option ℤ
value_in_tree domain turned names values places = slice_index_or values (tree_number domain turned names places) None

-- the values of a tree at the places of the domain in turn
abbrev pub ordered : Domain → Turned → List AxisName → List (Option ℤ) → List (Option ℤ)
ordered domain turned names values = map (λ number. value_in_tree domain turned names values (places_at domain number)) (below (count_of domain))

-- ---- for private clauses

-- the domain's own order, with or without axes of one value
abbrev pub IsUsual : List AxisName → Type 0
IsUsual names =
    (names ≡ T ∷ Z ∷ Y ∷ X ∷ []) ⊎ ((names ≡ T ∷ Y ∷ X ∷ []) ⊎ ((names ≡ Z ∷ Y ∷ X ∷ []) ⊎ ((names ≡ Y ∷ X ∷ [])
    ⊎ ((names ≡ T ∷ []) ⊎ ((names ≡ Z ∷ []) ⊎ ((names ≡ Composite ∷ []) ⊎ (names ≡ [])))))))

abbrev pub IsUnturned : Turned → Type 0
IsUnturned turned = (name : AxisName) → is_range_turned turned name ≡ false

-- the number in a tree of the value at a place in a row, by that of the row's first
abbrev pub in_row : Row → ℕ → ℕ → ℕ
in_row row first place = if row.turned then first - place * row.step else first + place * row.step

-- a row goes back no further than 0, and nowhere as far as the count
pub record StaysInside (row : Row) (first count : ℕ) : Type 0 where
  pub back : (place : ℕ) → place < row.length → row.turned ≡ true → place * row.step ≤ first
  pub inside : (place : ℕ) → place < row.length → in_row row first place < count

-- the places of a domain in rows of one length, in each of which the values of a tree are a step from each other
pub record AreRows (domain : Domain) (turned : Turned) (names : List AxisName) (row : Row) : Type 0 where
  pub some : 0 < row.length
  pub whole : count_of domain / row.length * row.length ≡ count_of domain
  pub back : (number place : ℕ) → place < row.length → row.turned ≡ true
      → place * row.step ≤ tree_number domain turned names (places_at domain (number * row.length))
  pub steps : (number place : ℕ) → place < row.length
      → tree_number domain turned names (places_at domain (place_in_row number row.length place))
      ≡ in_row row (tree_number domain turned names (places_at domain (number * row.length))) place
