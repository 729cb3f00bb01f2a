-- Places on the axes of a domain: their numbers in the domain's order and in that of a tree.
use Rattle.std.proofs.Common.{◌≡◌, ℕ, ◌+◌, ◌-◌, ◌*◌, ◌/◌, ◌<◌, ◌≤◌, if◌then◌else◌, Bool, true, false, List, length, get_or, drop, ap, subst, arith}
use Rattle.std.proofs.lemmas.List.{drop_more, drop_all}
use Rattle.std.proofs.lemmas.Nat.{mod_below}
use Rattle.covjson_value.specs.declared.domains.Domain.{Domain}
use Rattle.covjson_value.specs.Domains.{count_of}
use Rattle.covjson_value.specs.CountLaws.{count_is}
use Rattle.edr_chunk.specs.RowMajor.{row_major}
use Rattle.edr_chunk.specs.RowMajorLaws.{along, row_major-below, row_major-rises}
use Rattle.covjson_checks.specs.declared.turned.Turned.{Turned}
use Rattle.covjson_ranges.specs.declared.places.Places.{Places}
use Rattle.covjson_value.specs.declared.axis_names.AxisName.{AxisName}
use Rattle.covjson_value.specs.declared.axis_names.AxisName.TheVariants.{T, Z, Y, X, Composite}
use Rattle.covjson_ranges.specs.Ranges.{length_of, place_on, is_range_turned, AreInside, number_of, tree_place, tree_number, AreRangeAxes}
use Rattle.covjson_ranges.specs.Orders.{places_at}
use Rattle.covjson_ranges.proofs.PlaceNumbers.{whole, row_major_same, product_whole, usual_once, usual_below, first_below, back, some_factors, each_axis}

-- the count is the product of the axes' lengths
pub count_whole : (domain : Domain) → count_of domain ≡ whole (length_of domain)
count_whole domain = count_is domain

-- ---- in the domain's order

-- a number is below the count
pub number_inside : (domain : Domain) (places : Places) → AreInside domain places → number_of domain places < count_of domain
number_inside domain places inside = rw (count_whole domain) (usual_below (length_of domain) (place_on places) inside)

-- places of one number have one number in the tree's order too
pub tree_number_once : (domain : Domain) (turned : Turned) (names : List AxisName) (places others : Places) → AreInside domain places → AreInside domain others
    → number_of domain places ≡ number_of domain others → tree_number domain turned names places ≡ tree_number domain turned names others
tree_number_once domain turned names places others inside in_others same =
    let each = usual_once (length_of domain) (place_on places) (place_on others) inside in_others same in
    row_major_same (length_of domain) (tree_place domain turned places) (tree_place domain turned others)
    (λ name. ap (λ p. if is_range_turned turned name then length_of domain name - 1 - p else p) (each name)) names 0

-- ---- in the tree's order

-- a place counted from the end, or from the start, is on the axis
pub mirrored : (b : Bool) (l p : ℕ) → p < l → (if b then l - 1 - p else p) < l
mirrored true l p h = omega arith
mirrored false l p h = h

-- a place in the tree is on its axis
pub tree_place_inside : (domain : Domain) (turned : Turned) (places : Places) → AreInside domain places → (name : AxisName)
    → tree_place domain turned places name < length_of domain name
tree_place_inside domain turned places inside name = mirrored (is_range_turned turned name) (length_of domain name) (place_on places name) (inside name)

-- and a number in the tree below the count
pub tree_number_inside : (domain : Domain) (turned : Turned) (names : List AxisName) (places : Places) → AreRangeAxes domain names
    → AreInside domain places → tree_number domain turned names places < count_of domain
tree_number_inside domain turned names places axes inside =
    let lengths = length_of domain in
    let some : (name : AxisName) → 0 < lengths name = λ name. omega (arith, inside name) in
    let on = along (λ name. tree_place domain turned places name < lengths name) (tree_place_inside domain turned places inside) names in
    let below = row_major-below lengths (tree_place domain turned places) names 0 1 (omega arith) on in
    omega (arith, below, product_whole lengths names some axes.distinct axes.all_long, count_whole domain)

-- one name more
pub row_major_step : (lengths places : AxisName → ℕ) (names : List AxisName) (i number : ℕ) → i < length names
    → row_major lengths places (drop i names) number
    ≡ row_major lengths places (drop (i + 1) names) (number * lengths (get_or names i T) + places (get_or names i T))
row_major_step lengths places names i number h = ap (λ rest. row_major lengths places rest number) (drop_more names i T h)

-- no name more
pub row_major_end : (lengths places : AxisName → ℕ) (names : List AxisName) (i number : ℕ) → length names ≤ i → row_major lengths places (drop i names) number ≡ number
row_major_end lengths places names i number h = ap (λ rest. row_major lengths places rest number) (drop_all i names h)

-- no number on the way is above the last
pub step_inside : (domain : Domain) (turned : Turned) (names : List AxisName) (places : Places) → AreRangeAxes domain names
    → AreInside domain places → (i number len place : ℕ) → i < length names
    → row_major (length_of domain) (tree_place domain turned places) (drop i names) number ≡ tree_number domain turned names places
    → len ≡ length_of domain (get_or names i T) → place ≡ tree_place domain turned places (get_or names i T) → number * len + place < count_of domain
step_inside domain turned names places axes inside i number len place h before is_len is_place =
    let lengths = length_of domain in
    let on = tree_place domain turned places in
    let on_axes = along (λ n. on n < lengths n) (tree_place_inside domain turned places inside) (drop (i + 1) names) in
    let name = get_or names i T in
    let most : number * lengths name + on name < count_of domain =
    omega (
      arith,
      row_major-rises lengths on (drop (i + 1) names) (number * lengths name + on name) on_axes,
      row_major_step lengths on names i number h,
      before,
      tree_number_inside domain turned names places axes inside,
    ) in
    rw (is_len, is_place) most

-- ---- by quotients and remainders

-- no axis is without values where there are any places
pub all_some : (domain : Domain) (number : ℕ) → number < count_of domain
    → (0 < length_of domain T) × (0 < length_of domain Z) × (0 < length_of domain Y) × (0 < length_of domain X) × (0 < length_of domain Composite)
all_some domain number inside =
    some_factors (length_of domain T) (length_of domain Z) (length_of domain Y) (length_of domain X) (length_of domain Composite) number
    (subst (λ (n : ℕ). number < n) (count_whole domain) inside)

-- the places of a number are on their axes
pub places_at_inside : (domain : Domain) (number : ℕ) → number < count_of domain → AreInside domain (places_at domain number)
places_at_inside domain number inside =
    let t = length_of domain T in
    let z = length_of domain Z in
    let y = length_of domain Y in
    let x = length_of domain X in
    let n = length_of domain Composite in
    let some = all_some domain number inside in
    each_axis (λ name. place_on (places_at domain number) name < length_of domain name)
    (first_below t z y x n number some.1 some.2 some.3 some.4 (subst (λ (m : ℕ). number < m) (count_whole domain) inside))
    (mod_below (number / n / x / y) z some.1)
    (mod_below (number / n / x) y some.2)
    (mod_below (number / n) x some.3)
    (mod_below number n some.4)

-- and have that number
pub places_at_number : (domain : Domain) (number : ℕ) → number_of domain (places_at domain number) ≡ number
places_at_number domain number = back (length_of domain T) (length_of domain Z) (length_of domain Y) (length_of domain X) (length_of domain Composite) number
