-- Lists of shared stations, one more at a time.
use Rattle.std.proofs.Common.{◌≡◌, ℕ, suc, ◌+◌, ◌<◌, ◌≤◌, ◌++◌, ◌∷◌, List, [], length, take, drop, get_or, sym, ap, ◌∙◌, arith, subst}
use Rattle.std.specs.Arc.{arc_value}
use Rattle.std.specs.declared.sync.Arc.{Arc}
use Rattle.std.specs.declared.alloc.Global.{Global}
use Rattle.std.proofs.Math.Seq.{take-suc}
use Rattle.std.proofs.lemmas.List.{get_or-map, length-map, map-append, take-map, drop-map}
use Rattle.std.proofs.lemmas.List.Sums.{sum_by_more, sum_by-take-le}
use Rattle.edr_station.specs.Stations.{StationValue}
use Rattle.edr_station.specs.Blocks.{blocks_of}
use Rattle.edr_station.specs.Shelves.{stations_of, blocks_in}

abbrev pub Shared : Type 0
Shared = Arc StationValue Global

-- the item at a place among shared ones
pub shared_at : (shared : List Shared) (i : ℕ) (s : Shared) → i < length shared → s ≡ get_or shared i s → get_or (stations_of shared) i (arc_value s) ≡ arc_value s
shared_at shared i s inside is =
    get_or-map (λ (x : Shared). arc_value x) shared i s (arc_value s) inside ∙ ap (λ (x : Shared). arc_value x) (sym is)

pub shared_inside : (shared : List Shared) (i : ℕ) → i < length shared → i < length (stations_of shared)
shared_inside shared i inside = omega (arith, length-map shared (λ (x : Shared). arc_value x))

-- one more is taken
pub taken_more : (shared : List Shared) (i : ℕ) (s : Shared) → i < length shared → s ≡ get_or shared i s
    → take (i + 1) (stations_of shared) ≡ take i (stations_of shared) ++ arc_value s ∷ []
taken_more shared i s inside is =
    let next : i + 1 ≡ suc i = omega arith in
    ap (λ n. take n (stations_of shared)) next
    ∙ (take-suc (stations_of shared) i (arc_value s) (shared_inside shared i inside)
    ∙ ap (λ (x : StationValue). take i (stations_of shared) ++ x ∷ []) (shared_at shared i s inside is))

pub blocks_more : (shared : List Shared) (i : ℕ) (s : Shared) → i < length shared → s ≡ get_or shared i s
    → blocks_in (take (i + 1) (stations_of shared)) ≡ blocks_in (take i (stations_of shared)) + blocks_of (arc_value s)
blocks_more shared i s inside is =
    sum_by_more blocks_of (stations_of shared) i (arc_value s) (shared_inside shared i inside)
    ∙ ap (λ (x : StationValue). blocks_in (take i (stations_of shared)) + blocks_of x) (shared_at shared i s inside is)

-- no more blocks stand before a place than there are
pub blocks_before-le : (stations : List StationValue) (place : ℕ) → blocks_in (take place stations) ≤ blocks_in stations
blocks_before-le stations place = sum_by-take-le blocks_of stations place

-- a station of a page is that at its place in what the page shows
pub at_page : (stations : List StationValue) (shared : List Shared) (i : ℕ) (s : Shared) (station : StationValue) → stations_of shared ≡ stations
    → i < length shared → s ≡ get_or shared i s → station ≡ arc_value s → (i < length stations) × (get_or stations i station ≡ station)
at_page stations shared i s station view inside is same =
    let here : get_or (stations_of shared) i (arc_value s) ≡ arc_value s = shared_at shared i s inside is in
    let long : i < length (stations_of shared) = shared_inside shared i inside in (
      subst (λ (l : List StationValue). i < length l) view long,
      subst (λ (l : List StationValue). get_or l i station ≡ station) view (subst (λ (x : StationValue). get_or (stations_of shared) i x ≡ x) (sym same) here),
    )

-- one more shared
pub pushed : (shared : List Shared) (s : Shared) → stations_of (shared ++ s ∷ []) ≡ stations_of shared ++ arc_value s ∷ []
pushed shared s = map-append (λ (x : Shared). arc_value x) shared (s ∷ [])

-- parts of a page
pub part_before : (shared : List Shared) (place : ℕ) → stations_of (take place shared) ≡ take place (stations_of shared)
part_before shared place = sym (take-map (λ (x : Shared). arc_value x) place shared)

pub part_behind : (shared : List Shared) (place : ℕ) → stations_of (drop place shared) ≡ drop place (stations_of shared)
part_behind shared place = sym (drop-map (λ (x : Shared). arc_value x) place shared)

pub shared_long : (shared : List Shared) → length (stations_of shared) ≡ length shared
shared_long shared = length-map shared (λ (x : Shared). arc_value x)
