-- The numbers of the blocks of a reply over stations rise station by station, parameter by parameter and block by block; and what
-- the block of a cell has.
use Rattle.std.proofs.Common.{◌≡◌, ℕ, ◌+◌, ◌*◌, ◌/◌, ◌%◌, ◌<◌, ◌≤◌, List, length, take, drop, get_or, All, Contains, ℤ, Option, None, Some, ap, sym, ◌∙◌, subst, arith, inl, inr, length-take, length-drop, get_or-take, get_or-drop}
use Rattle.std.specs.Prelude.{map, sum_by}
use Rattle.std.specs.List.{flat_map}
use Rattle.std.proofs.Math.Nat.{mul-le-mul_right}
use Rattle.std.proofs.lemmas.Bool.{cases_lt}
use Rattle.std.proofs.lemmas.Nat.{div_below, mod_below, div-add-mod'}
use Rattle.std.proofs.lemmas.List.{take-take, length-map, get_or-map, get_or_default}
use Rattle.std.proofs.lemmas.List.Elements.{All-map, All-weaker, All-get_or}
use Rattle.std.proofs.lemmas.List.Sums.{sum_by_more_le}
use Rattle.edr_station.specs.Stations.{StationValue, StationsValue, values_along, nowhere}
use Rattle.edr_axes.specs.Axes.{axis_length}
use Rattle.edr_station.specs.Blocks.{blocks_of, StationPlace, place_at, Within, place_in_series, series_at, block_of, IsBlock}
use Rattle.edr_edition.specs.Stores.{Held, of_grid, of_stations, HasBlock, IsBlockOf}
use Rattle.edr_select.specs.Listings.{NumbersRise}
use Rattle.edr_select.specs.ListLaws.{all_member}
use Rattle.edr_select.specs.Series.{StationSeriesValue, series_value, block_at, cells_taken, blocks_of_range, blocks_of_coverage, place_of, IsOfStation}
use Rattle.edr_send.specs.SeriesTexts.{collection_of, blocks_in, station_of}
use Rattle.edr_send.proofs.BandLaws.{row_above}
use Rattle.edr_send.proofs.FrameTiles.{before_place, from_place, no_place, taken_place}
use Rattle.edr_send.proofs.Parted.{all_flat_map, Parted}

-- ---- blocks of what is held

pub has_block : (held : Held) (number : ℕ) → number < blocks_in (collection_of held) → HasBlock held number
has_block (of_grid instance) number l = absurd (omega (arith, l))
has_block (of_stations parameters stations) number l = l

pub is_block : (held : Held) (number : ℕ) (values : List (Option ℤ)) → IsBlockOf held number values → IsBlock (collection_of held) number values
is_block (of_grid instance) number values is = absurd is
is_block (of_stations parameters stations) number values is = is

-- ---- where the blocks of parameters and stations begin

-- the number of the first block of a parameter; that behind the last parameter's is the first behind the station's
abbrev pub range_first : StationSeriesValue → ℕ → ℕ
range_first series parameter = series.first + parameter * series.blocks

block_from : (series : StationSeriesValue) (p cell : ℕ) → range_first series p ≤ block_at series p cell
block_from series p cell = omega arith

block_below : (series : StationSeriesValue) (p q cell : ℕ) → p < q → cell / 256 < series.blocks → block_at series p cell < range_first series q
block_below series p q cell l inside = let up = row_above p q (cell / 256) series.blocks l inside in omega (arith, up)

first_up : (series : StationSeriesValue) (p q : ℕ) → p ≤ q → range_first series p ≤ range_first series q
first_up series p q l = let up : p * series.blocks ≤ q * series.blocks = mul-le-mul_right series.blocks l in omega (arith, up)

more_below : {X : Type 0} (f : X → ℕ) (xs : List X) (i j : ℕ) (d : X) → i < j → j ≤ length xs → sum_by f (take i xs) + f (get_or xs i d) ≤ sum_by f (take j xs)
more_below f xs i j d l m =
    let here = sum_by_more_le f (take j xs) i d (omega (arith, length-take j xs)) in
    let first = ap (sum_by f) (take-take i j xs (omega arith)) in
    let one = ap f (get_or-take j xs i d l) in
    omega (arith, here, first, one)

module _ (collection : StationsValue) where
  abbrev has : ℕ → StationValue → ℕ
  has parameters s = parameters * blocks_of s

  end_is : (series : StationSeriesValue) → IsOfStation collection series
      → range_first series collection.parameters ≡ sum_by (has collection.parameters) (take series.station collection.stations) + has collection.parameters (get_or collection.stations series.station nowhere)
  end_is series of = let blocks = ap (λ (n : ℕ). collection.parameters * n) of.blocks in omega (arith, of.first, blocks)

  -- the blocks of a station stand among all
  pub end_inside : (series : StationSeriesValue) → IsOfStation collection series → range_first series collection.parameters ≤ blocks_in collection
  end_inside series of = omega (arith, end_is series of, sum_by_more_le (has collection.parameters) collection.stations series.station nowhere of.station)

  -- and below those of later stations
  pub end_before : (series other : StationSeriesValue) → IsOfStation collection series → IsOfStation collection other → series.station < other.station → range_first series collection.parameters ≤ other.first
  end_before series other of is l =
      let there = is.station in omega (arith, end_is series of, is.first, more_below (has collection.parameters) collection.stations series.station other.station nowhere l (omega (arith, there)))

  module _ (series : StationSeriesValue) (of : IsOfStation collection series) where
    cell_inside : (cell : ℕ) → cell < values_along (station_of collection series) → cell / 256 < series.blocks
    cell_inside cell l = let blocks = of.blocks in omega (arith, blocks, l)

    pub block_inside : (p cell : ℕ) → p < collection.parameters → cell < values_along (station_of collection series) → block_at series p cell < blocks_in collection
    block_inside p cell l m = omega (arith, block_below series p collection.parameters cell l (cell_inside cell m), end_inside series of)

    range_below : (p q : ℕ) → p < q → All (λ k. k < range_first series q) (blocks_of_range series p)
    range_below p q l =
        All-map (λ k. k < range_first series q) (block_at series p) (cells_taken series.cells)
        (All-weaker (λ cell. cell < values_along (station_of collection series)) (λ cell. block_at series p cell < range_first series q) (λ cell m. block_below series p q cell l (cell_inside cell m)) (cells_taken series.cells) of.cells)

    range_from : (p q : ℕ) → q ≤ p → All (λ k. range_first series q ≤ k) (blocks_of_range series p)
    range_from p q l =
        All-map (λ k. range_first series q ≤ k) (block_at series p) (cells_taken series.cells)
        (All-weaker (λ cell. cell < values_along (station_of collection series)) (λ cell. range_first series q ≤ block_at series p cell)
        (λ cell m. omega (arith, first_up series q p l, block_from series p cell)) (cells_taken series.cells) of.cells)

    -- ---- parameters

    pub parameters_parted : (ps : List ℕ) (k : ℕ) → NumbersRise ps → All (λ p. p < collection.parameters) ps
        → Parted (blocks_in collection) (flat_map (blocks_of_range series) (take k ps)) (flat_map (blocks_of_range series) (drop k ps))
    parameters_parted ps k rise asked = elim (cases_lt k (length ps)) [
      | inl l ↦
          let here = All-get_or (λ p. p < collection.parameters) ps k 0 l asked in
          by_parameter (get_or ps k 0) (omega (arith, here)) (λ p c. before_place ps k p rise l c) (λ p c. from_place ps k p rise c)
      | inr past ↦ by_parameter collection.parameters (omega arith) (λ p c. all_member (λ p. p < collection.parameters) ps p asked (taken_place ps k p c)) (λ p c. absurd (no_place ps k p past c))
    ]
      where
        by_parameter : (q : ℕ) → q ≤ collection.parameters → ((p : ℕ) → Contains (take k ps) p → p < q) → ((p : ℕ) → Contains (drop k ps) p → q ≤ p)
            → Parted (blocks_in collection) (flat_map (blocks_of_range series) (take k ps)) (flat_map (blocks_of_range series) (drop k ps))
        by_parameter q l under from = record {
          bound = range_first series q;
          inside = omega (arith, first_up series q collection.parameters l, end_inside series of);
          below = all_flat_map (λ k. k < range_first series q) (blocks_of_range series) (take k ps) (λ p c. range_below p q (under p c));
          from = all_flat_map (λ k. range_first series q ≤ k) (blocks_of_range series) (drop k ps) (λ p c. range_from p q (from p c));
        }

    -- the blocks of a coverage are its station's
    coverage_below : (ps : List ℕ) → All (λ p. p < collection.parameters) ps → (bound : ℕ) → range_first series collection.parameters ≤ bound → All (λ k. k < bound) (blocks_of_coverage ps series)
    coverage_below ps asked bound l =
        All-weaker (λ k. k < range_first series collection.parameters) (λ k. k < bound) (λ k m. omega (arith, l, m)) (blocks_of_coverage ps series)
        (all_flat_map (λ k. k < range_first series collection.parameters) (blocks_of_range series) ps (λ p c. range_below p collection.parameters (all_member (λ p. p < collection.parameters) ps p asked c)))

    coverage_from : (ps : List ℕ) (bound : ℕ) → bound ≤ series.first → All (λ k. bound ≤ k) (blocks_of_coverage ps series)
    coverage_from ps bound l =
        All-weaker (λ k. range_first series 0 ≤ k) (λ k. bound ≤ k) (λ k m. omega (arith, l, m)) (blocks_of_coverage ps series)
        (all_flat_map (λ k. range_first series 0 ≤ k) (blocks_of_range series) ps (λ p c. range_from p 0 (omega arith)))

    -- ---- what the block of a cell has

    module _ (p cell : ℕ) (inside : p < collection.parameters) (low : cell < values_along (station_of collection series)) where
      abbrev levels : ℕ
      levels = axis_length (station_of collection series).zs

      some_levels : 0 < levels
      some_levels = elim (cases_lt 0 levels) [
        | inl some ↦ some
        | inr none ↦
            let flat : length (station_of collection series).ts * levels ≡ length (station_of collection series).ts * 0 = ap (λ (n : ℕ). length (station_of collection series).ts * n) (nothing levels none) in
            absurd (omega (arith, low, flat))
      ]
        where
          nothing : (n : ℕ) → n ≤ 0 → n ≡ 0
          nothing n l = omega arith

      -- its time and level
      abbrev there : StationPlace
      there = place_at series.station p (cell / levels) (cell % levels)

      cell_is : place_in_series (station_of collection series) (cell / levels) (cell % levels) ≡ cell
      cell_is = div-add-mod' cell levels

      within : Within collection there
      within = record {
        station = of.station;
        parameter = inside;
        time = div_below cell levels (length (station_of collection series).ts) some_levels low;
        level = mod_below cell levels some_levels;
      }

      module _ (values : List (Option ℤ)) (number : ℕ) (is : IsBlock collection number values) (here : block_at series p cell ≡ number) where
        numbered : block_of collection there ≡ number
        numbered =
            let blocks = ap (λ (n : ℕ). p * n) of.blocks in
            let first = of.first in
            let part = ap (λ (n : ℕ). n / 256) cell_is in
            omega (arith, first, blocks, part, here)

        pub value_inside : cell % 256 < length values
        value_inside = subst (λ (n : ℕ). n % 256 < length values) cell_is (is.lies there within numbered)

        pub value_is : get_or values (cell % 256) None ≡ series_value (station_of collection series) p (Some cell)
        value_is =
            ap (λ (n : ℕ). get_or values (n % 256) None) (sym cell_is) ∙ is.same there within numbered ∙ ap (λ (n : ℕ). get_or (series_at (station_of collection series) p) n None) cell_is

-- ---- stations

module _ (collection : StationsValue) (ps : List ℕ) (asked : All (λ p. p < collection.parameters) ps) (all : List StationSeriesValue) (each : All (IsOfStation collection) all)
    (rise : NumbersRise (map place_of all)) where
  up : (i j : ℕ) (x y : StationSeriesValue) → i < j → j < length all → get_or all i x ≡ x → get_or all j y ≡ y → x.station < y.station
  up i j x y l m e f =
      let here = rise i j 0 l (omega (arith, m, length-map all place_of)) in
      let one = get_or-map place_of all i x 0 (omega (arith, l, m)) ∙ ap place_of e in
      let other = get_or-map place_of all j y 0 m ∙ ap place_of f in
      omega (arith, here, one, other)

  at_place : (i : ℕ) (x : StationSeriesValue) → i < length all → get_or all i x ≡ x → IsOfStation collection x
  at_place i x l e = all_member (IsOfStation collection) all x each (i, l, e)

  -- a member of the first, and of the last
  first_place : (k : ℕ) (x : StationSeriesValue) (c : Contains (take k all) x) → (c.0 < k) × (c.0 < length all) × (get_or all c.0 x ≡ x)
  first_place k x c =
      let early : c.0 < k = omega (arith, c.1, length-take k all) in (early, omega (arith, c.1, length-take k all), sym (get_or-take k all c.0 x early) ∙ c.2)

  last_place : (k : ℕ) (x : StationSeriesValue) (c : Contains (drop k all) x) → (k + c.0 < length all) × (get_or all (k + c.0) x ≡ x)
  last_place k x c = (omega (arith, c.1, length-drop k all), sym (get_or-drop k all c.0 x) ∙ c.2)

  -- the blocks of the coverages before a place stand below those from it on
  pub stations_parted : (k : ℕ) (d : StationSeriesValue) → Parted (blocks_in collection) (flat_map (blocks_of_coverage ps) (take k all)) (flat_map (blocks_of_coverage ps) (drop k all))
  stations_parted k d = elim (cases_lt k (length all)) [
    | inl l ↦
        let s : StationSeriesValue = get_or all k d in
        let at : get_or all k s ≡ s = get_or_default all k s d l in
        let of : IsOfStation collection s = at_place k s l at in
        let all_in = end_inside collection s of in
        record {
          bound = s.first;
          inside = omega (arith, all_in);
          below = all_flat_map (λ n. n < s.first) (blocks_of_coverage ps) (take k all) (λ x c.
              let there = first_place k x c in
              let is = at_place c.0 x there.1 there.2 in
              coverage_below collection x is ps asked s.first (end_before collection x s is of (up c.0 k x s there.0 l there.2 at)));
          from = all_flat_map (λ n. s.first ≤ n) (blocks_of_coverage ps) (drop k all) (λ x c. let there = last_place k x c in coverage_from collection x (at_place (k + c.0) x there.0 there.1) ps s.first (later k s x l at of c.0 there.0 there.1));
        }
    | inr past ↦ record {
      bound = blocks_in collection;
      inside = omega arith;
      below = all_flat_map (λ n. n < blocks_in collection) (blocks_of_coverage ps) (take k all) (λ x c.
          let there = first_place k x c in let is = at_place c.0 x there.1 there.2 in coverage_below collection x is ps asked (blocks_in collection) (end_inside collection x is));
      from = all_flat_map (λ n. blocks_in collection ≤ n) (blocks_of_coverage ps) (drop k all) (λ x c. absurd (omega (arith, c.1, length-drop k all, past)));
    }
  ]
    where
      still : (k i : ℕ) → i ≤ 0 → k + i ≡ k
      still k i none = omega (arith, none)

      later : (k : ℕ) (s x : StationSeriesValue) → k < length all → get_or all k s ≡ s → IsOfStation collection s → (i : ℕ) → k + i < length all → get_or all (k + i) x ≡ x → s.first ≤ x.first
      later k s x l at of i m e = elim (cases_lt 0 i) [
        | inl more ↦ let behind = end_before collection s x of (at_place (k + i) x m e) (up k (k + i) s x (omega (arith, more)) m at e) in omega (arith, behind)
        | inr none ↦
            let same : x ≡ s = sym e ∙ ap (λ (n : ℕ). get_or all n x) (still k i none) ∙ get_or_default all k x s l ∙ at in
            let first = ap (λ (y : StationSeriesValue). y.first) same in omega (arith, first)
      ]
