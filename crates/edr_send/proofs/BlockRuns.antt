-- Runs of cells of at most one block, of which some aren't taken.
use Rattle.std.proofs.Common.{◌≡◌, ℕ, zero, suc, ◌+◌, ◌-◌, ◌*◌, ◌/◌, ◌%◌, ◌<◌, ◌≤◌, true, List, [], ◌∷◌, ◌++◌, length, take, drop, get_or, All, Contains, ℤ, Option, None, Some, refl, ap, sym, ◌∙◌, subst, arith, inl, inr, length-take, length-drop, get_or-take, get_or-drop}
use Rattle.std.specs.Prelude.{map, option_to_list}
use Rattle.std.specs.List.{slice_range}
use Rattle.std.proofs.lemmas.Bool.{cases_lt, eqb-true, false≢true}
use Rattle.std.proofs.lemmas.Grind.{flat_map-append}
use Rattle.std.proofs.lemmas.List.{take-append-drop, map-append, get_or_default}
use Rattle.std.proofs.lemmas.List.Elements.{All-nil, All-cons, All-map, All-weaker, All-from_get_or}
use Rattle.edr_station.specs.Stations.{StationsValue, values_along}
use Rattle.edr_station.specs.Blocks.{IsBlock}
use Rattle.edr_select.specs.Samples.{ascending_once}
use Rattle.edr_select.specs.ListLaws.{member_here, member_later, all_member, map_agree_in}
use Rattle.edr_select.specs.Series.{StationSeriesValue, IsOfStation, block_at, cells_taken, series_value, series_range}
use Rattle.edr_send.specs.SeriesTexts.{blocks_in, station_of, goes_on, IsRun, BlocksApart, picked_of}
use Rattle.edr_send.proofs.BlockNumbers as numbers
use Rattle.edr_send.proofs.Parted.{Parted, parted_next, parted_whole}
use Rattle.edr_send.proofs.RunSteps.{drop_on}
use Rattle.edr_send.proofs.TileSteps.{take_on, get_or-range, length-range}

-- ---- cells that are taken

not_some : {X : Type 0} {x : X} → None ≡ Some x → ⊥
not_some e = cc

same_some : {X : Type 0} {x y : X} → Some x ≡ Some y → x ≡ y
same_some e = cc

-- a cell that is taken stands at a place
record TakenAt (cells : List (Option ℕ)) (cell : ℕ) : Type 0 where
  place : ℕ
  inside : place < length cells
  is : get_or cells place None ≡ Some cell

taken_from : (cells : List (Option ℕ)) (cell i : ℕ) → i < length (cells_taken cells) → get_or (cells_taken cells) i cell ≡ cell → TakenAt cells cell
taken_from [] cell i l e = absurd (omega (arith, l))
taken_from (None ∷ cells) cell i l e = let there = taken_from cells cell i l e in record { place = suc there.place; inside = omega (arith, there.inside); is = there.is }
taken_from (Some other ∷ cells) cell zero l e = record { place = 0; inside = omega arith; is = ap Some e }
taken_from (Some other ∷ cells) cell (suc i) l e = let there = taken_from cells cell i (omega (arith, l)) e in record { place = suc there.place; inside = omega (arith, there.inside); is = there.is }

taken_at : (cells : List (Option ℕ)) (cell : ℕ) → Contains (cells_taken cells) cell → TakenAt cells cell
taken_at cells cell c = taken_from cells cell c.0 c.1 c.2

-- and back
pub taken_has : (cells : List (Option ℕ)) (k cell : ℕ) → k < length cells → get_or cells k None ≡ Some cell → Contains (cells_taken cells) cell
taken_has [] k cell l e = absurd (omega (arith, l))
taken_has (None ∷ cells) zero cell l e = absurd (not_some e)
taken_has (None ∷ cells) (suc k) cell l e = taken_has cells k cell (omega (arith, l)) e
taken_has (Some other ∷ cells) zero cell l e = subst (λ (c : ℕ). Contains (other ∷ cells_taken cells) c) (same_some e) (member_here other (cells_taken cells))
taken_has (Some other ∷ cells) (suc k) cell l e = member_later other cell (cells_taken cells) (taken_has cells k cell (omega (arith, l)) e)

pub some_taken : (cells : List (Option ℕ)) (first : ℕ) → 0 < length cells → get_or cells 0 None ≡ Some first → 0 < length (cells_taken cells)
some_taken cells first l e = let there = taken_has cells 0 first l e in omega (arith, there.1)

-- what holds of each that is taken holds of one at a place
pub of_taken : (P : ℕ → Type 0) (cells : List (Option ℕ)) → All P (cells_taken cells) → (k cell : ℕ) → k < length cells → get_or cells k None ≡ Some cell → P cell
of_taken P cells all k cell l e = all_member P (cells_taken cells) cell all (taken_has cells k cell l e)

all_from : (P : ℕ → Type 0) (xs : List ℕ) → ((x : ℕ) → Contains xs x → P x) → All P xs
all_from P xs h = All-from_get_or P xs 0 (λ i l. h (get_or xs i 0) (i, l, get_or_default xs i (get_or xs i 0) 0 l))

pub taken_append : (cells others : List (Option ℕ)) → cells_taken (cells ++ others) ≡ cells_taken cells ++ cells_taken others
taken_append cells others = flat_map-append option_to_list cells others

-- ---- a run, as a list of its own

module _ (cells : List (Option ℕ)) (at next : ℕ) (l : at < next) (m : next ≤ length cells) where
  long : length (slice_range cells at next) ≡ next - at
  long = length-range cells at next (omega (arith, l)) m

  cell_is : (i : ℕ) (d : Option ℕ) → i < length (slice_range cells at next) → get_or (slice_range cells at next) i d ≡ get_or cells (at + i) d
  cell_is i d h = get_or-range cells at next i d (omega (arith, h, long))

  pub run_some : 0 < length (slice_range cells at next)
  run_some = omega (arith, long, l)

  pub run_below : (P : ℕ → Type 0) → All P (cells_taken cells) → All P (cells_taken (slice_range cells at next))
  run_below P all =
      all_from P (cells_taken (slice_range cells at next)) (λ cell c.
      let there = taken_at (slice_range cells at next) cell c in
      of_taken P cells all (at + there.place) cell (omega (arith, there.inside, long, m)) (sym (cell_is there.place None there.inside) ∙ there.is))

-- blocks of the cells before a place, and so of those of a run behind it
pub apart_next : (cells : List (Option ℕ)) (at next : ℕ) → at < next → BlocksApart cells 0 at → BlocksApart cells at next → BlocksApart cells 0 next
apart_next cells at next l before here k j one other low high behind inside e f = elim (cases_lt k at) [
  | inl early ↦ before k j one other low early (omega (arith, l, behind)) inside e f
  | inr late ↦ here k j one other late high behind inside e f
]

-- ---- the blocks of runs

-- numbers of which each is below each of some others
parted_by : (n : ℕ) (f : ℕ → ℕ) (xs ys : List ℕ) → ((x : ℕ) → Contains xs x → f x < n) → ((x y : ℕ) → Contains xs x → Contains ys y → f x < f y) → Parted n (map f xs) (map f ys)
parted_by n f [] ys inside less = record {
  bound = 0;
  inside = omega arith;
  below = All-nil (λ k. k < 0);
  from = All-map (λ k. 0 ≤ k) f ys (λ i d l. omega arith);
}
parted_by n f (x ∷ xs) ys inside less =
    let rest = parted_by n f xs ys (λ z c. inside z (member_later x z xs c)) (λ z y c e. less z y (member_later x z xs c) e) in
    elim (cases_lt rest.bound (f x + 1)) [
      | inl up ↦ record {
        bound = f x + 1;
        inside = let here = inside x (member_here x xs) in omega (arith, here);
        below = All-cons (λ k. k < f x + 1) (f x) (map f xs) (omega arith) (All-weaker (λ k. k < rest.bound) (λ k. k < f x + 1) (λ k m. omega (arith, m, up)) (map f xs) rest.below);
        from = All-map (λ k. f x + 1 ≤ k) f ys (λ i d l. let here = less x (get_or ys i d) (member_here x xs) (i, l, get_or_default ys i (get_or ys i d) d l) in omega (arith, here));
      }
      | inr low ↦ record {
        bound = rest.bound;
        inside = rest.inside;
        below = All-cons (λ k. k < rest.bound) (f x) (map f xs) (omega (arith, low)) rest.below;
        from = rest.from;
      }
    ]

module _ (collection : StationsValue) (s : StationSeriesValue) (of : IsOfStation collection s) (p : ℕ) (inside : p < collection.parameters) where
  abbrev b : ℕ → ℕ
  b = block_at s p

  runs_parted : (at : ℕ) → BlocksApart s.cells 0 at → Parted (blocks_in collection) (map b (cells_taken (take at s.cells))) (map b (cells_taken (drop at s.cells)))
  runs_parted at apart =
      parted_by (blocks_in collection) b (cells_taken (take at s.cells)) (cells_taken (drop at s.cells))
      (λ x c. let there = first_is x c in numbers.block_inside collection s of p x inside (of_taken (λ cell. cell < values_along (station_of collection s)) s.cells of.cells there.0 x there.2 there.3))
      (λ x y c e.
      let there = first_is x c in
      let other = last_is y e in
      let less = apart there.0 other.0 x y (omega arith) there.1 other.1 other.2 there.3 other.3 in
      omega (arith, less))
    where
      first_is : (x : ℕ) → Contains (cells_taken (take at s.cells)) x → (k : ℕ) × (k < at) × (k < length s.cells) × (get_or s.cells k None ≡ Some x)
      first_is x c =
          let there = taken_at (take at s.cells) x c in
          let low : there.place < at = omega (arith, there.inside, length-take at s.cells) in
          (there.place, low, omega (arith, there.inside, length-take at s.cells), sym (get_or-take at s.cells there.place None low) ∙ there.is)

      last_is : (y : ℕ) → Contains (cells_taken (drop at s.cells)) y → (j : ℕ) × (at ≤ j) × (j < length s.cells) × (get_or s.cells j None ≡ Some y)
      last_is y c =
          let there = taken_at (drop at s.cells) y c in
          (at + there.place, omega arith, omega (arith, there.inside, length-drop at s.cells), sym (get_or-drop at s.cells there.place None) ∙ there.is)

  module _ (at next : ℕ) (l : at < next) where
    rest_is : map b (cells_taken (drop at s.cells)) ≡ map b (cells_taken (slice_range s.cells at next)) ++ map b (cells_taken (drop next s.cells))
    rest_is =
        ap (λ (cells : List (Option ℕ)). map b (cells_taken cells)) (drop_on s.cells at next (omega (arith, l)))
        ∙ ap (map b) (taken_append (slice_range s.cells at next) (drop next s.cells))
        ∙ map-append b (cells_taken (slice_range s.cells at next)) (cells_taken (drop next s.cells))

    first_is : map b (cells_taken (take next s.cells)) ≡ map b (cells_taken (take at s.cells)) ++ map b (cells_taken (slice_range s.cells at next))
    first_is =
        ap (λ (cells : List (Option ℕ)). map b (cells_taken cells)) (take_on s.cells at next (omega (arith, l)))
        ∙ ap (map b) (taken_append (take at s.cells) (slice_range s.cells at next))
        ∙ map-append b (cells_taken (take at s.cells)) (cells_taken (slice_range s.cells at next))

    whole_is : map b (cells_taken s.cells) ≡ map b (cells_taken (take at s.cells)) ++ map b (cells_taken (drop at s.cells))
    whole_is =
        ap (λ (cells : List (Option ℕ)). map b (cells_taken cells)) (sym (take-append-drop at s.cells))
        ∙ ap (map b) (taken_append (take at s.cells) (drop at s.cells))
        ∙ map-append b (cells_taken (take at s.cells)) (cells_taken (drop at s.cells))

    -- the blocks of a run come behind those of the runs before it
    pub run_next : BlocksApart s.cells 0 at
        → ascending_once (blocks_in collection) (map b (cells_taken (take next s.cells)))
        ≡ ascending_once (blocks_in collection) (map b (cells_taken (take at s.cells))) ++ ascending_once (blocks_in collection) (map b (cells_taken (slice_range s.cells at next)))
    run_next apart =
        parted_next (blocks_in collection) (map b (cells_taken (take at s.cells))) (map b (cells_taken (drop at s.cells))) (map b (cells_taken (slice_range s.cells at next))) (map b (cells_taken (drop next s.cells))) (map b (cells_taken (take next s.cells)))
        rest_is first_is (runs_parted at apart)

    pub run_whole : BlocksApart s.cells 0 at → BlocksApart s.cells 0 next
        → ascending_once (blocks_in collection) (map b (cells_taken s.cells))
        ≡ (ascending_once (blocks_in collection) (map b (cells_taken (take at s.cells))) ++ ascending_once (blocks_in collection) (map b (cells_taken (slice_range s.cells at next))))
        ++ ascending_once (blocks_in collection) (map b (cells_taken (drop next s.cells)))
    run_whole apart later =
        parted_whole (blocks_in collection) (map b (cells_taken (take at s.cells))) (map b (cells_taken (drop at s.cells))) (map b (cells_taken (slice_range s.cells at next))) (map b (cells_taken (drop next s.cells))) (map b (cells_taken (take next s.cells)))
        rest_is first_is (runs_parted at apart) (map b (cells_taken s.cells)) whole_is (runs_parted next later)

  -- ---- what a run is read from

  module _ (cells : List (Option ℕ)) (run : IsRun cells) (below : All (λ cell. cell < values_along (station_of collection s)) (cells_taken cells)) where
    -- a run that begins with a cell that isn't taken has none
    pub none_taken : get_or cells 0 None ≡ None → cells_taken cells ≡ []
    none_taken first = empty (cells_taken cells) (λ x c. let there = taken_at cells x c in absurd (false≢true (sym (ap (λ (o : Option ℕ). goes_on o (Some x)) first) ∙ on x there.place there.inside there.is)))
      where
        on : (x k : ℕ) → k < length cells → get_or cells k None ≡ Some x → goes_on (get_or cells 0 None) (Some x) ≡ true
        on x k h e = ap (goes_on (get_or cells 0 None)) (sym e) ∙ run k None h

        empty : (xs : List ℕ) → ((x : ℕ) → Contains xs x → ⊥) → xs ≡ []
        empty [] none = refl
        empty (x ∷ xs) none = absurd (none x (member_here x xs))

    pub values_none : get_or cells 0 None ≡ None → map (λ (cell : Option ℕ). None) cells ≡ (series_range (station_of collection s) cells p).values
    values_none first =
        map_agree_in (λ (cell : Option ℕ). None) (series_value (station_of collection s) p) cells (λ cell c. no_value cell c)
      where
        no_value : (cell : Option ℕ) → Contains cells cell → None ≡ series_value (station_of collection s) p cell
        no_value None c = refl
        no_value (Some x) c =
            absurd (no_member_of (taken_has cells c.0 x c.1 (get_or_default cells c.0 None (Some x) c.1 ∙ c.2)))
          where
            no_member_of : Contains (cells_taken cells) x → ⊥
            no_member_of m = absurd (omega (arith, m.1, ap length (none_taken first)))

    -- the others are of the block of its first
    module _ (first : ℕ) (is_first : get_or cells 0 None ≡ Some first) where
      in_block : (x : ℕ) → Contains (cells_taken cells) x → x / 256 ≡ first / 256
      in_block x c =
          let there = taken_at cells x c in
          eqb-true (x / 256) (first / 256)
          (ap (λ (o : Option ℕ). goes_on o (Some x)) (sym is_first) ∙ ap (goes_on (get_or cells 0 None)) (sym there.is) ∙ run there.place None there.inside)

      -- which is among all blocks
      pub cell_block : 0 < length cells → b first < blocks_in collection
      cell_block some =
          numbers.block_inside collection s of p first inside (of_taken (λ cell. cell < values_along (station_of collection s)) cells below 0 first some is_first)

      pub run_numbers : All (λ k. k ≡ b first) (map b (cells_taken cells))
      run_numbers =
          All-map (λ k. k ≡ b first) b (cells_taken cells)
          (λ i d l. ap (λ (n : ℕ). s.first + p * s.blocks + n) (in_block (get_or (cells_taken cells) i d) (i, l, get_or_default (cells_taken cells) i (get_or (cells_taken cells) i d) d l)))

      module _ (values : List (Option ℤ)) (block : IsBlock collection (b first) values) where
        pub run_inside : All (λ cell. cell % 256 < length values) (cells_taken cells)
        run_inside =
            all_from (λ cell. cell % 256 < length values) (cells_taken cells)
            (λ x c. numbers.value_inside collection s of p x inside (low x c) values (b first) block (here x c))
          where
            low : (x : ℕ) → Contains (cells_taken cells) x → x < values_along (station_of collection s)
            low x c = all_member (λ cell. cell < values_along (station_of collection s)) (cells_taken cells) x below c

            here : (x : ℕ) → Contains (cells_taken cells) x → b x ≡ b first
            here x c = ap (λ (n : ℕ). s.first + p * s.blocks + n) (in_block x c)

        pub run_values : map (picked_of values) cells ≡ (series_range (station_of collection s) cells p).values
        run_values = map_agree_in (picked_of values) (series_value (station_of collection s) p) cells agree
          where
            agree : (cell : Option ℕ) → Contains cells cell → picked_of values cell ≡ series_value (station_of collection s) p cell
            agree None c = refl
            agree (Some x) c =
                let taken = taken_has cells c.0 x c.1 (get_or_default cells c.0 None (Some x) c.1 ∙ c.2) in
                numbers.value_is collection s of p x inside
                (all_member (λ cell. cell < values_along (station_of collection s)) (cells_taken cells) x below taken) values (b first) block (ap (λ (n : ℕ). s.first + p * s.blocks + n) (in_block x taken))
