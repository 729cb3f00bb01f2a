-- What a query takes of a station: along a corridor, or by its place or its id, and then each time and level by itself.
use Rattle.std.proofs.Common.{Bool, Contains, List, Some, [], ap, ap₂, arith, false, length, map, refl, subst, sym, true, ℕ, ◌<◌, ◌∙◌, ◌∷◌, ◌≡◌, ◌≢◌}
use Rattle.std.specs.List.{flat_map}
use Rattle.std.specs.Prelude.{◌&&◌}
use Rattle.std.proofs.lemmas.Bool.{and_from, and_parts, false_from_ne_true, false≢true}
use Rattle.edr_axes.specs.Axes.{axis_length, value_at}
use Rattle.edr_corridor.specs.Boxes.{level_at}
use Rattle.edr_edition.specs.Values.{CollectionValue}
use Rattle.edr_query.specs.Values.{QueryValue}
use Rattle.edr_query.specs.declared.shapes.Shape.{Shape}
use Rattle.edr_select.specs.Checks.{stations_in}
use Rattle.edr_select.specs.KeptLaws.{contains_kept, kept_agree, kept_below, kept_passes}
use Rattle.edr_select.specs.ListLaws.{Member, any_range, both, map_agree_in, no_member, passes_at, some_member}
use Rattle.edr_select.specs.Samples.{Stored}
use Rattle.edr_select.specs.Selections.{takes}
use Rattle.edr_select.specs.Wanted.{levels_asked, takes_level, takes_place, takes_time}
use Rattle.edr_station.specs.Stations.{StationValue, station_at}
use Rattle.edr_plan.specs.CorridorPlans.{CorridorValue, IsAlong, takes_along}
use Rattle.edr_plan.specs.StationPlaces.{ChoiceValue, IsOfStations, Test, cell_if, cell_of, cells_by, choice_by, has_level, has_some, has_time, is_taken, stored_in, takes_at, takes_each, takes_station}
use Rattle.edr_plan.specs.StationPlans.{IsChoiceOf, are_some, cells_of, choice_of, not_empty}
use Rattle.edr_plan.proofs.StationCells.{flat_map_agree_in, passes_chosen, some_taken_at, taken_at}
use Rattle.edr_query.specs.declared.shapes.Shape.TheVariants as at
use Rattle.edr_select.specs.Selections as selections

first_true : (a b d : Bool) → (a && (b && d)) ≡ true → a ≡ true
first_true a b d h = (and_parts a (b && d) h).0

second_true : (a b d : Bool) → (a && (b && d)) ≡ true → b ≡ true
second_true a b d h = (and_parts b d (and_parts a (b && d) h).1).0

pub third_true : (a b d : Bool) → (a && (b && d)) ≡ true → d ≡ true
third_true a b d h = (and_parts b d (and_parts a (b && d) h).1).1

-- ---- the test of the query

module _ (c : CollectionValue) (q : QueryValue) (k : ℕ) where
  abbrev own : StationValue
  own = station_at c.stations k

  abbrev sample : ℕ → ℕ → Stored
  sample t z = stored_in c.parameters c.stations k 0 t z

  -- by the rule of a shape; by each part; by the place of a shape; and by the station
  abbrev by_rule : Shape → Test
  by_rule shape t z = takes (stations_in c) q shape (sample t z)

  abbrev by_each : Test
  by_each t z = selections.takes_each (stations_in c) q (sample t z)

  abbrev by_place : Shape → Test
  by_place shape t z = takes_time q.times (Some (value_at own.ts t)) && (takes_level (levels_asked q) (level_at own.zs z) && takes_place (stations_in c).held shape (sample t z))

  abbrev by_station : Shape → Test
  by_station shape t z = takes_time q.times (Some (value_at own.ts t)) && (takes_level (levels_asked q) (level_at own.zs z) && takes_station shape own)

  rule_each : (shape : Shape) → IsOfStations shape → by_rule shape ≡ by_each
  rule_each (at.Position geometry) of = absurd of
  rule_each (at.Radius geometry within) of = refl
  rule_each (at.Area geometry) of = refl
  rule_each (at.Cube lo hi levels) of = refl
  rule_each (at.Trajectory geometry) of = absurd of
  rule_each (at.Corridor geometry width height) of = absurd of
  rule_each (at.Location id) of = refl

  place_station : (shape : Shape) → IsOfStations shape → by_place shape ≡ by_station shape
  place_station (at.Position geometry) of = absurd of
  place_station (at.Radius geometry within) of = refl
  place_station (at.Area geometry) of = refl
  place_station (at.Cube lo hi levels) of = refl
  place_station (at.Trajectory geometry) of = absurd of
  place_station (at.Corridor geometry width height) of = absurd of
  place_station (at.Location id) of = refl

  pub each_is : IsOfStations q.shape → takes_at c q k ≡ takes_each q own
  each_is of = rule_each q.shape of ∙ place_station q.shape of

  pub along_is : (corridor : CorridorValue) → IsAlong q corridor → takes_at c q k ≡ takes_along q corridor own
  along_is corridor along = ap by_rule along

-- ---- each time and level by itself

some_there : (xs : List ℕ) (x : ℕ) → Contains xs x → not_empty xs ≡ true
some_there [] x m = absurd (no_member [] x refl m)
some_there (y ∷ xs) x m = refl

not_none : (xs : List ℕ) → not_empty xs ≡ true → xs ≢ []
not_none [] h none = cc
not_none (x ∷ xs) h none = cc

module _ (q : QueryValue) (s : StationValue) where
  abbrev takes_t : ℕ → Bool
  takes_t t = takes_time q.times (Some (value_at s.ts t))

  abbrev takes_z : ℕ → Bool
  takes_z z = takes_level (levels_asked q) (level_at s.zs z)

  none_by : ((t z : ℕ) → t < length s.ts → z < axis_length s.zs → takes_each q s t z ≡ true → ⊥) → has_some s (takes_each q s) ≡ false
  none_by never =
      false_from_ne_true (has_some s (takes_each q s)) (λ h.
      let at = taken_at s (takes_each q s) h in never at.time at.level at.time_in at.level_in at.taken)

  -- nothing of a station that the shape doesn't take
  pub none_of_station : takes_station q.shape s ≡ false → has_some s (takes_each q s) ≡ false
  none_of_station none =
      none_by (λ t z ht hz taken. absurd (false≢true (sym none ∙ third_true (takes_t t) (takes_z z) (takes_station q.shape s) taken)))

  -- and nothing where no time or no level is taken
  pub none_chosen : are_some (choice_of q s) ≡ false → has_some s (takes_each q s) ≡ false
  none_chosen none =
      none_by (λ t z ht hz taken.
      let times : not_empty (choice_of q s).times ≡ true =
      some_there (choice_of q s).times t (contains_kept takes_t (length s.ts) t ht (first_true (takes_t t) (takes_z z) (takes_station q.shape s) taken)) in
      let levels : not_empty (choice_of q s).levels ≡ true =
      some_there (choice_of q s).levels z (contains_kept takes_z (axis_length s.zs) z hz (second_true (takes_t t) (takes_z z) (takes_station q.shape s) taken)) in
      absurd (false≢true (sym none ∙ and_from _ _ times levels)))

  module _ (takes : takes_station q.shape s ≡ true) (some : are_some (choice_of q s) ≡ true) where
    time : Member (choice_of q s).times
    time = some_member (choice_of q s).times (not_none (choice_of q s).times (and_parts (not_empty (choice_of q s).times) (not_empty (choice_of q s).levels) some).0)

    level : Member (choice_of q s).levels
    level = some_member (choice_of q s).levels (not_none (choice_of q s).levels (and_parts (not_empty (choice_of q s).times) (not_empty (choice_of q s).levels) some).1)

    passing : (t z : ℕ) → Contains (choice_of q s).times t → Contains (choice_of q s).levels z → takes_each q s t z ≡ true
    passing t z mt mz = and_from _ _ (kept_passes takes_t (length s.ts) t mt) (and_from _ _ (kept_passes takes_z (axis_length s.zs) z mz) takes)

    time_is : (t : ℕ) → t < length s.ts → takes_t t ≡ has_time s (takes_each q s) t
    time_is t ht =
        both (takes_t t) (has_time s (takes_each q s) t)
        (λ h. any_range (λ z. takes_each q s t z) 0 (axis_length s.zs) level.item (omega arith) (omega (arith, kept_below takes_z (axis_length s.zs) level.item level.among))
        (passing t level.item (contains_kept takes_t (length s.ts) t ht h) level.among))
        (λ h. let f = passes_at (λ z. takes_each q s t z) 0 (axis_length s.zs) h in first_true (takes_t t) (takes_z f.place) (takes_station q.shape s) f.passes)

    level_is : (z : ℕ) → z < axis_length s.zs → takes_z z ≡ has_level s (takes_each q s) z
    level_is z hz =
        both (takes_z z) (has_level s (takes_each q s) z)
        (λ h. any_range (λ t. takes_each q s t z) 0 (length s.ts) time.item (omega arith) (omega (arith, kept_below takes_t (length s.ts) time.item time.among))
        (passing time.item z time.among (contains_kept takes_z (axis_length s.zs) z hz h)))
        (λ h. let f = passes_at (λ t. takes_each q s t z) 0 (length s.ts) h in second_true (takes_t f.place) (takes_z z) (takes_station q.shape s) f.passes)

    -- something is taken: these times and levels, and all of their places
    pub some_chosen : has_some s (takes_each q s) ≡ true
    some_chosen =
        some_taken_at s (takes_each q s) time.item level.item (kept_below takes_t (length s.ts) time.item time.among) (kept_below takes_z (axis_length s.zs) level.item level.among)
        (passing time.item level.item time.among level.among)

    pub chosen_is : choice_of q s ≡ choice_by s (takes_each q s)
    chosen_is =
        ap₂ (λ (times levels : List ℕ). record { times = times; levels = levels })
        (kept_agree takes_t (has_time s (takes_each q s)) 0 (length s.ts) (λ t low high. time_is t (omega (arith, high))))
        (kept_agree takes_z (has_level s (takes_each q s)) 0 (axis_length s.zs) (λ z low high. level_is z (omega (arith, high))))

    pub chosen_cells : cells_of s (choice_of q s) ≡ cells_by s (takes_each q s)
    chosen_cells =
        flat_map_agree_in (λ t. map (λ z. Some (cell_of s t z)) (choice_of q s).levels) (λ t. map (λ z. cell_if (takes_each q s t z) (cell_of s t z)) (choice_of q s).levels)
        (choice_of q s).times
        (λ t mt. map_agree_in (λ z. Some (cell_of s t z)) (λ z. cell_if (takes_each q s t z) (cell_of s t z)) (choice_of q s).levels
        (λ z mz. sym (ap (λ b. cell_if b (cell_of s t z)) (passing t z mt mz))))
        ∙ ap (λ (choice : ChoiceValue). flat_map (λ t. map (λ z. cell_if (takes_each q s t z) (cell_of s t z)) choice.levels) choice.times) chosen_is

-- a station that something is taken of is taken by the shape
pub taken_by_shape : (c : CollectionValue) (q : QueryValue) → IsOfStations q.shape → (k : ℕ) → is_taken c q k ≡ true → takes_station q.shape (station_at c.stations k) ≡ true
taken_by_shape c q of k h =
    let s : StationValue = station_at c.stations k in
    let at = taken_at s (takes_each q s) (sym (ap (has_some s) (each_is c q k of)) ∙ h) in
    third_true (takes_t q s at.time) (takes_z q s at.level) (takes_station q.shape s) at.taken

-- ---- of the station that is read at a place

module _ (c : CollectionValue) (q : QueryValue) (of : IsOfStations q.shape) (k : ℕ) (read : StationValue) (same : read ≡ station_at c.stations k) where
  pub none_read : has_some read (takes_each q read) ≡ false → is_taken c q k ≡ false
  none_read none = ap (has_some (station_at c.stations k)) (each_is c q k of) ∙ subst (λ (s : StationValue). has_some s (takes_each q s) ≡ false) same none

  module _ (some : has_some read (takes_each q read) ≡ true) (choice : ChoiceValue) (is : choice ≡ choice_by read (takes_each q read)) where
    pub some_read : is_taken c q k ≡ true
    some_read = ap (has_some (station_at c.stations k)) (each_is c q k of) ∙ subst (λ (s : StationValue). has_some s (takes_each q s) ≡ true) same some

    pub choice_read : choice ≡ choice_by (station_at c.stations k) (takes_at c q k)
    choice_read = is ∙ (ap (λ (s : StationValue). choice_by s (takes_each q s)) same ∙ sym (ap (choice_by (station_at c.stations k)) (each_is c q k of)))

    pub chosen_read : IsChoiceOf read choice
    chosen_read = subst (IsChoiceOf read) (sym is) (passes_chosen read (takes_each q read) some)

    pub chosen_there : IsChoiceOf (station_at c.stations k) choice
    chosen_there = subst (λ (s : StationValue). IsChoiceOf s choice) same chosen_read

    pub cells_read : cells_of read choice ≡ cells_by read (takes_each q read) → cells_of read choice ≡ cells_by (station_at c.stations k) (takes_at c q k)
    cells_read cells = cells ∙ (ap (λ (s : StationValue). cells_by s (takes_each q s)) same ∙ sym (ap (cells_by (station_at c.stations k)) (each_is c q k of)))
