-- What a query takes of an instance that takes each time, level and place by itself, by the places that are chosen.
use Rattle.std.proofs.Common.{◌≡◌, ℕ, ◌+◌, ◌*◌, ◌<◌, Bool, true, false, List, [], ◌∷◌, length, refl, ap₂, sym, ◌∙◌, arith, mod-lt, Contains, Some, None}
use Rattle.std.specs.List.{list_any}
use Rattle.std.proofs.lemmas.Bool.{false_from_ne_true}
use Rattle.std.proofs.lemmas.Nat.{div-mul-add, mod-mul-add, mul-add-lt, div_below}
use Rattle.edr_axes.specs.Axes.{value_at, axis_length}
use Rattle.edr_chunk.specs.declared.shapes.GridPlace.{GridPlace}
use Rattle.edr_chunk.specs.Grids.{value}
use Rattle.edr_chunk.specs.Places.{Within}
use Rattle.edr_edition.specs.Values.{InstanceValue}
use Rattle.edr_query.specs.Values.{QueryValue}
use Rattle.edr_select.specs.Samples.{Stored, id_at, node_at, stored_at}
use Rattle.edr_select.specs.Wanted.{takes_time, takes_level, levels_asked}
use Rattle.edr_select.specs.Selections.{is_asked}
use Rattle.edr_select.specs.Heads.{is_some_stored}
use Rattle.edr_select.specs.Documents.{value_in}
use Rattle.edr_select.specs.Choices.{TakesEach, takes_node, Chosen, chosen, IsSome, row_of, column_of, node_of}
use Rattle.edr_corridor.specs.Boxes.{level_at}
use Rattle.edr_select.specs.Listings.{place_at}
use Rattle.edr_select.specs.ListLaws.{some_member, no_member}
use Rattle.edr_select.specs.KeptLaws.{contains_kept, kept_below, kept_passes}
use Rattle.edr_select.specs.GridLaws.{IsGrid}
use Rattle.edr_select.proofs.Picks.{picks_at, Taken, pick_found, found_pick}
use Rattle.edr_select.proofs.Values.{value_at_place}

-- each part of a place is chosen; `spot` is the number of its node in the plane
pub record IsChosenAt (i : InstanceValue) (c : Chosen) (a : GridPlace) : Type 0 where
  pub parameter : Contains c.parameters a.parameter
  pub time : Contains c.times a.t
  pub level : Contains c.levels a.z
  pub spot : Contains c.spots (a.y * length i.xs + a.x)

-- one of each that is chosen
pub record OneOfEach (c : Chosen) : Type 0 where
  pub parameter : ℕ
  pub time : ℕ
  pub level : ℕ
  pub spot : ℕ
  pub parameter_in : Contains c.parameters parameter
  pub time_in : Contains c.times time
  pub level_in : Contains c.levels level
  pub spot_in : Contains c.spots spot

pub each_of : (c : Chosen) → IsSome c → OneOfEach c
each_of c some =
    let p = some_member c.parameters some.parameters in
    let t = some_member c.times some.times in
    let z = some_member c.levels some.levels in
    let s = some_member c.spots some.spots in
    record {
      parameter = p.item;
      time = t.item;
      level = z.item;
      spot = s.item;
      parameter_in = p.among;
      time_in = t.among;
      level_in = z.among;
      spot_in = s.among;
    }

module _ (i : InstanceValue) (q : QueryValue) (each : TakesEach q.shape) (g : IsGrid i) where
  abbrev c : Chosen
  c = chosen i q

  abbrev asks : ℕ → Bool
  asks p = is_asked q.parameters (id_at i.parameters p)

  abbrev takes_t : ℕ → Bool
  takes_t t = takes_time q.times (Some (value_at i.ts t))

  abbrev takes_z : ℕ → Bool
  takes_z z = takes_level (levels_asked q) (level_at i.zs z)

  abbrev is_taken : ℕ → Bool
  is_taken spot = takes_node i q.shape (row_of i.xs spot) (column_of i.xs spot)

  -- ---- the members of the four lists

  pub parameter_asked : (p : ℕ) → Contains c.parameters p → asks p ≡ true
  parameter_asked p m = kept_passes asks (length i.parameters) p m

  pub parameter_below : (p : ℕ) → Contains c.parameters p → p < length i.parameters
  parameter_below p m = kept_below asks (length i.parameters) p m

  pub time_taken : (t : ℕ) → Contains c.times t → takes_t t ≡ true
  time_taken t m = kept_passes takes_t (length i.ts) t m

  pub time_below : (t : ℕ) → Contains c.times t → t < length i.ts
  time_below t m = kept_below takes_t (length i.ts) t m

  pub level_taken : (z : ℕ) → Contains c.levels z → takes_z z ≡ true
  level_taken z m = kept_passes takes_z (axis_length i.zs) z m

  pub level_below : (z : ℕ) → Contains c.levels z → z < axis_length i.zs
  level_below z m = kept_below takes_z (axis_length i.zs) z m

  pub spot_taken : (spot : ℕ) → Contains c.spots spot → is_taken spot ≡ true
  spot_taken spot m = kept_passes is_taken (length i.ys * length i.xs) spot m

  pub spot_below : (spot : ℕ) → Contains c.spots spot → spot < length i.ys * length i.xs
  spot_below spot m = kept_below is_taken (length i.ys * length i.xs) spot m

  pub row_below : (spot : ℕ) → spot < length i.ys * length i.xs → row_of i.xs spot < length i.ys
  row_below spot h = div_below spot (length i.xs) (length i.ys) g.xs.some h

  pub column_below : (spot : ℕ) → column_of i.xs spot < length i.xs
  column_below spot = mod-lt spot g.xs.some

  -- ---- cells and places

  pub cell_within : (p t z spot : ℕ) → p < length i.parameters → t < length i.ts → z < axis_length i.zs → spot < length i.ys * length i.xs
      → Within i.grid.shape (place_at p (node_of i.xs spot t z))
  cell_within p t z spot hp ht hz hs = record {
    parameter = omega (arith, hp, g.parameters);
    t = omega (arith, ht, g.times);
    z = omega (arith, hz, g.levels);
    y = omega (arith, row_below spot hs, g.rows);
    x = omega (arith, column_below spot, g.columns);
  }

  pub chosen_within : (p t z spot : ℕ) → Contains c.parameters p → Contains c.times t → Contains c.levels z → Contains c.spots spot
      → Within i.grid.shape (place_at p (node_of i.xs spot t z))
  chosen_within p t z spot mp mt mz ms = cell_within p t z spot (parameter_below p mp) (time_below t mt) (level_below z mz) (spot_below spot ms)

  -- a place whose parts are chosen is taken
  pub chosen_taken : (p t z spot : ℕ) → Contains c.parameters p → Contains c.times t → Contains c.levels z → Contains c.spots spot
      → Taken i q (place_at p (node_of i.xs spot t z))
  chosen_taken p t z spot mp mt mz ms = record { asked = parameter_asked p mp; time = time_taken t mt; level = level_taken z mz; near = spot_taken spot ms }

  -- and the parts of one that is taken are chosen
  pub taken_chosen : (a : GridPlace) → Within i.grid.shape a → Taken i q a → IsChosenAt i c a
  taken_chosen a within h =
      let column : a.x < length i.xs = omega (arith, within.x, g.columns) in
      let row : a.y < length i.ys = omega (arith, within.y, g.rows) in
      let near : is_taken (a.y * length i.xs + a.x) ≡ true =
      ap₂ (λ y x. takes_node i q.shape y x) (div-mul-add a.y (length i.xs) a.x column) (mod-mul-add a.y (length i.xs) a.x column)
      ∙ h.near in
      let below : a.y * length i.xs + a.x < length i.ys * length i.xs = omega (arith, mul-add-lt a.y (length i.xs) a.x (length i.ys) row column) in
      record {
        parameter = contains_kept asks (length i.parameters) a.parameter (omega (arith, within.parameter, g.parameters)) h.asked;
        time = contains_kept takes_t (length i.ts) a.t (omega (arith, within.t, g.times)) h.time;
        level = contains_kept takes_z (axis_length i.zs) a.z (omega (arith, within.z, g.levels)) h.level;
        spot = contains_kept is_taken (length i.ys * length i.xs) (a.y * length i.xs + a.x) below near;
      }

  -- the sample of a cell whose parts are chosen is picked
  pub pick_at : (t : Stored → Bool) (p m z spot : ℕ) → Contains c.parameters p → Contains c.times m → Contains c.levels z → Contains c.spots spot
      → t (stored_at i (place_at p (node_of i.xs spot m z))) ≡ true → list_any t (picks_at i q) ≡ true
  pick_at t p m z spot mp mt mz ms passes =
      found_pick i q each t (place_at p (node_of i.xs spot m z)) (chosen_within p m z spot mp mt mz ms) (chosen_taken p m z spot mp mt mz ms) passes

  -- its value is found
  pub value_at_cell : (p t z spot : ℕ) → Contains c.parameters p → Contains c.times t → Contains c.levels z → Contains c.spots spot
      → value_in (picks_at i q) None (id_at i.parameters p) (node_at i (place_at 0 (node_of i.xs spot t z)))
      ≡ value i.grid (place_at p (node_of i.xs spot t z))
  value_at_cell p t z spot mp mt mz ms =
      value_at_place i q each (place_at p (node_of i.xs spot t z)) g (chosen_within p t z spot mp mt mz ms) (chosen_taken p t z spot mp mt mz ms)

  -- ---- whether anything is picked

  some_is : (xs : List Stored) → list_any (λ x. true) xs ≡ is_some_stored xs
  some_is [] = refl
  some_is (x ∷ xs) = refl

  pub some_picked : IsSome c → is_some_stored (picks_at i q) ≡ true
  some_picked some =
      let e = each_of c some in
      sym (some_is (picks_at i q)) ∙ pick_at (λ x. true) e.parameter e.time e.level e.spot e.parameter_in e.time_in e.level_in e.spot_in refl

  -- a chosen place of what is picked
  chosen_pick : is_some_stored (picks_at i q) ≡ true → (a : GridPlace) × IsChosenAt i c a
  chosen_pick h =
      let f = pick_found i q each (λ x. true) (some_is (picks_at i q) ∙ h) in
      (f.place, taken_chosen f.place f.within f.taken)

  pub none_without_parameters : c.parameters ≡ [] → is_some_stored (picks_at i q) ≡ false
  none_without_parameters none = false_from_ne_true (is_some_stored (picks_at i q)) (λ h.
      let f = chosen_pick h in no_member c.parameters f.0.parameter none f.1.parameter)

  pub none_without_times : c.times ≡ [] → is_some_stored (picks_at i q) ≡ false
  none_without_times none = false_from_ne_true (is_some_stored (picks_at i q)) (λ h. let f = chosen_pick h in no_member c.times f.0.t none f.1.time)

  pub none_without_levels : c.levels ≡ [] → is_some_stored (picks_at i q) ≡ false
  none_without_levels none = false_from_ne_true (is_some_stored (picks_at i q)) (λ h. let f = chosen_pick h in no_member c.levels f.0.z none f.1.level)

  pub none_without_spots : c.spots ≡ [] → is_some_stored (picks_at i q) ≡ false
  none_without_spots none = false_from_ne_true (is_some_stored (picks_at i q)) (λ h.
      let f = chosen_pick h in no_member c.spots (f.0.y * length i.xs + f.0.x) none f.1.spot)
