-- The times, levels, rows and columns of the sides of a test of nodes.
use Rattle.std.proofs.Common.{◌≡◌, ◌≢◌, ℕ, ◌<◌, Bool, true, false, cond, List, [], ◌∷◌, length, refl, ap, sym, ◌∙◌, subst, arith, ℤ, None, Some, Contains, All}
use Rattle.std.specs.declared.option.Option.{Option}
use Rattle.std.specs.List.{filter, range_with_len}
use Rattle.std.proofs.lemmas.List.Elements.{All-filter}
use Rattle.edr_axes.specs.Axes.{axis_length}
use Rattle.edr_chunk.specs.AllPlaces.{at}
use Rattle.edr_chunk.specs.Places.{Within}
use Rattle.edr_edition.specs.Values.{InstanceValue}
use Rattle.edr_select.specs.Listings.{NumbersRise}
use Rattle.edr_select.specs.Stacks.{SidesValue, AreSides}
use Rattle.edr_select.specs.ListLaws.{no_member}
use Rattle.edr_select.specs.KeptLaws.{all_below, contains_kept, kept_below}
use Rattle.edr_select.specs.BoxLaws.{contains_from, from_contains}
use Rattle.edr_select.specs.GridLaws.{IsGrid}
use Rattle.edr_select.specs.RiseLaws.{numbers_rise}
use Rattle.edr_lines.specs.Plans.{axes_of, HasNodes}
use Rattle.edr_lines.specs.Taken.{Counts, counts_of, NodeTest, some_at_time, some_at_level, AreSidesOf}
use Rattle.edr_lines.proofs.PassingNodes.{PassesAt, time_some, level_some, row_some, column_some, at_row}

-- a node stands among some sides
pub record IsAmong (sides : SidesValue) (t z y x : ℕ) : Type 0 where
  pub t_in : Contains sides.times t
  pub z_in : Contains sides.levels z
  pub y_in : Contains (range_with_len sides.row sides.rows) y
  pub x_in : Contains (range_with_len sides.column sides.columns) x

module _ (n : Counts) (takes : NodeTest) (sides : SidesValue) (are : AreSidesOf n takes sides) where
  -- ---- members

  pub time_below : (t : ℕ) → Contains sides.times t → t < n.times
  time_below t m = kept_below (some_at_time n takes) n.times t (subst (λ (ts : List ℕ). Contains ts t) are.times m)

  pub level_below : (z : ℕ) → Contains sides.levels z → z < n.levels
  level_below z m = kept_below (some_at_level n takes) n.levels z (subst (λ (zs : List ℕ). Contains zs z) are.levels m)

  pub row_below : (y : ℕ) → Contains (range_with_len sides.row sides.rows) y → y < n.rows
  row_below y m = omega (arith, (from_contains sides.row sides.rows y m).1, are.rows.inside)

  pub column_below : (x : ℕ) → Contains (range_with_len sides.column sides.columns) x → x < n.columns
  column_below x m = omega (arith, (from_contains sides.column sides.columns x m).1, are.columns.inside)

  -- each node that passes stands among them
  pub among : (t z y x : ℕ) → t < n.times → z < n.levels → y < n.rows → x < n.columns → takes t z y x ≡ true → IsAmong sides t z y x
  among t z y x ht hz hy hx h =
      let row = row_some n takes t z y x ht hz hy hx h in
      let column = column_some n takes t z y x ht hz hy hx h in
      record {
        t_in = subst (λ (ts : List ℕ). Contains ts t) (sym are.times) (contains_kept (some_at_time n takes) n.times t ht (time_some n takes t z y x ht hz hy hx h));
        z_in = subst (λ (zs : List ℕ). Contains zs z) (sym are.levels) (contains_kept (some_at_level n takes) n.levels z hz (level_some n takes t z y x ht hz hy hx h));
        y_in = contains_from sides.row sides.rows y (are.rows.low y hy row) (are.rows.high y hy row);
        x_in = contains_from sides.column sides.columns x (are.columns.low x hx column) (are.columns.high x hx column);
      }

  -- some node passes
  pub one : PassesAt n takes
  one =
      let o = at_row n takes sides.row are.rows.first_passes in
      record { t = o.t; z = o.z; y = sides.row; x = o.x; t_in = o.t_in; z_in = o.z_in; y_in = omega (arith, are.rows.some, are.rows.inside); x_in = o.x_in; passes = o.passes }

  pub one_among : IsAmong sides one.t one.z one.y one.x
  one_among = among one.t one.z one.y one.x one.t_in one.z_in one.y_in one.x_in one.passes

  pub has_nodes : HasNodes sides
  has_nodes = record {
    times = λ none. no_member sides.times one.t none one_among.t_in;
    levels = λ none. no_member sides.levels one.z none one_among.z_in;
    rows = are.rows.some;
    columns = are.columns.some;
  }

  -- ---- all of them

  pub times_inside : All (λ t. t < n.times) sides.times
  times_inside = subst (λ (ts : List ℕ). All (λ t. t < n.times) ts) (sym are.times) (All-filter (some_at_time n takes) (λ t. t < n.times) (range_with_len 0 n.times) (all_below n.times))

  pub levels_inside : All (λ z. z < n.levels) sides.levels
  levels_inside = subst (λ (zs : List ℕ). All (λ z. z < n.levels) zs) (sym are.levels) (All-filter (some_at_level n takes) (λ z. z < n.levels) (range_with_len 0 n.levels) (all_below n.levels))

  pub times_rise : NumbersRise sides.times
  times_rise = subst NumbersRise (sym are.times) (numbers_rise (some_at_time n takes) 0 n.times)

  pub levels_rise : NumbersRise sides.levels
  levels_rise = subst NumbersRise (sym are.levels) (numbers_rise (some_at_level n takes) 0 n.levels)

-- ---- over a grid

pub same_levels : (zs : Option (List ℤ)) → axis_length zs ≡ axis_length zs
same_levels None = refl
same_levels (Some values) = refl

kept_of_one : (t : ℕ → Bool) → filter t (range_with_len 0 1) ≢ [] → filter t (range_with_len 0 1) ≡ 0 ∷ []
kept_of_one t some = here (t 0) some
  where
    here : (b : Bool) → cond {A = List ℕ} b (0 ∷ []) [] ≢ [] → cond {A = List ℕ} b (0 ∷ []) [] ≡ 0 ∷ []
    here true some = refl
    here false some = absurd (some refl)

module _ (i : InstanceValue) (g : IsGrid i) (takes : NodeTest) (sides : SidesValue) (are : AreSidesOf (counts_of (axes_of i)) takes sides) where
  abbrev n : Counts
  n = counts_of (axes_of i)

  -- a place among the sides lies in the grid
  pub among_within : (p t z y x : ℕ) → p < length i.parameters → IsAmong sides t z y x → Within i.grid.shape (at p t z y x)
  among_within p t z y x hp m = record {
    parameter = omega (arith, hp, g.parameters);
    t = omega (arith, time_below n takes sides are t m.t_in, g.times);
    z = omega (arith, level_below n takes sides are z m.z_in, g.levels, same_levels i.zs);
    y = omega (arith, row_below n takes sides are y m.y_in, g.rows);
    x = omega (arith, column_below n takes sides are x m.x_in, g.columns);
  }

  pub sides_inside : AreSides i.grid.shape sides
  sides_inside = record {
    times = subst (λ (count : ℕ). All (λ t. t < count) sides.times) (sym g.times) (times_inside n takes sides are);
    times_rise = times_rise n takes sides are;
    levels = subst (λ (count : ℕ). All (λ z. z < count) sides.levels) (same_levels i.zs ∙ sym g.levels) (levels_inside n takes sides are);
    levels_rise = levels_rise n takes sides are;
    rows = omega (arith, are.rows.inside, g.rows);
    columns = omega (arith, are.columns.inside, g.columns);
  }

  -- without an axis of levels there is one place
  pub one_level : i.zs ≡ None → sides.levels ≡ 0 ∷ []
  one_level none =
      are.levels ∙ only (subst (λ (zs : List ℕ). zs ≢ []) are.levels (has_nodes n takes sides are).levels)
    where
      count : n.levels ≡ 1
      count = ap axis_length none

      only : filter (some_at_level n takes) (range_with_len 0 n.levels) ≢ [] → filter (some_at_level n takes) (range_with_len 0 n.levels) ≡ 0 ∷ []
      only = subst (λ (m : ℕ). filter (some_at_level n takes) (range_with_len 0 m) ≢ [] → filter (some_at_level n takes) (range_with_len 0 m) ≡ 0 ∷ []) (sym count) (kept_of_one (some_at_level n takes))
