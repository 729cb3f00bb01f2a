-- What is known of a corridor of a grid from step to step of its planning.
use Rattle.std.proofs.Common.{◌≡◌, ◌≢◌, ℕ, Bool, true, false, List, [], refl, ap, sym, ◌∙◌, subst, arith, ℤ, None, Some, All}
use Rattle.std.specs.declared.option.Option.{Option}
use Rattle.std.specs.Prelude.{◌&&◌, ◌||◌, not, nat_lt, is_some, IsSome, MatchOption}
use Rattle.std.proofs.lemmas.Bool.{false≢true}
use Rattle.edr_axes.specs.declared.levels.Levels.{Levels}
use Rattle.edr_wkt.specs.declared.geometry.Geometry.{Geometry}
use Rattle.edr_wkt.specs.Wkt.{has_z_of}
use Rattle.edr_base.specs.Limits.{IsCoordinate}
use Rattle.edr_corridor.specs.Values.{needs_level}
use Rattle.edr_corridor.specs.Boxes.{GridAxes}
use Rattle.edr_corridor.specs.BoxLaws.{CorridorsAreCut}
use Rattle.edr_edition.specs.Values.{InstanceValue, CollectionValue}
use Rattle.edr_edition.specs.Instances.{HasGrid}
use Rattle.edr_query.specs.declared.shapes.Shape.{Shape}
use Rattle.edr_query.specs.declared.shapes.Shape.TheVariants as at
use Rattle.edr_query.specs.Values.{QueryValue}
use Rattle.edr_query.specs.Queries.{has_z, has_levels, coords_of, box_of}
use Rattle.edr_select.specs.Limits.{value_limit}
use Rattle.edr_select.specs.Lines.{single_level, segments_of}
use Rattle.edr_select.specs.Steps.{lacks_levels}
use Rattle.edr_select.specs.Stacks.{SidesValue}
use Rattle.edr_lines.specs.Asked.{IsAskedAlong}
use Rattle.edr_lines.specs.Bits.{IsSmall}
use Rattle.edr_lines.specs.Corridors as corridors
use Rattle.edr_lines.specs.Corridors.{CorridorValue, IsCorridorOf}
use Rattle.edr_lines.specs.Plans.{axes_of, IsFew, HasNodes, AreSidesOrMore, stacked_count}
use Rattle.edr_lines.specs.Taken.{counts_of, NoneTaken, AreSidesOf}
use Rattle.edr_lines.proofs.GridSides.{is_few, rows_placed, columns_placed}
use Rattle.edr_lines.proofs.StackSizes.{nodes_fit}

-- a corridor of a grid, of which it is known what it takes
pub record IsCorridorIn (c : CollectionValue) (q : QueryValue) (i : InstanceValue) (corridor : CorridorValue) : Type 0 where
  pub asked : IsAskedAlong c q i
  pub line : Geometry
  pub width : ℤ
  pub height : Option ℤ
  pub shape : q.shape ≡ at.Corridor line width height
  pub is : IsCorridorOf q line width height (axes_of i) corridor
  pub cut : CorridorsAreCut

pub corridor_in : (c : CollectionValue) (q : QueryValue) (i : InstanceValue) (corridor : CorridorValue) (line : Geometry) (width given : ℤ) (height : Option ℤ) (axes : GridAxes)
    → IsAskedAlong c q i → q.shape ≡ at.Corridor line width height → given ≡ width → axes ≡ axes_of i → CorridorsAreCut → IsCorridorOf q line given height axes corridor
    → IsCorridorIn c q i corridor
corridor_in c q i corridor line width given height axes asked shape width_is axes_are cut is = record {
  asked = asked;
  line = line;
  width = width;
  height = height;
  shape = shape;
  is = subst (λ (w : ℤ). IsCorridorOf q line w height (axes_of i) corridor) width_is (subst (λ (a : GridAxes). IsCorridorOf q line given height a corridor) axes_are is);
  cut = cut;
}

-- ---- axes

module _ (i : InstanceValue) (h : HasGrid i) (axes : GridAxes) (axes_are : axes ≡ axes_of i) where
  pub axes_few : IsFew axes
  axes_few = subst IsFew (sym axes_are) (is_few i h)

  pub ys_placed : All IsCoordinate axes.ys
  ys_placed = subst (λ (a : GridAxes). All IsCoordinate a.ys) (sym axes_are) (rows_placed i h)

  pub xs_placed : All IsCoordinate axes.xs
  xs_placed = subst (λ (a : GridAxes). All IsCoordinate a.xs) (sym axes_are) (columns_placed i h)

-- ---- levels

-- levels are asked of a shape
abbrev asks : Option Levels → Shape → Bool
asks levels shape = is_some levels || (has_z (coords_of shape) || has_levels (box_of shape))

asks_single : (asked : Option Levels) (height : Option ℤ) → is_some (single_level asked height) ≡ true → is_some asked ≡ true
asks_single None height h = h
asks_single (Some asked) height h = refl

or_left : (b c : Bool) → b ≡ true → (b || c) ≡ true
or_left true c h = refl
or_left false c h = cc

or_right : (b c : Bool) → c ≡ true → (b || c) ≡ true
or_right true c h = refl
or_right false c h = h

some_axis : (zs : Option (List ℤ)) (b : Bool) → b ≡ true → (b && not (is_some zs)) ≡ false → IsSome zs
some_axis zs true e h = of_not (is_some zs) h
  where
    of_not : (b : Bool) → not b ≡ false → b ≡ true
    of_not true h = refl
    of_not false h = cc
some_axis zs false e h = absurd (false≢true e)

-- where the segments have levels there is an axis of them
pub level_there : (q : QueryValue) (i : InstanceValue) (line : Geometry) (width : ℤ) (height : Option ℤ) → q.shape ≡ at.Corridor line width height → lacks_levels q i ≡ false
    → needs_level (segments_of q line width height) ≡ true → IsSome i.zs
level_there q i line width height shape lacks needs = some_axis i.zs (asks q.levels q.shape) (ap (asks q.levels) shape ∙ here (has_z_of line) refl needs) lacks
  where
    here : (b : Bool) → has_z_of line ≡ b → (b || is_some (single_level q.levels height)) ≡ true → asks q.levels (at.Corridor line width height) ≡ true
    here true e h = or_right (is_some q.levels) (has_z_of line || false) (or_left (has_z_of line) false e)
    here false e h = or_left (is_some q.levels) (has_z_of line || false) (asks_single q.levels height h)

pub levels_there : (c : CollectionValue) (q : QueryValue) (i : InstanceValue) (corridor : CorridorValue) (along : IsCorridorIn c q i corridor) (axes : GridAxes) → axes ≡ axes_of i
    → lacks_levels q i ≡ false → needs_level corridor.segments ≡ true → IsSome axes.zs
levels_there c q i corridor along axes axes_are lacks needs =
    subst (λ (a : GridAxes). IsSome a.zs) (sym axes_are)
    (level_there q i along.line along.width along.height along.shape lacks (sym (ap needs_level along.is.segments) ∙ needs))

-- ---- sides

module _ (i : InstanceValue) (corridor : CorridorValue) (axes : GridAxes) (axes_are : axes ≡ axes_of i) (parameters : List ℕ) (found : Option SidesValue)
    (is : MatchOption found (NoneTaken (counts_of axes) (corridors.takes corridor axes)) (AreSidesOrMore parameters (counts_of axes) (corridors.takes corridor axes))) where
  abbrev Found : GridAxes → Option SidesValue → Type 0
  Found a o = MatchOption o (NoneTaken (counts_of a) (corridors.takes corridor a)) (AreSidesOrMore parameters (counts_of a) (corridors.takes corridor a))

  there : Found (axes_of i) found
  there = subst (λ (a : GridAxes). Found a found) axes_are is

  pub none_found : found ≡ None → NoneTaken (counts_of (axes_of i)) (corridors.takes corridor (axes_of i))
  none_found e = subst (λ (o : Option SidesValue). Found (axes_of i) o) e there

  pub sides_found : (sides : SidesValue) → found ≡ Some sides → AreSidesOrMore parameters (counts_of (axes_of i)) (corridors.takes corridor (axes_of i)) sides
  sides_found sides e = subst (λ (o : Option SidesValue). Found (axes_of i) o) e there

-- sides of few enough values are small
pub are_small : (i : InstanceValue) (corridor : CorridorValue) (h : HasGrid i) (sides : SidesValue)
    → AreSidesOf (counts_of (axes_of i)) (corridors.takes corridor (axes_of i)) sides → (parameters : List ℕ) → parameters ≢ [] → HasNodes sides
    → nat_lt value_limit (stacked_count parameters sides) ≡ false → IsSmall sides
are_small i corridor h sides are parameters some nodes fits =
    let few = is_few i h in
    record {
      planes = nodes_fit parameters sides some nodes fits;
      rows = omega (arith, are.rows.inside, few.rows);
      columns = omega (arith, are.columns.inside, few.columns);
    }
