-- What a corridor takes of the axes of the station at a place.
use Rattle.std.proofs.Common.{IsSome, ap, false, length, subst, sym, true, ℕ, ◌<◌, ◌∙◌, ◌≡◌, ◌≤◌}
use Rattle.edr_corridor.specs.BoxLaws.{CorridorsAreCut}
use Rattle.edr_corridor.specs.Boxes.{GridAxes}
use Rattle.edr_corridor.specs.Values.{SegmentsValue, needs_level}
use Rattle.edr_edition.specs.Values.{CollectionValue}
use Rattle.edr_lines.specs.Bits.{IsSmall}
use Rattle.edr_lines.specs.Corridors.{IsCorridorOf}
use Rattle.edr_lines.specs.Taken.{AreSidesOf, HasBits, NoneTaken, counts_of}
use Rattle.edr_query.specs.Values.{QueryValue}
use Rattle.edr_select.specs.Limits.{value_limit}
use Rattle.edr_select.specs.Stacks.{SidesValue, StackValue}
use Rattle.edr_station.specs.Stations.{StationValue, nowhere, station_at}
use Rattle.edr_plan.specs.CorridorPlans.{CorridorValue, HasLevelsWanted, IsFull, IsLineOf, LineValue, axes_of, cells_in, choice_in, takes_along}
use Rattle.edr_plan.specs.StationPlaces.{cells_by, choice_by, has_some, is_taken, takes_at}
use Rattle.edr_plan.specs.StationPlans.{IsChoiceOf, value_count}
use Rattle.edr_plan.proofs.EachTaken.{along_is}
use Rattle.edr_plan.proofs.StationStacks.{cells_are, choice_is, is_full, is_small, none_taken, sides_chosen, some_taken}
use Rattle.edr_lines.specs.Corridors as lines

module _ (cut : CorridorsAreCut) (collection : CollectionValue) (q : QueryValue) (line : LineValue) (is : IsLineOf q line) (k : ℕ) (axes : GridAxes)
    (same : axes ≡ axes_of (station_at collection.stations k)) (corridor : lines.CorridorValue)
    (of : IsCorridorOf q line.corridor.line line.corridor.width line.corridor.height axes corridor) where
  abbrev c : CorridorValue
  c = line.corridor

  abbrev s : StationValue
  s = station_at collection.stations k

  own : IsCorridorOf q c.line c.width c.height (axes_of s) corridor
  own = subst (λ (a : GridAxes). IsCorridorOf q c.line c.width c.height a corridor) same of

  -- what the query takes of it
  test_is : takes_at collection q k ≡ takes_along q c s
  test_is = along_is collection q k c is.shape

  pub none_at : NoneTaken (counts_of axes) (lines.takes corridor axes) → is_taken collection q k ≡ false
  none_at none = ap (has_some s) test_is ∙ none_taken cut q c s corridor own (subst (λ (a : GridAxes). NoneTaken (counts_of a) (lines.takes corridor a)) same none)

  -- where the segments need a level, the station has levels
  pub levels_at : HasLevelsWanted collection.stations line.segments → k < length collection.stations → needs_level corridor.segments ≡ true → IsSome axes.zs
  levels_at wanted inside needs =
      subst (λ (a : GridAxes). IsSome a.zs) (sym same) (wanted (subst (λ (s : SegmentsValue). needs_level s ≡ true) (of.segments ∙ sym is.segments) needs) k nowhere inside)

  module _ (sides : SidesValue) (are : AreSidesOf (counts_of axes) (lines.takes corridor axes) sides) where
    own_sides : AreSidesOf (counts_of (axes_of s)) (lines.takes corridor (axes_of s)) sides
    own_sides = subst (λ (a : GridAxes). AreSidesOf (counts_of a) (lines.takes corridor a) sides) same are

    pub some_at : is_taken collection q k ≡ true
    some_at = ap (has_some s) test_is ∙ some_taken cut q c s corridor own sides own_sides

    pub choice_at : choice_in sides ≡ choice_by s (takes_at collection q k)
    choice_at = choice_is cut q c s corridor own sides own_sides ∙ sym (ap (choice_by s) test_is)

    pub small_at : (parameters : ℕ) → 1 ≤ parameters → value_count parameters (length sides.times) (length sides.levels) ≤ value_limit → IsSmall sides
    small_at = is_small cut q c s corridor own sides own_sides

    module _ (stack : StackValue) (same_sides : stack.sides ≡ sides) where
      pub chosen_at : IsChoiceOf s (choice_in stack.sides)
      chosen_at = subst (λ (sides : SidesValue). IsChoiceOf s (choice_in sides)) (sym same_sides) (sides_chosen cut q c s corridor own sides own_sides)

      module _ (has : HasBits (lines.takes corridor axes) stack) where
        own_bits : HasBits (lines.takes corridor (axes_of s)) stack
        own_bits = subst (λ (a : GridAxes). HasBits (lines.takes corridor a) stack) same has

        pub full_at : IsFull stack
        full_at = is_full cut q c s corridor own sides own_sides stack same_sides own_bits

        pub cells_at : cells_in s stack ≡ cells_by s (takes_at collection q k)
        cells_at = cells_are cut q c s corridor own sides own_sides stack same_sides own_bits ∙ sym (ap (cells_by s) test_is)
