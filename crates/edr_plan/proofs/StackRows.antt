-- The places of a stack of one row and one column, time by time.
use Rattle.std.proofs.Common.{◌≡◌, ℕ, ◌+◌, ◌-◌, ◌*◌, ◌<◌, Bool, false, List, ◌++◌, length, take, drop, ap, ap₂, sym, ◌∙◌, arith, get_or-take, get_or-drop, append-nil}
use Rattle.std.specs.declared.option.Option.{Option}
use Rattle.std.specs.Prelude.{map}
use Rattle.std.specs.List.{flat_map, range_with_len, slice_index_or}
use Rattle.std.proofs.lemmas.Grind.{flat_map-append}
use Rattle.edr_station.specs.Stations.{StationValue}
use Rattle.edr_axes.specs.Axes.{axis_length}
use Rattle.edr_select.specs.ListLaws.{range-append, map_agree_in, all_member}
use Rattle.edr_select.specs.KeptLaws.{all_below}
use Rattle.edr_select.specs.Stacks.{StackValue}
use Rattle.edr_plan.specs.StationPlaces.{cell_of, cell_if}
use Rattle.edr_plan.specs.CorridorPlans.{bit_at, cells_at}

-- with one time more
flat_more : {X : Type 0} (f : ℕ → List X) (k : ℕ) → flat_map f (range_with_len 0 (k + 1)) ≡ flat_map f (range_with_len 0 k) ++ f k
flat_more f k =
    ap (flat_map f) (range-append 0 k 1)
    ∙ (flat_map-append f (range_with_len 0 k) (range_with_len (0 + k) 1) ∙ ap (λ ys. flat_map f (range_with_len 0 k) ++ ys) (append-nil (f (0 + k)) ∙ ap f (none k)))
  where
    none : (k : ℕ) → 0 + k ≡ k
    none k = omega arith

module _ (s : StationValue) (stack : StackValue) where
  abbrev row_of : ℕ → List (Option ℕ)
  row_of i =
      map (λ j. cell_if (bit_at stack i j) (cell_of s (slice_index_or stack.sides.times i 0) (slice_index_or stack.sides.levels j 0))) (range_with_len 0 (length stack.sides.levels))

  -- the places of a time are those of its part of the truth values
  abbrev part : ℕ → ℕ → List Bool → List Bool
  part i levels taken = take (i * levels + levels - i * levels) (drop (i * levels) taken)

  read_part : (i levels j : ℕ) (taken : List Bool) → j < levels → slice_index_or (part i levels taken) j false ≡ slice_index_or taken (i * levels + j) false
  read_part i levels j taken inside = get_or-take (i * levels + levels - i * levels) (drop (i * levels) taken) j false (omega (arith, inside)) ∙ get_or-drop (i * levels) taken j false

  row_is : (i : ℕ) → cells_at (slice_index_or stack.sides.times i 0 * axis_length s.zs) stack.sides.levels (part i (length stack.sides.levels) stack.mask) ≡ row_of i
  row_is i =
      map_agree_in
      (λ j. cell_if (slice_index_or (part i (length stack.sides.levels) stack.mask) j false) (slice_index_or stack.sides.times i 0 * axis_length s.zs + slice_index_or stack.sides.levels j 0))
      (λ j. cell_if (bit_at stack i j) (cell_of s (slice_index_or stack.sides.times i 0) (slice_index_or stack.sides.levels j 0))) (range_with_len 0 (length stack.sides.levels))
      (λ j m. ap (λ b. cell_if b (cell_of s (slice_index_or stack.sides.times i 0) (slice_index_or stack.sides.levels j 0)))
      (read_part i (length stack.sides.levels) j stack.mask (all_member (λ k. k < length stack.sides.levels) (range_with_len 0 (length stack.sides.levels)) j (all_below (length stack.sides.levels)) m)))

  pub row_added : (times levels : List ℕ) (taken : List Bool) (along : ℕ) → times ≡ stack.sides.times → levels ≡ stack.sides.levels → taken ≡ stack.mask → along ≡ axis_length s.zs
      → (i : ℕ) (old new : List (Option ℕ)) → old ≡ flat_map row_of (range_with_len 0 i)
      → new ≡ old ++ cells_at (slice_index_or times i 0 * along) levels (part i (length levels) taken) → new ≡ flat_map row_of (range_with_len 0 (i + 1))
  row_added times levels taken along is_times is_levels is_taken is_along i old new so_far added =
      added
      ∙ (ap₂ (λ ts w. old ++ cells_at (slice_index_or ts i 0 * w) levels (part i (length levels) taken)) is_times is_along
      ∙ (ap₂ (λ ls tk. old ++ cells_at (slice_index_or stack.sides.times i 0 * axis_length s.zs) ls (part i (length ls) tk)) is_levels is_taken
      ∙ (ap₂ (λ xs ys. xs ++ ys) so_far (row_is i) ∙ sym (flat_more row_of i))))
