-- The values of an axis at places that rise are an axis of the same name.
use Rattle.std.proofs.Common.{◌≡◌, ◌≢◌, ℕ, ◌+◌, ◌<◌, ◌≤◌, ◌<ℤ◌, List, [], length, ap, sym, subst, arith, All, ℤ, pos, get_or}
use Rattle.std.specs.Prelude.{map}
use Rattle.std.specs.List.{range_with_len}
use Rattle.std.proofs.lemmas.List.{length-map, get_or-map}
use Rattle.std.proofs.lemmas.List.FromFn.{length-range_with_len, get_or-range_with_len}
use Rattle.edr_axes.specs.Axes.{value_at, IsAscending, IsAxis}
use Rattle.edr_axes.specs.AxisLaws.{ascending_far}
use Rattle.covjson_value.specs.declared.domains.CoordinateName.{CoordinateName}
use Rattle.covjson_value.specs.Coverages.{IsAxisValue, IsNamedAxis}
use Rattle.edr_select.specs.Listings.{NumbersRise}
use Rattle.edr_select.specs.LevelLaws.{some_length}

part_is_axis : (values : List ℤ) (places : List ℕ) → IsAscending values → All (λ place. place < length values) places → NumbersRise places → places ≢ []
    → IsAxis (map (value_at values) places)
part_is_axis values places ascend inside rise some = record {
  some = omega (arith, some_length places some, length-map places (value_at values));
  ascending = λ k l.
      let next : k + 1 < length places = omega (arith, l, length-map places (value_at values)) in
      let here : value_at (map (value_at values) places) k ≡ value_at values (get_or places k 0) = get_or-map (value_at values) places k 0 (pos 0) (omega (arith, next)) in
      let there : value_at (map (value_at values) places) (k + 1) ≡ value_at values (get_or places (k + 1) 0) = get_or-map (value_at values) places (k + 1) 0 (pos 0) next in
      subst (λ (v : ℤ). v <ℤ value_at (map (value_at values) places) (k + 1)) (sym here)
      (subst (λ (v : ℤ). value_at values (get_or places k 0) <ℤ v) (sym there)
      (ascending_far values ascend (get_or places k 0) (get_or places (k + 1) 0) (rise k (k + 1) 0 (omega arith) next) (inside (k + 1) 0 next)));
}

part_within : (P : ℤ → Type 0) (values : List ℤ) (places : List ℕ) → All P values → All (λ place. place < length values) places → All P (map (value_at values) places)
part_within P values places all inside k d l =
    let below : k < length places = omega (arith, l, length-map places (value_at values)) in
    subst P (sym (get_or-map (value_at values) places k 0 d below)) (all (get_or places k 0) (pos 0) (inside k 0 below))

pub part_is_named : (name : CoordinateName) (values : List ℤ) (places : List ℕ) → IsNamedAxis name values → All (λ place. place < length values) places → NumbersRise places → places ≢ []
    → IsNamedAxis name (map (value_at values) places)
part_is_named name values places axis inside rise some = record {
  ascending = part_is_axis values places axis.ascending.ascending inside rise some;
  within = part_within (IsAxisValue name) values places axis.within inside;
}

-- ---- so many places from one on

pub run_inside : (first many n : ℕ) → first + many ≤ n → All (λ place. place < n) (range_with_len first many)
run_inside first many n h k d l =
    let below : k < many = omega (arith, l, length-range_with_len first many) in
    omega (arith, get_or-range_with_len first many k d below, below, h)

pub run_rises : (first many : ℕ) → NumbersRise (range_with_len first many)
run_rises first many k l d lt within =
    let below : l < many = omega (arith, within, length-range_with_len first many) in
    omega (arith, get_or-range_with_len first many k d (omega (arith, lt, below)), get_or-range_with_len first many l d below, lt)

pub run_some : (first many : ℕ) → 1 ≤ many → range_with_len first many ≢ []
run_some first many h none = absurd (omega (arith, h, ap (λ (ns : List ℕ). length ns) none, length-range_with_len first many))
