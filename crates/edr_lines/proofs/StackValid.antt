-- A stacking over the sides of a test of nodes is one, and its coverage is valid over a grid of samples.
use Rattle.std.proofs.Common.{◌≡◌, ◌≢◌, ℕ, ◌*◌, ◌<◌, List, [], ◌∷◌, length, refl, ap, ap₂, sym, ◌∙◌, subst, arith, mul-one, ℤ, None, Some, IfSome, All}
use Rattle.std.specs.declared.option.Option.{Option}
use Rattle.std.specs.Prelude.{map, option_map}
use Rattle.std.specs.List.{range_with_len}
use Rattle.std.proofs.Math.Nat.{mul_assoc}
use Rattle.std.proofs.lemmas.Bool.{false≢true}
use Rattle.std.proofs.lemmas.List.{length-map}
use Rattle.std.proofs.lemmas.List.Elements.{All-filter}
use Rattle.std.proofs.lemmas.List.FromFn.{length-range_with_len}
use Rattle.edr_axes.specs.Axes.{value_at, axis_length}
use Rattle.covjson_value.specs.declared.domains.CoordinateName.TheVariants.{T, Z, Y, X}
use Rattle.covjson_value.specs.declared.domains.Domain.{Domain}
use Rattle.covjson_value.specs.CountLaws.{count_is}
use Rattle.covjson_value.specs.Domains.{count_of}
use Rattle.covjson_value.specs.Coverages.{IsNamedAxis, IsReferencing, HasAxes, HasTuples}
use Rattle.covjson_write.specs.Writers.{IsHead}
use Rattle.edr_edition.specs.Values.{InstanceValue}
use Rattle.edr_edition.specs.Instances.{HasGrid}
use Rattle.edr_edition.specs.Stores.{Subject}
use Rattle.edr_query.specs.Values.{QueryValue}
use Rattle.edr_select.specs.Samples.{id_at}
use Rattle.edr_select.specs.Selections.{is_asked}
use Rattle.edr_select.specs.Listings.{NumbersRise}
use Rattle.edr_select.specs.Planned.{head_of, parameters_at}
use Rattle.edr_select.specs.Stacks.{SidesValue, StackValue, stack_count, IsStacking}
use Rattle.edr_select.specs.ListLaws.{Member, no_member}
use Rattle.edr_select.specs.KeptLaws.{all_below}
use Rattle.edr_select.specs.GridLaws.{IsGrid}
use Rattle.edr_select.specs.ParameterLaws.{parameter_at}
use Rattle.edr_select.specs.HeadLaws.{asked_are, asked_ascend, head_is}
use Rattle.edr_select.specs.LevelLaws.{some_length}
use Rattle.edr_select.specs.RiseLaws.{numbers_rise}
use Rattle.edr_lines.specs.Plans.{axes_of, domain_over}
use Rattle.edr_lines.specs.Taken.{Counts, counts_of, NodeTest, AreSidesOf, HasBits}
use Rattle.edr_lines.proofs.LineGrids.{grid_from}
use Rattle.edr_lines.proofs.AxisParts.{part_is_named, run_inside, run_rises, run_some}
use Rattle.edr_lines.proofs.StackSides.{same_levels, has_nodes, times_inside, levels_inside, times_rise, levels_rise, sides_inside, one_level}
use Rattle.edr_lines.proofs.StackCoverages.{asked_places, stacking_over}

no_tuples : (i : InstanceValue) (sides : SidesValue) → HasTuples (domain_over i sides)
no_tuples i sides = record { tuples = tt; once = λ name among. absurd (false≢true among) }

-- the axis of the levels, where there is one
levels_named : (zs : Option (List ℤ)) (levels : List ℕ) → IfSome zs (IsNamedAxis Z) → All (λ z. z < axis_length zs) levels → NumbersRise levels → levels ≢ []
    → IfSome (option_map (λ values. map (value_at values) levels) zs) (IsNamedAxis Z)
levels_named None levels h inside rise some = tt
levels_named (Some values) levels h inside rise some = part_is_named Z values levels h inside rise some

levels_counted : (zs : Option (List ℤ)) (levels : List ℕ) → (zs ≡ None → levels ≡ 0 ∷ []) → axis_length (option_map (λ values. map (value_at values) levels) zs) ≡ length levels
levels_counted None levels one = sym (ap (λ (ls : List ℕ). length ls) (one refl))
levels_counted (Some values) levels one = length-map levels (value_at values)

part_length : (values : List ℤ) (first many : ℕ) → length (map (value_at values) (range_with_len first many)) ≡ many
part_length values first many = length-map (range_with_len first many) (value_at values) ∙ length-range_with_len first many

-- the places of the parameters that are asked lie among all
pub asked_below : (q : QueryValue) (i : InstanceValue) → All (λ p. p < length i.parameters) (asked_places q i)
asked_below q i = All-filter (λ p. is_asked q.parameters (id_at i.parameters p)) (λ p. p < length i.parameters) (range_with_len 0 (length i.parameters)) (all_below (length i.parameters))

module _ (s : Subject) (q : QueryValue) (i : InstanceValue) (h : HasGrid i) (referencing : IsReferencing s.collection.referencing) (takes : NodeTest)
    (sides : SidesValue) (are : AreSidesOf (counts_of (axes_of i)) takes sides) where
  abbrev n : Counts
  n = counts_of (axes_of i)

  abbrev domain : Domain
  domain = domain_over i sides

  g : IsGrid i
  g = grid_from i h

  axes : HasAxes domain
  axes T = part_is_named T i.ts sides.times h.ts (times_inside n takes sides are) (times_rise n takes sides are) (has_nodes n takes sides are).times
  axes Z =
      levels_named i.zs sides.levels h.zs (subst (λ (count : ℕ). All (λ z. z < count) sides.levels) (same_levels i.zs) (levels_inside n takes sides are))
      (levels_rise n takes sides are) (has_nodes n takes sides are).levels
  axes Y =
      part_is_named Y i.ys (range_with_len sides.row sides.rows) h.ys (run_inside sides.row sides.rows (length i.ys) are.rows.inside) (run_rises sides.row sides.rows)
      (run_some sides.row sides.rows are.rows.some)
  axes X =
      part_is_named X i.xs (range_with_len sides.column sides.columns) h.xs (run_inside sides.column sides.columns (length i.xs) are.columns.inside) (run_rises sides.column sides.columns)
      (run_some sides.column sides.columns are.columns.some)

  pub counted : count_of domain ≡ stack_count sides
  counted =
      count_is domain
      ∙ (ap₂ (λ a b. a * (b * (length (map (value_at i.ys) (range_with_len sides.row sides.rows)) * (length (map (value_at i.xs) (range_with_len sides.column sides.columns)) * 1))))
      (length-map sides.times (value_at i.ts)) (levels_counted i.zs sides.levels (one_level i g takes sides are))
      ∙ (ap₂ (λ a b. length sides.times * (length sides.levels * (a * b))) (part_length i.ys sides.row sides.rows)
      (mul-one (length (map (value_at i.xs) (range_with_len sides.column sides.columns))) ∙ part_length i.xs sides.column sides.columns)
      ∙ sym (mul_assoc (length sides.times) (length sides.levels) (sides.rows * sides.columns))))

  some_parameters : Member (asked_places q i) → 0 < length (map (parameter_at i.parameters) (asked_places q i))
  some_parameters some =
      omega (arith, some_length (asked_places q i) (λ none. no_member (asked_places q i) some.item none some.among), length-map (asked_places q i) (parameter_at i.parameters))

  -- the head of the coverage over them
  pub head_valid : Member (asked_places q i) → IsHead (head_of s.collection.referencing (parameters_at i.parameters (asked_places q i)) domain)
  head_valid some =
      head_is s domain (map (parameter_at i.parameters) (asked_places q i)) referencing axes (no_tuples i sides) (some_parameters some)
      (asked_are q.parameters i.parameters h.parameters) (asked_ascend q.parameters i.parameters h.ascending)

-- a stacking over them
pub stacking_is : (s : Subject) (q : QueryValue) (i : InstanceValue) (h : HasGrid i) → IsReferencing s.collection.referencing → (takes : NodeTest) (stack : StackValue)
    → AreSidesOf (counts_of (axes_of i)) takes stack.sides → HasBits takes stack → Member (asked_places q i) → IsStacking (stacking_over s q i stack)
stacking_is s q i h referencing takes stack are bits some = record {
  shape = h.is_shape;
  parameters = subst (λ (count : ℕ). All (λ p. p < count) (asked_places q i)) (sym (grid_from i h).parameters) (asked_below q i);
  parameters_rise = numbers_rise (λ p. is_asked q.parameters (id_at i.parameters p)) 0 (length i.parameters);
  head = head_valid s q i h referencing takes stack.sides are some;
  bare = refl;
  as_many = length-map (asked_places q i) (parameter_at i.parameters);
  count = counted s q i h referencing takes stack.sides are;
  stack = record { sides = sides_inside i (grid_from i h) takes stack.sides are; mask = bits.full };
}
