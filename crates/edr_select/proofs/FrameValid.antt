-- A framing over a frame with some values is one, and its coverage is valid over a grid of samples.
use Rattle.std.proofs.Common.{◌≡◌, ℕ, ◌*◌, ◌<◌, ◌≤◌, List, length, refl, ap, ap₂, ◌∙◌, subst, arith, mul-one, Some, ℤ}
use Rattle.std.specs.Prelude.{map, ◌&&◌, int_le}
use Rattle.std.specs.List.{filter, list_any, range_with_len}
use Rattle.std.proofs.lemmas.Bool.{false≢true}
use Rattle.std.proofs.lemmas.List.{length-map}
use Rattle.std.proofs.lemmas.List.FromFn.{length-range_with_len}
use Rattle.edr_axes.specs.Axes.{value_at, axis_length}
use Rattle.covjson_value.specs.declared.domains.CoordinateName.{CoordinateName}
use Rattle.covjson_value.specs.declared.domains.CoordinateName.TheVariants.{T, Z, Y, X}
use Rattle.covjson_value.specs.declared.domains.Domain.{Domain}
use Rattle.covjson_value.specs.CountLaws.{count_is}
use Rattle.covjson_value.specs.Domains.{count_of}
use Rattle.covjson_value.specs.Coverages.{IsNamedAxis, IsReferencing, HasAxes, HasTuples}
use Rattle.edr_edition.specs.Values.{InstanceValue}
use Rattle.edr_edition.specs.Instances.{HasGrid}
use Rattle.edr_edition.specs.Stores.{Subject}
use Rattle.edr_query.specs.Values.{QueryValue}
use Rattle.edr_select.specs.Samples.{Stored, id_at}
use Rattle.edr_select.specs.Wanted.{takes_time, takes_level, levels_asked}
use Rattle.edr_select.specs.Selections.{is_asked}
use Rattle.edr_select.specs.Choices.{TakesEach, Chosen, chosen, IsSome}
use Rattle.edr_corridor.specs.Boxes.{level_at}
use Rattle.edr_select.specs.Framings.{FrameValue, node_count, IsFrame, IsFraming}
use Rattle.edr_select.specs.Masks.{MaskValue, IsMask, frame_with}
use Rattle.edr_select.specs.AreaPlans.{domain_over}
use Rattle.edr_select.specs.GridLaws.{IsGrid}
use Rattle.edr_select.proofs.Instances.{grid_from}
use Rattle.edr_select.proofs.Picks.{picks_at}
use Rattle.edr_select.proofs.ChosenLaws as laws
use Rattle.edr_select.specs.ParameterLaws.{parameter_at}
use Rattle.edr_select.proofs.Coverages.{chosen_parameters, head_over}
use Rattle.edr_select.specs.HeadLaws.{named_axis_filter, asked_are, asked_ascend, head_is}
use Rattle.edr_select.specs.RiseLaws.{numbers_rise}
use Rattle.edr_select.specs.LevelLaws.{level_axis, level_count, some_length}
use Rattle.edr_select.proofs.PlannedLaws.{time_axis}
use Rattle.edr_select.proofs.PlanForms.{all_from_members}
use Rattle.edr_select.proofs.FrameHeads.{rows_are, columns_are}

-- ---- what is planned over a frame

no_tuples : (i : InstanceValue) (frame : FrameValue) → HasTuples (domain_over i frame)
no_tuples i frame = record { tuples = tt; once = λ name among. absurd (false≢true among) }

module _ (s : Subject) (q : QueryValue) (i : InstanceValue) (each : TakesEach q.shape) (h : HasGrid i) (referencing : IsReferencing s.collection.referencing) (mask : MaskValue)
    (m : IsMask i q.shape mask) (some : IsSome (chosen i q)) where
  abbrev c : Chosen
  c = chosen i q

  abbrev frame : FrameValue
  frame = frame_with i q mask

  abbrev domain : Domain
  domain = domain_over i frame

  abbrev picks : List Stored
  picks = picks_at i q

  g : IsGrid i
  g = grid_from i h

  -- a part of an axis
  part_axis : (name : CoordinateName) (along : Stored → ℤ) (values : List ℤ) (first many : ℕ) → IsNamedAxis name values → 1 ≤ many
      → filter (λ v. list_any (λ s. int_le (along s) v) picks && list_any (λ s. int_le v (along s)) picks) values ≡ map (value_at values) (range_with_len first many)
      → IsNamedAxis name (map (value_at values) (range_with_len first many))
  part_axis name along values first many axis few are =
      subst (IsNamedAxis name) are
      (named_axis_filter name (λ v. list_any (λ s. int_le (along s) v) picks && list_any (λ s. int_le v (along s)) picks) values axis
      (omega (arith, few, ap (λ (vs : List ℤ). length vs) are, length-map (range_with_len first many) (value_at values), length-range_with_len first many)))

  axes : HasAxes domain
  axes T = time_axis s q i each h referencing some
  axes Z = level_axis (levels_asked q) i.zs h.zs some.levels
  axes Y = part_axis Y (λ (s : Stored). s.sample.at.y) i.ys mask.row mask.rows h.ys m.some_rows (rows_are i q each g mask m some)
  axes X = part_axis X (λ (s : Stored). s.sample.at.x) i.xs mask.column mask.columns h.xs m.some_columns (columns_are i q each g mask m some)

  part_length : (values : List ℤ) (first many : ℕ) → length (map (value_at values) (range_with_len first many)) ≡ many
  part_length values first many = length-map (range_with_len first many) (value_at values) ∙ length-range_with_len first many

  counted : count_of domain ≡ node_count frame
  counted =
      count_is domain
      ∙ (ap₂ (λ a b. a * (b * (length (map (value_at i.ys) (range_with_len mask.row mask.rows)) * (length (map (value_at i.xs) (range_with_len mask.column mask.columns)) * 1))))
      (length-map c.times (value_at i.ts)) (level_count (levels_asked q) i.zs some.levels)
      ∙ ap₂ (λ a b. length c.times * (length c.levels * (a * b))) (part_length i.ys mask.row mask.rows)
      (mul-one (length (map (value_at i.xs) (range_with_len mask.column mask.columns))) ∙ part_length i.xs mask.column mask.columns))

  pub frame_is : IsFrame i.grid.shape frame
  frame_is = record {
    times = all_from_members (λ t. t < i.grid.shape.times) c.times (λ t mt. omega (arith, laws.time_below i q each g t mt, g.times));
    times_rise = numbers_rise (λ t. takes_time q.times (Some (value_at i.ts t))) 0 (length i.ts);
    levels = all_from_members (λ z. z < i.grid.shape.levels) c.levels (λ z mz. omega (arith, laws.level_below i q each g z mz, g.levels));
    levels_rise = numbers_rise (λ z. takes_level (levels_asked q) (level_at i.zs z)) 0 (axis_length i.zs);
    rows = omega (arith, m.rows, g.rows);
    columns = omega (arith, m.columns, g.columns);
    left = m.left;
    right = m.right;
    mask = m.full;
  }

  some_parameters : 0 < length (chosen_parameters i c)
  some_parameters = omega (arith, some_length c.parameters some.parameters, length-map c.parameters (parameter_at i.parameters))

  pub framing_is : IsFraming (record { shape = i.grid.shape; parameters = c.parameters; head = head_over s i c domain; frame = frame })
  framing_is = record {
    shape = h.is_shape;
    parameters = all_from_members (λ p. p < i.grid.shape.parameters) c.parameters (λ p mp. omega (arith, laws.parameter_below i q each g p mp, g.parameters));
    parameters_rise = numbers_rise (λ p. is_asked q.parameters (id_at i.parameters p)) 0 (length i.parameters);
    head = head_is s domain (chosen_parameters i c) referencing axes (no_tuples i frame) some_parameters
        (asked_are q.parameters i.parameters h.parameters) (asked_ascend q.parameters i.parameters h.ascending);
    bare = refl;
    as_many = length-map c.parameters (parameter_at i.parameters);
    count = counted;
    frame = frame_is;
  }
