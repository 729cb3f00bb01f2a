-- The domain of the frame of what a query picks that selects by a test of nodes.
use Rattle.std.proofs.Common.{◌≡◌, ℕ, ◌+◌, ◌-◌, ◌<◌, Bool, true, List, length, refl, ap, ap₂, sym, ◌∙◌, subst, arith, ℤ, None, Some}
use Rattle.std.specs.declared.option.Option.{Option}
use Rattle.std.specs.Prelude.{map, option_map, IfSome}
use Rattle.std.specs.List.{filter, list_any, range_with_len}
use Rattle.std.specs.Ordering.{int_eq}
use Rattle.std.proofs.lemmas.Bool.Decides.{Decides-int_eq}
use Rattle.edr_axes.specs.Axes.{value_at, IsAxis, axis_length}
use Rattle.edr_axes.specs.AxisLaws.{ascending_once}
use Rattle.covjson_value.specs.declared.domains.Domain.TheVariants.{Grid}
use Rattle.covjson_value.specs.Samples.{same_where_given}
use Rattle.edr_chunk.specs.AllPlaces.{at}
use Rattle.edr_corridor.specs.Boxes.{level_at}
use Rattle.edr_edition.specs.Values.{InstanceValue}
use Rattle.edr_edition.specs.Stores.{of_grid, Subject}
use Rattle.edr_query.specs.Values.{QueryValue}
use Rattle.edr_select.specs.Samples.{Stored, stored_at}
use Rattle.edr_select.specs.Selections.{picked, is_asked}
use Rattle.edr_select.specs.Heads.{times_in, levels_in, spanned, frame_of}
use Rattle.edr_select.specs.Choices.{parameter_places}
use Rattle.edr_select.specs.Samples.{id_at}
use Rattle.edr_select.specs.Stacks.{SidesValue}
use Rattle.edr_select.specs.ListLaws.{both, Member}
use Rattle.edr_select.specs.KeptLaws.{kept_agree, kept_below, kept_passes, filter_by_places}
use Rattle.edr_select.specs.GridLaws.{IsGrid}
use Rattle.edr_select.specs.SpanLaws.{Spans, spanned_is}
use Rattle.edr_lines.specs.Plans.{axes_of, domain_over}
use Rattle.edr_lines.specs.Taken.{Counts, counts_of, NodeTest, some_at_time, some_at_level, some_in_row, some_in_column, IsSpan, AreSidesOf}
use Rattle.edr_lines.proofs.PassingNodes.{time_some, level_some, row_some, column_some, at_time, at_level, at_row, at_column}
use Rattle.edr_lines.proofs.TestedPicks.{SelectsBy, Pick, pick_found, found_pick}

same_value : (k l : ℤ) → int_eq k l ≡ true → k ≡ l
same_value k l h = (Decides-int_eq k l).0 h

-- ---- what occurs in what is picked

module _ (s : Subject) (q : QueryValue) (i : InstanceValue) (held : s.held ≡ of_grid i) (g : IsGrid i) (takes : NodeTest) (selects : SelectsBy s q i takes)
    (some : Member (parameter_places q.parameters i.parameters)) where
  abbrev n : Counts
  n = counts_of (axes_of i)

  abbrev picks : List Stored
  picks = picked s q

  same_levels : (zs : Option (List ℤ)) → axis_length zs ≡ axis_length zs
  same_levels None = refl
  same_levels (Some values) = refl

  -- a sample of each node that passes is picked
  node_picked : (u : Stored → Bool) (t z y x : ℕ) → t < n.times → z < n.levels → y < n.rows → x < n.columns → takes t z y x ≡ true
      → u (stored_at i (at some.item t z y x)) ≡ true → list_any u picks ≡ true
  node_picked u t z y x ht hz hy hx h passes =
      let p : some.item < length i.parameters = kept_below (λ p. is_asked q.parameters (id_at i.parameters p)) (length i.parameters) some.item some.among in
      found_pick s q i held g takes selects u (at some.item t z y x)
      (record { parameter = omega (arith, p, g.parameters); t = omega (arith, ht, g.times); z = omega (arith, hz, g.levels, same_levels i.zs); y = omega (arith, hy, g.rows); x = omega (arith, hx, g.columns) })
      (record { asked = kept_passes (λ p. is_asked q.parameters (id_at i.parameters p)) (length i.parameters) some.item some.among; node = h })
      passes

  pick_of : (u : Stored → Bool) → list_any u picks ≡ true → Pick q i takes u
  pick_of u h = pick_found s q i held g takes selects u h

  time_test : (k : ℕ) → k < n.times → list_any (λ (x : Stored). same_where_given x.sample.at.t (Some (value_at i.ts k))) picks ≡ some_at_time n takes k
  time_test k inside =
      both (list_any (λ (x : Stored). same_where_given x.sample.at.t (Some (value_at i.ts k))) picks) (some_at_time n takes k)
      (λ h. let f = pick_of (λ (x : Stored). same_where_given x.sample.at.t (Some (value_at i.ts k))) h in
      let same : f.place.t ≡ k = ascending_once i.ts g.ts.ascending f.place.t k (omega (arith, f.within.t, g.times)) inside (same_value (value_at i.ts f.place.t) (value_at i.ts k) f.passes) in
      ap (some_at_time n takes) (sym same)
      ∙ time_some n takes f.place.t f.place.z f.place.y f.place.x (omega (arith, f.within.t, g.times)) (omega (arith, f.within.z, g.levels, same_levels i.zs)) (omega (arith, f.within.y, g.rows)) (omega (arith, f.within.x, g.columns)) f.taken.node)
      (λ h. let a = at_time n takes k h in
      node_picked (λ (x : Stored). same_where_given x.sample.at.t (Some (value_at i.ts k))) k a.z a.y a.x inside a.z_in a.y_in a.x_in a.passes ((Decides-int_eq (value_at i.ts k) (value_at i.ts k)).1 refl))

  -- the times
  pub times_are : times_in picks i.ts ≡ map (value_at i.ts) (filter (some_at_time n takes) (range_with_len 0 n.times))
  times_are =
      filter_by_places (λ t. list_any (λ (x : Stored). same_where_given x.sample.at.t (Some t)) picks) i.ts
      ∙ ap (map (value_at i.ts)) (kept_agree (λ k. list_any (λ (x : Stored). same_where_given x.sample.at.t (Some (value_at i.ts k))) picks) (some_at_time n takes) 0 (length i.ts)
      (λ k low high. time_test k (omega (arith, high))))

  same_given : (v : Option ℤ) (l : ℤ) → same_where_given v (Some l) ≡ true → v ≡ Some l
  same_given None l h = cc
  same_given (Some v) l h = ap Some (same_value v l h)

  -- the levels, where there is an axis of them
  levels_on : (values : List ℤ) → i.zs ≡ Some values → levels_in picks values ≡ map (value_at values) (filter (some_at_level n takes) (range_with_len 0 (length values)))
  levels_on values zs =
      filter_by_places (λ l. list_any (λ (x : Stored). same_where_given x.sample.at.z (Some l)) picks) values
      ∙ ap (map (value_at values)) (kept_agree (λ k. list_any (λ (x : Stored). same_where_given x.sample.at.z (Some (value_at values k))) picks) (some_at_level n takes) 0 (length values)
      (λ k low high. level_test k (omega (arith, high))))
    where
      axis : IsAxis values
      axis = subst (λ (o : Option (List ℤ)). IfSome o IsAxis) zs g.zs

      count : n.levels ≡ length values
      count = ap axis_length zs

      there : (k : ℕ) → level_at i.zs k ≡ Some (value_at values k)
      there k = ap (λ o. level_at o k) zs

      level_test : (k : ℕ) → k < length values → list_any (λ (x : Stored). same_where_given x.sample.at.z (Some (value_at values k))) picks ≡ some_at_level n takes k
      level_test k inside =
          both (list_any (λ (x : Stored). same_where_given x.sample.at.z (Some (value_at values k))) picks) (some_at_level n takes k)
          (λ h. let f = pick_of (λ (x : Stored). same_where_given x.sample.at.z (Some (value_at values k))) h in
          let z_in : f.place.z < n.levels = omega (arith, f.within.z, g.levels, same_levels i.zs) in
          let level : value_at values f.place.z ≡ value_at values k = some_same (sym (there f.place.z) ∙ same_given (level_at i.zs f.place.z) (value_at values k) f.passes) in
          let same : f.place.z ≡ k = ascending_once values axis.ascending f.place.z k (omega (arith, z_in, count)) inside level in
          ap (some_at_level n takes) (sym same)
          ∙ level_some n takes f.place.t f.place.z f.place.y f.place.x (omega (arith, f.within.t, g.times)) z_in (omega (arith, f.within.y, g.rows)) (omega (arith, f.within.x, g.columns)) f.taken.node)
          (λ h. let a = at_level n takes k h in
          node_picked (λ (x : Stored). same_where_given x.sample.at.z (Some (value_at values k))) a.t k a.y a.x a.t_in (omega (arith, inside, count)) a.y_in a.x_in a.passes
          (ap (λ (v : Option ℤ). same_where_given v (Some (value_at values k))) (there k) ∙ (Decides-int_eq (value_at values k) (value_at values k)).1 refl))
        where
          some_same : {a b : ℤ} → Some a ≡ Some b → a ≡ b
          some_same e = cc

  -- the values along an axis of the rows, or of the columns, that occur
  rows_span : (row many : ℕ) → IsSpan (some_in_row n takes) n.rows row many → Spans (λ (x : Stored). x.sample.at.y) picks i.ys row many
  rows_span row many span = record {
    some = span.some;
    inside = span.inside;
    only = λ u h.
        let f = pick_of (λ (x : Stored). u x.sample.at.y) h in
        let y_in : f.place.y < n.rows = omega (arith, f.within.y, g.rows) in
        let here = row_some n takes f.place.t f.place.z f.place.y f.place.x (omega (arith, f.within.t, g.times)) (omega (arith, f.within.z, g.levels, same_levels i.zs)) y_in (omega (arith, f.within.x, g.columns)) f.taken.node in
        record { place = f.place.y; low = span.low f.place.y y_in here; high = span.high f.place.y y_in here; passes = f.passes };
    least = λ u h.
        let a = at_row n takes row span.first_passes in
        node_picked (λ (x : Stored). u x.sample.at.y) a.t a.z row a.x a.t_in a.z_in (omega (arith, span.some, span.inside)) a.x_in a.passes h;
    greatest = λ u h.
        let a = at_row n takes (row + many - 1) span.last_passes in
        node_picked (λ (x : Stored). u x.sample.at.y) a.t a.z (row + many - 1) a.x a.t_in a.z_in (omega (arith, span.some, span.inside)) a.x_in a.passes h;
  }

  columns_span : (column many : ℕ) → IsSpan (some_in_column n takes) n.columns column many → Spans (λ (x : Stored). x.sample.at.x) picks i.xs column many
  columns_span column many span = record {
    some = span.some;
    inside = span.inside;
    only = λ u h.
        let f = pick_of (λ (x : Stored). u x.sample.at.x) h in
        let x_in : f.place.x < n.columns = omega (arith, f.within.x, g.columns) in
        let here = column_some n takes f.place.t f.place.z f.place.y f.place.x (omega (arith, f.within.t, g.times)) (omega (arith, f.within.z, g.levels, same_levels i.zs)) (omega (arith, f.within.y, g.rows)) x_in f.taken.node in
        record { place = f.place.x; low = span.low f.place.x x_in here; high = span.high f.place.x x_in here; passes = f.passes };
    least = λ u h.
        let a = at_column n takes column span.first_passes in
        node_picked (λ (x : Stored). u x.sample.at.x) a.t a.z a.y column a.t_in a.z_in a.y_in (omega (arith, span.some, span.inside)) a.passes h;
    greatest = λ u h.
        let a = at_column n takes (column + many - 1) span.last_passes in
        node_picked (λ (x : Stored). u x.sample.at.x) a.t a.z a.y (column + many - 1) a.t_in a.z_in a.y_in (omega (arith, span.some, span.inside)) a.passes h;
  }

  -- the domain of the frame
  pub frame_is : (sides : SidesValue) → AreSidesOf n takes sides → frame_of i picks ≡ domain_over i sides
  frame_is sides are =
      ap₂ (λ (ts : List ℤ) (zs : Option (List ℤ)). Grid (Some ts) zs (spanned (λ (x : Stored). x.sample.at.y) picks i.ys) (spanned (λ (x : Stored). x.sample.at.x) picks i.xs))
      (times_are ∙ ap (map (value_at i.ts)) (sym are.times)) (levels_are i.zs refl)
      ∙ ap₂ (λ (ys xs : List ℤ). Grid (Some (map (value_at i.ts) sides.times)) (option_map (λ zs. map (value_at zs) sides.levels) i.zs) ys xs)
      (spanned_is (λ (x : Stored). x.sample.at.y) picks i.ys g.ys.ascending sides.row sides.rows (rows_span sides.row sides.rows are.rows))
      (spanned_is (λ (x : Stored). x.sample.at.x) picks i.xs g.xs.ascending sides.column sides.columns (columns_span sides.column sides.columns are.columns))
    where
      levels_are : (zs : Option (List ℤ)) → i.zs ≡ zs → option_map (levels_in picks) zs ≡ option_map (λ values. map (value_at values) sides.levels) zs
      levels_are None e = refl
      levels_are (Some values) e =
          ap Some (levels_on values e ∙ ap (map (value_at values)) (ap (λ m. filter (some_at_level n takes) (range_with_len 0 m)) (sym (ap axis_length e)) ∙ sym are.levels))
