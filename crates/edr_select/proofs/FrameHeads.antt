-- The domain of a frame is that of all nodes between those that are picked, at the times and levels that occur.
use Rattle.std.proofs.Common.{◌≡◌, ℕ, ◌+◌, ◌-◌, ◌<◌, Bool, true, List, length, refl, ap, ap₂, ◌∙◌, arith, ℤ, Option, Some}
use Rattle.std.specs.Prelude.{map}
use Rattle.std.specs.List.{list_any, range_with_len}
use Rattle.edr_axes.specs.Axes.{value_at}
use Rattle.covjson_value.specs.declared.domains.Domain.{Domain}
use Rattle.covjson_value.specs.declared.domains.Domain.TheVariants.{Grid}
use Rattle.edr_chunk.specs.AllPlaces.{at}
use Rattle.edr_edition.specs.Values.{InstanceValue}
use Rattle.edr_edition.specs.Stores.{Held, of_grid, Subject}
use Rattle.edr_query.specs.declared.shapes.Shape.{Shape}
use Rattle.edr_query.specs.declared.shapes.Shape.TheVariants as shapes
use Rattle.edr_query.specs.Values.{QueryValue}
use Rattle.edr_select.specs.Samples.{Stored, stored_at}
use Rattle.edr_select.specs.Selections.{picked}
use Rattle.edr_select.specs.Heads.{alone, without_id, spanned, frame_of, heads_on_grid, heads_of}
use Rattle.edr_select.specs.Choices.{TakesEach, takes_node, Chosen, chosen, IsSome, times_of, levels_of}
use Rattle.edr_select.specs.Masks.{IsArea, MaskValue, IsMask, frame_with}
use Rattle.edr_select.specs.AreaPlans.{domain_over}
use Rattle.edr_select.specs.GridLaws.{IsGrid}
use Rattle.edr_select.proofs.Picks.{picks_at, picked_is, pick_found, found_pick}
use Rattle.edr_select.proofs.ChosenLaws as laws
use Rattle.edr_select.proofs.ChosenLaws.{OneOfEach, each_of}
use Rattle.edr_select.proofs.Occurring.{times_are, levels_are}
use Rattle.edr_select.specs.SpanLaws.{Spans, spanned_is}

-- the reply to a query of an area is one coverage over a frame
heads_framed : (i : InstanceValue) (q : QueryValue) (shape : Shape) → IsArea shape → (picks : List Stored) → heads_on_grid i q shape picks ≡ alone (without_id (frame_of i picks))
heads_framed i q (shapes.Position geometry) area picks = absurd area
heads_framed i q (shapes.Radius geometry within) area picks = refl
heads_framed i q (shapes.Area geometry) area picks = refl
heads_framed i q (shapes.Cube lo hi levels) area picks = refl
heads_framed i q (shapes.Trajectory geometry) area picks = absurd area
heads_framed i q (shapes.Corridor geometry width height) area picks = absurd area
heads_framed i q (shapes.Location id) area picks = absurd area

module _ (i : InstanceValue) (q : QueryValue) (each : TakesEach q.shape) (g : IsGrid i) (mask : MaskValue) (m : IsMask i q.shape mask) (some : IsSome (chosen i q)) where
  abbrev c : Chosen
  c = chosen i q

  abbrev picks : List Stored
  picks = picks_at i q

  one : OneOfEach c
  one = each_of c some

  -- a sample of each node that is taken is picked
  node_picked : (t : Stored → Bool) (y x : ℕ) → y < length i.ys → x < length i.xs → takes_node i q.shape y x ≡ true
      → t (stored_at i (at one.parameter one.time one.level y x)) ≡ true → list_any t picks ≡ true
  node_picked t y x hy hx taken passes =
      found_pick i q each t (at one.parameter one.time one.level y x)
      (record {
        parameter = omega (arith, laws.parameter_below i q each g one.parameter one.parameter_in, g.parameters);
        t = omega (arith, laws.time_below i q each g one.time one.time_in, g.times);
        z = omega (arith, laws.level_below i q each g one.level one.level_in, g.levels);
        y = omega (arith, hy, g.rows);
        x = omega (arith, hx, g.columns);
      })
      (record {
        asked = laws.parameter_asked i q each g one.parameter one.parameter_in;
        time = laws.time_taken i q each g one.time one.time_in;
        level = laws.level_taken i q each g one.level one.level_in;
        near = taken;
      })
      passes

  abbrev row_value : Stored → ℤ
  row_value s = s.sample.at.y

  abbrev column_value : Stored → ℤ
  column_value s = s.sample.at.x

  rows_span : Spans row_value picks i.ys mask.row mask.rows
  rows_span = record {
    some = m.some_rows;
    inside = m.rows;
    only = λ t h.
        let f = pick_found i q each (λ (s : Stored). t s.sample.at.y) h in
        let b = m.outside f.place.y f.place.x (omega (arith, f.within.y, g.rows)) (omega (arith, f.within.x, g.columns)) f.taken.near in
        record { place = f.place.y; low = b.low; high = b.high; passes = f.passes };
    least = λ t h.
        let r = m.first_row in
        node_picked (λ (s : Stored). t s.sample.at.y) mask.row r.column (omega (arith, m.rows, m.some_rows)) r.inside r.takes h;
    greatest = λ t h.
        let r = m.last_row in
        node_picked (λ (s : Stored). t s.sample.at.y) (mask.row + mask.rows - 1) r.column (omega (arith, m.rows, m.some_rows)) r.inside r.takes h;
  }

  columns_span : Spans column_value picks i.xs mask.column mask.columns
  columns_span = record {
    some = m.some_columns;
    inside = m.columns;
    only = λ t h.
        let f = pick_found i q each (λ (s : Stored). t s.sample.at.x) h in
        let b = m.outside f.place.y f.place.x (omega (arith, f.within.y, g.rows)) (omega (arith, f.within.x, g.columns)) f.taken.near in
        record { place = f.place.x; low = b.left; high = b.right; passes = f.passes };
    least = λ t h.
        let r = m.first_column in
        node_picked (λ (s : Stored). t s.sample.at.x) r.row mask.column r.inside (omega (arith, m.columns, m.some_columns)) r.takes h;
    greatest = λ t h.
        let r = m.last_column in
        node_picked (λ (s : Stored). t s.sample.at.x) r.row (mask.column + mask.columns - 1) r.inside (omega (arith, m.columns, m.some_columns)) r.takes h;
  }

  -- the rows and the columns
  pub rows_are : spanned row_value picks i.ys ≡ map (value_at i.ys) (range_with_len mask.row mask.rows)
  rows_are = spanned_is row_value picks i.ys g.ys.ascending mask.row mask.rows rows_span

  pub columns_are : spanned column_value picks i.xs ≡ map (value_at i.xs) (range_with_len mask.column mask.columns)
  columns_are = spanned_is column_value picks i.xs g.xs.ascending mask.column mask.columns columns_span

  pub frame_is : frame_of i picks ≡ domain_over i (frame_with i q mask)
  frame_is =
      ap₂ (λ (ts : List ℤ) (zs : Option (List ℤ)). Grid (Some ts) zs (spanned row_value picks i.ys) (spanned column_value picks i.xs))
      (times_are i q each g some) (levels_are i q each g some)
      ∙ ap₂ (λ (ys xs : List ℤ). Grid (Some (times_of i c)) (levels_of i c) ys xs) rows_are columns_are

  -- the one head
  pub heads_are : (s : Subject) → s.held ≡ of_grid i → IsArea q.shape → heads_of s.held q (picked s q) ≡ alone (without_id (domain_over i (frame_with i q mask)))
  heads_are s held area =
      ap (λ (ps : List Stored). heads_of s.held q ps) (picked_is s q i held each)
      ∙ (ap (λ (h : Held). heads_of h q picks) held
      ∙ (heads_framed i q q.shape area picks ∙ ap (λ (domain : Domain). alone (without_id domain)) frame_is))
