-- The document of a corridor of a grid that selects something is that of a stack, and so it is valid.
use Rattle.std.proofs.Common.{◌≡◌, ℕ, ◌<◌, Bool, true, false, length, refl, sym, subst, arith, ℤ, Some, zero-add}
use Rattle.std.specs.declared.option.Option.{Option}
use Rattle.std.specs.Prelude.{◌||◌, map}
use Rattle.std.specs.List.{range_with_len}
use Rattle.std.proofs.lemmas.List.FromFn.{length-map-range_with_len, get_or-map-range_with_len}
use Rattle.edr_axes.specs.Axes.{value_at, axis_length}
use Rattle.edr_wkt.specs.declared.geometry.Geometry.{Geometry}
use Rattle.covjson_value.specs.Coverages.{IsValidDocument}
use Rattle.edr_corridor.specs.Boxes.{level_at}
use Rattle.edr_corridor.specs.BoxLaws.{is_about, CorridorsAreCut}
use Rattle.edr_edition.specs.Values.{InstanceValue, CollectionValue}
use Rattle.edr_edition.specs.Stores.{Subject}
use Rattle.edr_query.specs.declared.shapes.Shape.TheVariants as at
use Rattle.edr_query.specs.Values.{QueryValue}
use Rattle.edr_select.specs.Samples.{id_at}
use Rattle.edr_select.specs.Selections.{is_asked, picked}
use Rattle.edr_select.specs.Heads.{is_some_stored}
use Rattle.edr_select.specs.Documents.{document}
use Rattle.edr_select.specs.Checks.{grid_of}
use Rattle.edr_select.specs.Lines.{segments_of}
use Rattle.edr_select.specs.Wanted.{takes_time, takes_level}
use Rattle.edr_select.specs.ListLaws.{Member}
use Rattle.edr_select.specs.KeptLaws.{contains_kept}
use Rattle.edr_select.specs.GridLaws.{IsGrid}
use Rattle.edr_lines.specs.Asked.{IsAskedAlong}
use Rattle.edr_lines.specs.Corridors as corridors
use Rattle.edr_lines.specs.Corridors.{CorridorValue, IsCorridorOf}
use Rattle.edr_lines.specs.DocumentLaws.{CorridorDocumentsAreValid}
use Rattle.edr_lines.specs.Plans.{axes_of}
use Rattle.edr_lines.specs.Taken.{Counts, counts_of, NodeTest}
use Rattle.edr_lines.proofs.LineGrids.{grid_from}
use Rattle.edr_lines.proofs.PassingNodes.{PassesAt}
use Rattle.edr_lines.proofs.TestedPicks.{SelectsBy}
use Rattle.edr_lines.proofs.CorridorSelects.{corridor_selects}
use Rattle.edr_lines.proofs.StackSides.{same_levels}
use Rattle.edr_lines.proofs.StackPicks.{one_picked}
use Rattle.edr_lines.proofs.StackCoverages.{asked_places, document_over_sides}
use Rattle.edr_lines.proofs.FoundSides.{sides_there}
use Rattle.edr_lines.proofs.SidesValid.{coverage_valid}
use Rattle.edr_lines.proofs.CorridorPlans.{one_head}

-- each query along a corridor has what it takes
module _ (q : QueryValue) (i : InstanceValue) (line : Geometry) (width : ℤ) (height : Option ℤ) where
  abbrev time_asked : ℕ → Bool
  time_asked t = (segments_of q line width height).has_m || takes_time q.times (Some (value_at i.ts t))

  abbrev level_asked : ℕ → Bool
  level_asked z = is_about (segments_of q line width height) || takes_level q.levels (level_at i.zs z)

  abbrev corridor_over : CorridorValue
  corridor_over = record {
    segments = segments_of q line width height;
    times = map time_asked (range_with_len 0 (length i.ts));
    levels = map level_asked (range_with_len 0 (axis_length i.zs));
  }

  over_is : IsCorridorOf q line width height (axes_of i) corridor_over
  over_is = record {
    segments = refl;
    along = record { times = length-map-range_with_len time_asked 0 (length i.ts); levels = length-map-range_with_len level_asked 0 (axis_length i.zs) };
    times = λ t below. get_or-map-range_with_len time_asked 0 (length i.ts) t t false below (zero-add t);
    levels = λ z below. get_or-map-range_with_len level_asked 0 (axis_length i.zs) z z false below (zero-add z);
  }

module _ (cut : CorridorsAreCut) (c : CollectionValue) (q : QueryValue) (i : InstanceValue) (asked : IsAskedAlong c q i) (line : Geometry) (width : ℤ) (height : Option ℤ)
    (shape : q.shape ≡ at.Corridor line width height) where
  abbrev s : Subject
  s = grid_of c i

  abbrev n : Counts
  n = counts_of (axes_of i)

  abbrev takes : NodeTest
  takes = corridors.takes (corridor_over q i line width height) (axes_of i)

  g : IsGrid i
  g = grid_from i asked.grid

  selects : SelectsBy s q i takes
  selects = corridor_selects cut s q i line width height (corridor_over q i line width height) shape g (over_is q i line width height)

  corridor_valid : is_some_stored (picked s q) ≡ true → IsValidDocument (document s q)
  corridor_valid some =
      let f = one_picked s q i refl g takes selects some in
      let p : PassesAt n takes = record {
        t = f.place.t;
        z = f.place.z;
        y = f.place.y;
        x = f.place.x;
        t_in = omega (arith, f.within.t, g.times);
        z_in = omega (arith, f.within.z, g.levels, same_levels i.zs);
        y_in = omega (arith, f.within.y, g.rows);
        x_in = omega (arith, f.within.x, g.columns);
        passes = f.taken.node;
      } in
      let found = sides_there n takes p in
      let below : f.place.parameter < length i.parameters = omega (arith, f.within.parameter, g.parameters) in
      let one : Member (asked_places q i) = record {
        item = f.place.parameter;
        among = contains_kept (λ k. is_asked q.parameters (id_at i.parameters k)) (length i.parameters) f.place.parameter below f.taken.asked;
      } in
      subst IsValidDocument (sym (document_over_sides s q i refl g takes selects found.sides found.are one (one_head s q i line width height refl shape)))
      (coverage_valid s q i refl asked.grid asked.is_collection.referencing takes selects found.sides found.are one)

pub corridor_documents_are_valid : CorridorsAreCut → CorridorDocumentsAreValid
corridor_documents_are_valid cut c q i asked line width height shape = corridor_valid cut c q i asked line width height shape
