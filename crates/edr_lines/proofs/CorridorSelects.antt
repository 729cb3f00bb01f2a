-- A corridor of a query selects by its test of nodes.
use Rattle.std.proofs.Common.{◌≡◌, Bool, true, false, refl, ap, ap₂, sym, ◌∙◌, arith, ℤ, None, Some}
use Rattle.std.specs.declared.option.Option.{Option}
use Rattle.std.specs.Prelude.{◌&&◌, ◌||◌, List}
use Rattle.std.specs.List.{slice_index_or}
use Rattle.edr_axes.specs.Axes.{value_at, axis_length}
use Rattle.edr_wkt.specs.declared.geometry.Geometry.{Geometry}
use Rattle.edr_corridor.specs.Values.{SegmentsValue}
use Rattle.edr_corridor.specs.Segments as segments
use Rattle.edr_corridor.specs.Boxes.{level_at, wants_node}
use Rattle.edr_corridor.specs.BoxLaws.{is_about, CorridorsAreCut}
use Rattle.edr_edition.specs.Values.{InstanceValue}
use Rattle.edr_edition.specs.Stores.{Subject}
use Rattle.edr_query.specs.declared.shapes.Shape.{Shape}
use Rattle.edr_query.specs.declared.shapes.Shape.TheVariants as at
use Rattle.edr_query.specs.Values.{QueryValue}
use Rattle.edr_select.specs.GridLaws.{IsGrid}
use Rattle.edr_select.specs.Lines.{segments_of}
use Rattle.edr_select.specs.Samples.{id_at, node_at, stored_at}
use Rattle.edr_select.specs.Selections.{is_asked, takes}
use Rattle.edr_select.specs.Wanted.{takes_time, takes_level, spot_at}
use Rattle.edr_lines.specs.Corridors as corridors
use Rattle.edr_lines.specs.Corridors.{CorridorValue, IsCorridorOf}
use Rattle.edr_lines.specs.Plans.{axes_of}
use Rattle.edr_lines.proofs.TestedPicks.{SelectsBy}

turn_round : (w m l : Bool) → ((w && m) && l) ≡ ((m && l) && w)
turn_round true true true = refl
turn_round true true false = refl
turn_round true false l = refl
turn_round false true true = refl
turn_round false true false = refl
turn_round false false l = refl

same_count : (zs : Option (List ℤ)) → axis_length zs ≡ axis_length zs
same_count None = refl
same_count (Some values) = refl

pub corridor_selects : CorridorsAreCut → (s : Subject) (q : QueryValue) (i : InstanceValue) (line : Geometry) (width : ℤ) (height : Option ℤ) (c : CorridorValue)
    → q.shape ≡ at.Corridor line width height → IsGrid i → IsCorridorOf q line width height (axes_of i) c → SelectsBy s q i (corridors.takes c (axes_of i))
corridor_selects cut s q i line width height c is g h a within =
    ap (λ (shape : Shape). is_asked q.parameters (id_at i.parameters a.parameter) && takes s q shape (stored_at i a)) is
    ∙ ap (λ b. is_asked q.parameters (id_at i.parameters a.parameter) && b)
    (cut (segments_of q line width height) time level (value_at i.ts a.t) (level_at i.zs a.z) (spot_at (node_at i a))
    ∙ (ap (λ (v : SegmentsValue). (segments.wants v (value_at i.ts a.t) (level_at i.zs a.z) (spot_at (node_at i a)) && (v.has_m || time)) && (is_about v || level)) (sym h.segments)
    ∙ (ap₂ (λ m l. (wants_node c.segments (axes_of i) a.t a.z a.y a.x && m) && l) (sym (h.times a.t (omega (arith, within.t, g.times)))) (sym (h.levels a.z (omega (arith, within.z, g.levels, same_count i.zs))))
    ∙ turn_round (wants_node c.segments (axes_of i) a.t a.z a.y a.x) (slice_index_or c.times a.t false) (slice_index_or c.levels a.z false))))
  where
    time : Bool
    time = takes_time q.times (Some (value_at i.ts a.t))

    level : Bool
    level = takes_level q.levels (level_at i.zs a.z)
