use Rattle.std.proofs.Common.{◌≡◌, ◌∙◌, ◌<◌, pos, ap, ap₂, sym, subst, [], ◌∷◌, ◌++◌, List, All, length, arith}
use Rattle.std.proofs.lemmas.List.Elements.{All-nil}
use Rattle.edr_axes.specs.Axes.{value_at}
use Rattle.edr_base.specs.Limits.{IsCoordinate}
use Rattle.edr_geometry.specs.Planar.{spot_of, near_segment}
use Rattle.edr_geometry.specs.Masks.{spot_at}
use Rattle.edr_corridor.specs.Boxes.{IsWithin}
use Rattle.edr_corridor.specs.Parts.{has_spot}
use Rattle.edr_corridor.specs.declared.boxes.Rectangle.{Rectangle}
use Rattle.edr_corridor.proofs.Halves.{coordinate_back}
use Rattle.edr_corridor.proofs.NearNodes.{node_spots, no_spots, node_within}
use Rattle.edr_corridor.proofs.rectangles.node_near.Goals as goal
use Rattle.edr_corridor.proofs.rectangles.node_near.Goals.{then-takes_spot+in_ok-push, else-takes_spot}

pub takes_spot-requires-clause-spot_in : goal.takes_spot-requires-clause-spot_in
takes_spot-requires-clause-spot_in c =
    let row_in : c.args.rows.0 < length c.args.ys.now = omega (arith, c.requires.one.0, c.requires.rows.inside.1) in
    let column_in : c.args.columns.0 < length c.args.xs.now = omega (arith, c.requires.one.1, c.requires.columns.inside.1) in
    let y_in : IsCoordinate c.value-2.result = subst IsCoordinate (sym c.value-2.ensures) (c.requires.ys_in c.args.rows.0 (pos 0) row_in) in
    let x_in : IsCoordinate c.value.result = subst IsCoordinate (sym c.value.ensures) (c.requires.xs_in c.args.columns.0 (pos 0) column_in) in
    record { x = subst IsCoordinate (sym (coordinate_back c.value.result x_in)) x_in; y = subst IsCoordinate (sym (coordinate_back c.value-2.result y_in)) y_in }

pub returns-clause-spots : goal.returns-clause-spots
returns-clause-spots c =
    let segment = c.args.segment.now in let ys = c.args.ys.now in let xs = c.args.xs.now in let rows = c.args.rows in let columns = c.args.columns in
    let wide = c.requires.segment.rule_in.width_in in
    let row_in : rows.0 < length ys = omega (arith, c.requires.one.0, c.requires.rows.inside.1) in
    let column_in : columns.0 < length xs = omega (arith, c.requires.one.1, c.requires.columns.inside.1) in
    let y_in : IsCoordinate c.value-2.result = subst IsCoordinate (sym c.value-2.ensures) (c.requires.ys_in rows.0 (pos 0) row_in) in
    let x_in : IsCoordinate c.value.result = subst IsCoordinate (sym c.value.ensures) (c.requires.xs_in columns.0 (pos 0) column_in) in
    let here : c.takes_spot.result ≡ has_spot segment (value_at ys rows.0) (value_at xs columns.0) =
    c.takes_spot.ensures ∙ ap₂ (λ y x. near_segment (spot_at y x) (spot_of segment.start) (spot_of segment.end) segment.rule.width) (coordinate_back c.value-2.result y_in ∙ c.value-2.ensures) (coordinate_back c.value.result x_in ∙ c.value.ensures) in
    elim c.if-takes_spot.branch [
      | then-takes_spot+in_ok-push w ↦
          node_spots segment ys xs wide rows columns c.requires.rows c.requires.columns c.requires.one.0 c.requires.one.1 (sym here ∙ w.if-takes_spot.true) c.if-takes_spot.rectangles.items
          (ap (λ v. v.items) w.rectangles-is ∙ w.in_ok-push.ensures.items ∙ ap (λ (l : List Rectangle). l ++ record { rows = rows; columns = columns } ∷ []) c.new-rectangles.ensures.items)
      | else-takes_spot w ↦
          no_spots segment ys xs wide rows columns c.requires.rows c.requires.columns c.requires.one.0 c.requires.one.1 (sym here ∙ w.if-takes_spot.false) c.if-takes_spot.rectangles.items
          (ap (λ v. v.items) w.rectangles-is ∙ c.new-rectangles.ensures.items)
    ]

pub returns-clause-within : goal.returns-clause-within
returns-clause-within c =
    let segment = c.args.segment.now in let ys = c.args.ys.now in let xs = c.args.xs.now in let rows = c.args.rows in let columns = c.args.columns in
    elim c.if-takes_spot.branch [
      | then-takes_spot+in_ok-push w ↦
          node_within segment ys xs c.requires.segment.rule_in.width_in rows columns c.requires.rows c.requires.columns c.requires.one.0 c.requires.one.1 c.if-takes_spot.rectangles.items
          (ap (λ v. v.items) w.rectangles-is ∙ w.in_ok-push.ensures.items ∙ ap (λ (l : List Rectangle). l ++ record { rows = rows; columns = columns } ∷ []) c.new-rectangles.ensures.items)
      | else-takes_spot w ↦
          subst (λ (rs : List Rectangle). All (IsWithin (length ys) (length xs)) rs) (sym (ap (λ v. v.items) w.rectangles-is ∙ c.new-rectangles.ensures.items)) (All-nil (IsWithin (length ys) (length xs)))
    ]
