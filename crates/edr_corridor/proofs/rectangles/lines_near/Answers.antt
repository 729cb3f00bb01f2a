use Rattle.std.proofs.Common.{◌≡◌, ◌∙◌, ◌<◌, ℕ, pos, ap, sym, subst, length, arith, to_z, of_z, w64}
use Rattle.edr_axes.specs.Axes.{value_at}
use Rattle.edr_base.specs.Limits.{IsCoordinate}
use Rattle.edr_geometry.specs.Masks.{spot_at}
use Rattle.edr_geometry.specs.Planar.{near_segment}
use Rattle.edr_geometry.specs.Ranges.{lies_in_some}
use Rattle.edr_corridor.specs.Parts.{HaveNear}
use Rattle.edr_corridor.proofs.Halves.{coordinate_back}
use Rattle.edr_corridor.proofs.NearNodes.{line_more}
use Rattle.edr_corridor.proofs.rectangles.lines_near.Goals as goal

pub loop-line-preserved : goal.loop-line-preserved
loop-line-preserved c =
    let lines = c.args.lines.now in let across = c.args.across.now in let strip = c.args.strip.now in let line : ℕ = c.loop-line.line in let ranges = c.near_row-ranges.result in
    let inside : line < length lines = omega (arith, c.loop-line-test.true, c.requires.inside.1) in
    let value_in : IsCoordinate c.value.result = subst IsCoordinate (sym c.value.ensures) (c.requires.lines_in line (pos 0) inside) in
    let value : to_z w64 (of_z w64 c.value.result) ≡ value_at lines line = coordinate_back c.value.result value_in ∙ c.value.ensures in
    let near : (p : ℕ) → p < length across → lies_in_some ranges p ≡ near_segment (spot_at (value_at lines line) (value_at across p)) strip.a strip.b strip.width =
    λ p p_in. c.near_row-ranges.ensures.near p p_in ∙ ap (λ y. near_segment (spot_at y (value_at across p)) strip.a strip.b strip.width) value in
    record {
      near = line_more c.args.upright strip lines across c.args.range.0 line ranges c.loop-line.rectangles.items c.add_line.new.rectangles.items c.loop-line.auto.line c.loop-line.invariant.near
          c.in_ok-add_line.ensures.more near;
      along = c.in_ok-add_line.ensures.along (length lines) (length across) inside c.near_row-ranges.ensures.inside c.loop-line.invariant.along;
    }

pub returns-clause-near : goal.returns-clause-near
returns-clause-near c =
    let end : c.loop-line.line ≡ c.args.range.1 = omega (arith, c.loop-line-test.false, c.requires.inside.0) in
    subst (λ (k : ℕ). HaveNear c.args.upright c.args.strip.now c.args.lines.now c.args.across.now (c.args.range.0, k) c.loop-line.rectangles.items) end c.loop-line.invariant.near
