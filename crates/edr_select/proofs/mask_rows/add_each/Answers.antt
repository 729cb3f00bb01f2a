use Rattle.std.proofs.Common.{◌≡◌, ◌∙◌, ◌++◌, ap, rules, List, take_all, ℤ, to_z, of_z, w64}
use Rattle.edr_axes.specs.Axes.{value_at}
use Rattle.edr_geometry.specs.Masks.{row_of, spot_at}
use Rattle.edr_select.proofs.MaskBits.{row_more}
use Rattle.edr_select.proofs.mask_rows.add_each.Goals as goal
use Rattle.edr_base.specs.Boxes.{in_box}

pub loop-x-preserved : goal.loop-x-preserved
loop-x-preserved c =
    let row = c.args.row.now in let xs = c.args.xs.now in let k = c.loop-x.x-index in
    let whole : to_z w64 (of_z w64 (value_at xs k)) ≡ value_at xs k = search rules in
    let here : c.has.result ≡ in_box (spot_at row.y (value_at xs k)) row.lo row.hi =
    c.has.ensures ∙ ap (λ x. in_box (spot_at row.y x) row.lo row.hi) whole in
    row_more (λ p. in_box p row.lo row.hi) row.y xs k c.args.bits.now.items c.loop-x.bits.items c.push.new.self.items c.has.result c.loop-x-test.true c.loop-x.invariant c.in_ok-push.ensures.items here

pub returns : goal.returns
returns c =
    let row = c.args.row.now in
    c.loop-x.invariant ∙ ap (λ (vs : List ℤ). c.args.bits.now.items ++ row_of (λ p. in_box p row.lo row.hi) row.y vs) (take_all c.loop-x.x-index c.args.xs.now c.loop-x-test.false)
