use Rattle.std.proofs.Common.{◌≡◌, ◌∙◌, ◌<◌, ◌+◌, ◌++◌, ◌∷◌, [], ℕ, ℤ, Bool, List, pos, length, get_or, take, map, ap, ap₂, sym, subst, arith, rules, to_z, of_z, w64}
use Rattle.std.proofs.lemmas.List.{take_all}
use Rattle.edr_base.specs.declared.places.Spot.{Spot}
use Rattle.edr_axes.specs.Axes.{value_at}
use Rattle.edr_geometry.specs.Masks.{column_of, spot_at}
use Rattle.edr_geometry.specs.Planar.{in_polygons}
use Rattle.edr_select.specs.Masks.{takes_spot, ColumnsValue}
use Rattle.edr_select.proofs.TallRows.{column_agrees, map_more}
use Rattle.edr_select.proofs.tall_masks.masks_of.Goals as goal

pub loop-place-preserved : goal.loop-place-preserved
loop-place-preserved c =
    let i = c.args.instance.now in let shape = c.args.shape.now in let xs = c.args.columns.now.xs in let k = c.loop-place.place in
    let polygons = c.polygons_of-polygons.result.now in
    let f : ℤ → List Bool = λ x. column_of (takes_spot shape) x i.ys in
    let is_xs : c.columns.inside.xs ≡ xs = ap (λ (columns : ColumnsValue). columns.xs) c.columns.view_is in
    let inside : k < length xs = (let low = c.loop-place-test.true in let size : c.len-place-end.result ≡ length xs = c.len-place-end.ensures.0 ∙ ap (λ (vs : List ℤ). length vs) is_xs in omega (arith, low, size)) in
    let x : ℤ = get_or xs k (pos 0) in
    let here : c.value-x.result ≡ x = c.value-x.ensures ∙ ap (λ (vs : List ℤ). value_at vs k) is_xs in
    let back : to_z w64 (of_z w64 c.value-x.result) ≡ c.value-x.result = search rules in
    let same : column_of (λ p. in_polygons p polygons) x i.ys ≡ f x =
    column_agrees (λ p. in_polygons p polygons) (takes_spot shape) x i.ys (λ spot. sym (c.polygons_of-polygons.ensures.in_each spot) ∙ ap (λ s. takes_spot s spot) (sym c.requires.is)) in
    let mask : c.in_ok-of_column.field-0 ≡ f x = c.in_ok-of_column.ensures ∙ ap₂ (λ v ys. column_of (λ p. in_polygons p polygons) v ys) (back ∙ here) c.ys.ensures ∙ same in
    c.in_ok-push.ensures.items ∙ ap₂ (λ ms m. ms ++ (m ∷ [])) c.loop-place.invariant mask ∙ sym (map_more f xs k (pos 0) inside)

pub returns : goal.returns
returns c =
    let xs = c.args.columns.now.xs in
    let is_xs : c.columns.inside.xs ≡ xs = ap (λ (columns : ColumnsValue). columns.xs) c.columns.view_is in
    let size : c.len-place-end.result ≡ length xs = c.len-place-end.ensures.0 ∙ ap (λ (vs : List ℤ). length vs) is_xs in
    c.loop-place.invariant ∙ ap (map (λ x. column_of (takes_spot c.args.shape.now) x c.args.instance.now.ys)) (take_all c.loop-place.place xs (omega (arith, size, c.loop-place-test.false)))
