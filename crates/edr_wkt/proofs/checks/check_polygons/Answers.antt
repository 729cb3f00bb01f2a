use Rattle.std.proofs.Common.{arith, List, ap, ◌∙◌, subst, length, get_or, ◌≡◌, Err}
use Rattle.std.specs.List.{flat_map}
use Rattle.edr_base.specs.declared.places.Position.{Position}
use Rattle.edr_wkt.specs.declared.geometry.Polygon.{Polygon}
use Rattle.edr_wkt.specs.Faults.{IsInRange}
use Rattle.edr_wkt.specs.Checks.{MatchGood}
use Rattle.edr_wkt.proofs.CheckLemmas.{good-room, good-bad}
use Rattle.edr_wkt.proofs.GatherLemmas.{passed_on}
use Rattle.edr_wkt.proofs.checks.check_polygons.Goals as goal

abbrev rings : Polygon → List (List Position)
rings p = p.rings

pub check_rings-requires : goal.check_rings-requires
check_rings-requires c =
    let list = c.args.polygons.now in
    let at = c.loop-polygon.polygon-index in
    let f : Polygon → List Position = λ p. flat_map (λ (r : List Position). r) p.rings in
    let e : flat_map (λ (r : List Position). r) c.items.result.now ≡ f (get_or list at c.polygon-item.result) = ap (flat_map (λ (r : List Position). r)) (c.items.ensures ∙ ap rings c.polygon-item.is) in
    omega (arith, ap length e, good-room IsInRange f list c.args.before at c.loop-polygon.count c.polygon-item.result c.loop-polygon-test.true c.loop-polygon.invariant, c.requires)

pub returns-in_err-count : goal.returns-in_err-count
returns-in_err-count c =
    let list = c.args.polygons.now in
    let at = c.loop-polygon.polygon-index in
    let f : Polygon → List Position = λ p. flat_map (λ (r : List Position). r) p.rings in
    let e : flat_map (λ (r : List Position). r) c.items.result.now ≡ f (get_or list at c.polygon-item.result) = ap (flat_map (λ (r : List Position). r)) (c.items.ensures ∙ ap rings c.polygon-item.is) in
    rw (passed_on c.from_residual.result c.in_err-count.field-0.0 c.from_residual.ensures)
    (good-bad IsInRange f list c.args.before at c.loop-polygon.count c.in_err-count.field-0.0 c.polygon-item.result c.loop-polygon-test.true c.loop-polygon.invariant
    (let P : List Position → Type 0 = λ l. MatchGood (Err c.in_err-count.field-0.0) IsInRange l c.loop-polygon.count in subst P e c.in_err-count.ensures))
