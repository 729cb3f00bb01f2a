use Rattle.std.proofs.Common.{◌-ℤ◌, ◌+ℤ◌, sym, subst, arith, to_z, of_z, w64}
use Rattle.std.proofs.lemmas.Int.{ints}
use Rattle.edr_query.specs.Queries.{IsShape}
use Rattle.edr_select.specs.declared.reaches.Reach.{Reach}
use Rattle.edr_select.specs.Masks.{LiesIn}
use Rattle.edr_select.proofs.MaskReach.{disc_lies}
use Rattle.edr_select.proofs.PolygonReach.{polygons_lie}
use Rattle.edr_select.proofs.reaches.reach_of.Goals as goal

pub returns-in-Radius : goal.returns-in-Radius
returns-in-Radius c =
    let centre = c.centre_of-centre.result in let within = c.in-Radius.within in
    let shape = subst IsShape c.in-Radius.is c.requires.shape in
    let across = c.centre_of-centre.ensures.placed.x in let placed = c.centre_of-centre.ensures.placed.y in
    let reach : Reach = record {
      left = to_z w64 (of_z w64 (to_z w64 (of_z w64 centre.x) -ℤ to_z w64 (of_z w64 within)));
      right = to_z w64 (of_z w64 (to_z w64 (of_z w64 centre.x) +ℤ to_z w64 (of_z w64 within)));
      low = to_z w64 (of_z w64 (to_z w64 (of_z w64 centre.y) -ℤ to_z w64 (of_z w64 within)));
      high = to_z w64 (of_z w64 (to_z w64 (of_z w64 centre.y) +ℤ to_z w64 (of_z w64 within)));
    } in
    subst (λ s. LiesIn s reach) (sym c.in-Radius.is) (disc_lies c.in-Radius.geometry within centre reach c.centre_of-centre.ensures shape.1.least (record {
      left = omega (arith, ints, across, shape.1.least, shape.1.greatest);
      right = omega (arith, ints, across, shape.1.least, shape.1.greatest);
      low = omega (arith, ints, placed, shape.1.least, shape.1.greatest);
      high = omega (arith, ints, placed, shape.1.least, shape.1.greatest);
    }))

pub returns-in-Area : goal.returns-in-Area
returns-in-Area c =
    subst (λ s. LiesIn s c.reach_of_polygons.result) (sym c.in-Area.is)
    (polygons_lie c.in-Area.geometry c.polygons_of.result.now c.reach_of_polygons.result c.polygons_of.ensures c.reach_of_polygons.ensures)
