use Rattle.std.proofs.Common.{◌≡◌, ◌*◌, length, get_or, take_all, subst, pos}
use Rattle.std.proofs.lemmas.List.{get_or_default}
use Rattle.edr_base.specs.declared.places.Position.{Position}
use Rattle.edr_select.proofs.SpotChoices.{nearest_to, spot_more, spot_same}
use Rattle.edr_select.proofs.FoundPlaces.{Found, found_is}
use Rattle.edr_select.proofs.chosen_spots.spots_taken.Goals as goal
use Rattle.edr_select.proofs.chosen_spots.spots_taken.Goals.{in-Some+in_ok-push-in-Some, in-None}

abbrev no_point : Position
no_point = record { x = pos 0; y = pos 0; z = pos 0; m = pos 0 }

pub loop-point-preserved : goal.loop-point-preserved
loop-point-preserved c =
    let point : Position = get_or c.args.points.now c.loop-point.point-index no_point in
    let at : get_or c.args.points.now c.loop-point.point-index point ≡ point = get_or_default c.args.points.now c.loop-point.point-index point no_point c.loop-point-test.true in
    elim c.match-spot_of.branch [
      | in-Some+in_ok-push-in-Some w ↦ rw (w.places-is, w.in_ok-push-in-Some.ensures.items) (spot_more c.args.ys.now c.args.xs.now c.args.points.now c.loop-point.places.items c.loop-point.point-index w.in-Some.spot point
          c.loop-point-test.true at w.in-Some.ensures.inside w.in-Some.ensures.nearest c.loop-point.invariant)
      | in-None w ↦ rw w.places-is (spot_same c.args.ys.now c.args.xs.now c.args.points.now c.loop-point.places.items c.loop-point.point-index point c.loop-point-test.true at w.in-None.ensures.nearest c.loop-point.invariant)
    ]

pub returns : goal.returns
returns c =
    found_is (length c.args.ys.now * length c.args.xs.now) c.loop-point.places.items c.ascending_once.result.items (nearest_to c.args.ys.now c.args.xs.now c.args.points.now)
    (subst (λ points. Found (length c.args.ys.now * length c.args.xs.now) c.loop-point.places.items (nearest_to c.args.ys.now c.args.xs.now points)) (take_all c.loop-point.point-index c.args.points.now c.loop-point-test.false) c.loop-point.invariant)
    c.ascending_once.ensures
