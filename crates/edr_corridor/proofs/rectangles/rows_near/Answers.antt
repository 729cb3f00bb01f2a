use Rattle.std.proofs.Common.{◌∙◌, ap, ap₂}
use Rattle.edr_base.specs.declared.places.Spot.{Spot}
use Rattle.edr_corridor.proofs.Halves.{distance_back}
use Rattle.edr_corridor.proofs.NearNodes.{rows_spots}
use Rattle.edr_corridor.proofs.rectangles.rows_near.Goals as goal

pub returns-clause-spots : goal.returns-clause-spots
returns-clause-spots c =
    let segment = c.args.segment.now in let ys = c.args.ys.now in let xs = c.args.xs.now in let wide = c.requires.segment.rule_in.width_in in
    rows_spots segment ys xs wide c.args.rows c.in_ok-rectangles.rectangles.items c.of-strip.result
    (c.of-strip.ensures
    ∙ ap (λ w. record { a = c.spot_of-start.result; b = c.spot_of-end.result; width = w }) (distance_back segment.rule.width wide)
    ∙ ap₂ (λ (a b : Spot). record { a = a; b = b; width = segment.rule.width }) c.spot_of-start.ensures c.spot_of-end.ensures)
    c.requires.rows c.in_ok-rectangles.ensures.near
