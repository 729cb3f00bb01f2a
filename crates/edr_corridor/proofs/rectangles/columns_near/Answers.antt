use Rattle.std.proofs.Common.{◌∙◌, ap, ap₂}
use Rattle.edr_base.specs.declared.places.Spot.{Spot}
use Rattle.edr_geometry.specs.Ranges.{exchanged}
use Rattle.edr_corridor.proofs.Halves.{distance_back}
use Rattle.edr_corridor.proofs.NearNodes.{columns_spots}
use Rattle.edr_corridor.proofs.rectangles.columns_near.Goals as goal

pub returns-clause-spots : goal.returns-clause-spots
returns-clause-spots c =
    let segment = c.args.segment.now in let ys = c.args.ys.now in let xs = c.args.xs.now in let wide = c.requires.segment.rule_in.width_in in
    columns_spots segment ys xs wide c.near_is_exchanged.ensures c.args.columns c.in_ok-rectangles.rectangles.items c.of-strip.result
    (c.of-strip.ensures
    ∙ ap (λ w. record { a = c.exchanged-start.result; b = c.exchanged-end.result; width = w }) (distance_back segment.rule.width wide)
    ∙ ap₂ (λ (a b : Spot). record { a = a; b = b; width = segment.rule.width }) (c.exchanged-start.ensures ∙ ap exchanged c.spot_of.ensures) (c.exchanged-end.ensures ∙ ap exchanged c.spot_of-2.ensures))
    c.requires.columns c.in_ok-rectangles.ensures.near
