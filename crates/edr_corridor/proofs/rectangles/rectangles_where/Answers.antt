use Rattle.edr_corridor.proofs.NearNodes.{spots_near}
use Rattle.edr_corridor.proofs.rectangles.rectangles_where.Goals as goal

pub returns-clause-near : goal.returns-clause-near
returns-clause-near c =
    spots_near c.args.segment.now c.args.ys.now c.args.xs.now c.requires.segment.rule_in.width_in c.in_ok-rectangles.rectangles.items c.in_ok-rectangles.ensures.spots
