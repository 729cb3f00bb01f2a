use Rattle.edr_corridor.proofs.NearNodes.{has_places, no_row, no_column}
use Rattle.edr_corridor.proofs.rectangles.rectangles_of.Goals as goal

pub returns-then-is_none-clause-spots : goal.returns-then-is_none-clause-spots
returns-then-is_none-clause-spots c =
    let segment = c.args.segment.now in let ys = c.args.ys.now in
    no_row segment ys c.args.xs.now c.requires.segment.rule_in.width_in c.places_on-rows.result
    (has_places ys c.rows.result segment.start.y segment.end.y segment.rule.width c.places_on-rows.result c.rows.ensures.has c.places_on-rows.ensures.inside c.places_on-rows.ensures.lies)
    (c.is_none.ensures c.if-is_none.true) c.new.result.items c.new.ensures.items

pub returns-then-is_none-2-clause-spots : goal.returns-then-is_none-2-clause-spots
returns-then-is_none-2-clause-spots c =
    let segment = c.args.segment.now in let xs = c.args.xs.now in
    no_column segment c.args.ys.now xs c.requires.segment.rule_in.width_in c.places_on-columns.result
    (has_places xs c.columns.result segment.start.x segment.end.x segment.rule.width c.places_on-columns.result c.columns.ensures.has c.places_on-columns.ensures.inside c.places_on-columns.ensures.lies)
    (c.is_none-2.ensures c.if-is_none-2.true) c.new-then-is_none-2.result.items c.new-then-is_none-2.ensures.items
