use Rattle.std.proofs.Common.{rules}
use Rattle.edr_query.proofs.BoxLemmas.{box_four, box_six}
use Rattle.edr_query.proofs.coords.box_of.Goals as goal

pub returns-in-len4 : goal.returns-in-len4
returns-in-len4 c = box_four c.args.numbers.now c.ordered_box.result c.in-len4.len_at_least c.in-len4.len_below (search rules)

pub returns-else-low-high : goal.returns-else-low-high
returns-else-low-high c = box_six c.args.numbers.now c.ordered_box-in-len6.result c.in-len6.len_at_least c.in-len6.len_below (search rules) (search rules)
