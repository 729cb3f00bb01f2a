use Rattle.edr_lines.proofs.SetPlanes.{range_set}
use Rattle.std.proofs.Common.{rules}
use Rattle.edr_lines.proofs.stack_masks.set_range.Goals as goal

pub returns : goal.returns
returns c =
    range_set c.args.from c.args.end c.args.values.now c.fill.new.self c.requires.ordered c.requires.inside (search rules)
