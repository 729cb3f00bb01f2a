use Rattle.std.proofs.Common.{get_or}
use Rattle.edr_lines.proofs.RangePlaces.{between_bounds}
use Rattle.edr_lines.proofs.stack_masks.numbers_in.Goals as goal

pub returns-clause-lie : goal.returns-clause-lie
returns-clause-lie c =
    λ k inside. between_bounds c.args.range (c.count_before.result, c.count_before-2.result) (get_or c.args.places.now k 0) k (c.count_before.ensures.before k inside) (c.count_before-2.ensures.before k inside)
