use Rattle.edr_lines.specs.Taken.{counts_of}
use Rattle.edr_lines.specs.Corridors.{takes}
use Rattle.edr_lines.proofs.stacks_taken.sides_taken.Goals as goal

pub sides_spread-requires-clause-spread : goal.sides_spread-requires-clause-spread
sides_spread-requires-clause-spread c = (takes c.args.corridor.now c.args.axes.now, c.in_ok-spread.ensures)

pub returns : goal.returns
returns c = c.in_ok-found.ensures (takes c.args.corridor.now c.args.axes.now) c.in_ok-spread.ensures
