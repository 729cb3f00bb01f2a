use Rattle.std.proofs.Common.{◌≡◌, take}
use Rattle.std.specs.Prelude.{map}
use Rattle.edr_select.specs.Planned.{planned_at}
use Rattle.edr_select.proofs.reply_coverages.planned_over.Given as goal

abbrev pub invariant-loop-spot : goal.invariant-loop-spot
invariant-loop-spot l = l.coverages.items ≡ map (planned_at l.referencing l.instance l.choice) (take l.spot-index l.choice.spots)
