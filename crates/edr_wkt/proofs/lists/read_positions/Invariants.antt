use Rattle.std.proofs.Common.{length}
use Rattle.edr_wkt.proofs.GatherLemmas.{Gathers}
use Rattle.edr_wkt.proofs.lists.read_positions.Given as goal

abbrev pub invariant-members : goal.invariant-members
invariant-members l = Gathers l.multi l.has_z l.has_m l.text l.initial.count l.count l.positions.items l.len l.rest

abbrev pub decreases-members : goal.decreases-members
decreases-members l = length l.rest
