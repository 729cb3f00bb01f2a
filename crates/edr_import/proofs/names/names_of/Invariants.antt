use Rattle.edr_import.proofs.SiteLemmas.{AreNamed}
use Rattle.edr_import.proofs.names.names_of.Given as goal

abbrev pub invariant-loop-place : goal.invariant-loop-place
invariant-loop-place l = AreNamed l.observations l.place l.names
