use Rattle.edr_import.proofs.SiteLemmas.{AreNoted}
use Rattle.edr_import.proofs.sites.sites_of.Given as goal

abbrev pub invariant-loop-place : goal.invariant-loop-place
invariant-loop-place l = AreNoted l.observations l.place l.sites
