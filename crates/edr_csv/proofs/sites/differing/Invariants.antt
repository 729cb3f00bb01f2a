use Rattle.std.proofs.Common.{take}
use Rattle.edr_csv.specs.Observations.{DiffersAt}
use Rattle.edr_csv.specs.Notes.{site_id, site_of}
use Rattle.edr_csv.proofs.NoteLemmas.{AreNoted}
use Rattle.edr_csv.proofs.OwnLemmas.{NoneBefore}
use Rattle.edr_csv.proofs.sites.differing.Given as goal

abbrev pub invariant-loop-place : goal.invariant-loop-place
invariant-loop-place l = record {
  noted : AreNoted site_id site_of l.sites (take l.place l.observations);
  none : NoneBefore (DiffersAt l.observations) l.place;
}
