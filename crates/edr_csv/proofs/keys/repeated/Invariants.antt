use Rattle.std.proofs.Common.{take}
use Rattle.edr_csv.specs.Observations.{RepeatsAt}
use Rattle.edr_csv.specs.Notes.{key_id, key_of}
use Rattle.edr_csv.proofs.NoteLemmas.{AreNoted}
use Rattle.edr_csv.proofs.OwnLemmas.{NoneBefore}
use Rattle.edr_csv.proofs.keys.repeated.Given as goal

abbrev pub invariant-loop-place : goal.invariant-loop-place
invariant-loop-place l = record {
  noted : AreNoted key_id key_of l.keys (take l.place l.observations);
  none : NoneBefore (RepeatsAt l.observations) l.place;
}
