use Rattle.std.proofs.Common.{map}
use Rattle.csv.specs.Records.{fields_of}
use Rattle.edr_csv.specs.Observations.{AreBehind}
use Rattle.edr_csv.proofs.ReadLemmas.{AllRightBefore}
use Rattle.edr_csv.proofs.reading.read_observations.Given as goal

abbrev pub invariant-loop-place : goal.invariant-loop-place
invariant-loop-place l = record {
  behind : AreBehind (map fields_of l.records) l.place l.observations.items;
  right : AllRightBefore (map fields_of l.records) l.place;
}
