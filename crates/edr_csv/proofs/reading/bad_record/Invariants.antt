use Rattle.std.proofs.Common.{map}
use Rattle.csv.specs.Records.{fields_of}
use Rattle.edr_csv.proofs.ReadLemmas.{SevensBefore}
use Rattle.edr_csv.proofs.reading.bad_record.Given as goal

abbrev pub invariant-loop-place : goal.invariant-loop-place
invariant-loop-place l = SevensBefore (map fields_of l.records) l.place
