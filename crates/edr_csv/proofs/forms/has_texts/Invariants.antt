use Rattle.std.proofs.Common.{◌<◌, ℕ, [], get_or, IsUtf8}
use Rattle.csv.specs.Records.{fields_of}
use Rattle.edr_csv.proofs.forms.has_texts.Given as goal

abbrev pub invariant-loop-place : goal.invariant-loop-place
invariant-loop-place l = (k : ℕ) → k < l.place → IsUtf8 (get_or (fields_of l.record) k [])
