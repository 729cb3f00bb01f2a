use Rattle.std.proofs.Common.{◌≡◌, drop, map}
use Rattle.serde_json.specs.View.{items_of}
use Rattle.edr_samples.specs.Tokens.{sample_data}
use Rattle.covjson_checks.specs.Answers.{each_from, onto}
use Rattle.covjson_checks.specs.Members as members
use Rattle.covjson_checks.proofs.members.wholes_of_samples.Given as goal

abbrev pub invariant-loop-place : goal.invariant-loop-place
invariant-loop-place l =
    onto l.found.items (each_from (members.whole_within l.member l.limit) l.place (items_of (map sample_data (drop l.place l.samples))))
    ≡ each_from (members.whole_within l.member l.limit) 0 (items_of (map sample_data l.samples))
