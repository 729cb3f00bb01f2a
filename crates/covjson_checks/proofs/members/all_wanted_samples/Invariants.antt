use Rattle.std.proofs.Common.{◌≡◌, drop, map}
use Rattle.serde_json.specs.View.{items_of}
use Rattle.edr_samples.specs.Tokens.{sample_data}
use Rattle.covjson_checks.specs.Members as members
use Rattle.covjson_checks.proofs.members.all_wanted_samples.Given as goal

abbrev pub invariant-loop-place : goal.invariant-loop-place
invariant-loop-place l =
    members.all_wanted l.wanted (items_of (map sample_data (drop l.place l.samples))) ≡ members.all_wanted l.wanted (items_of (map sample_data l.samples))
