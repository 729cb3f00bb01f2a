use Rattle.std.proofs.Common.{◌≡◌, drop}
use Rattle.edr_samples.specs.Trees.{items_view}
use Rattle.covjson_checks.specs.Answers.{each_from, onto}
use Rattle.covjson_checks.specs.Members as members
use Rattle.covjson_checks.proofs.members.wholes_or_nulls_of.Given as goal

abbrev pub invariant-loop-place : goal.invariant-loop-place
invariant-loop-place l =
    onto l.found.items (each_from (members.whole_or_null l.member l.limit) l.place (items_view (drop l.place l.items.items)))
    ≡ each_from (members.whole_or_null l.member l.limit) 0 (items_view l.items.items)
