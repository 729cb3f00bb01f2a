use Rattle.std.proofs.Common.{◌≡◌, drop}
use Rattle.edr_samples.specs.Trees.{items_view}
use Rattle.covjson_checks.specs.Answers.{onto}
use Rattle.covjson_domains.specs.AxisAnswers.{times_from}
use Rattle.covjson_domains.proofs.axes.times.Given as goal

-- the times of the rest, after those that were found, are the times of all
abbrev pub invariant-loop-place : goal.invariant-loop-place
invariant-loop-place l =
    onto l.found.items (times_from l.place (items_view (drop l.place l.items.items))) ≡ times_from 0 (items_view l.items.items)
