use Rattle.std.proofs.Common.{◌≡◌, drop}
use Rattle.edr_samples.specs.Trees.{items_view}
use Rattle.covjson_checks.specs.Answers.{each, onto}
use Rattle.covjson_ranges.specs.RangeAnswers as ranges
use Rattle.covjson_ranges.proofs.ranges.axes_named.Given as goal

-- the answer of the rest, after the names that were found, is that of all
abbrev pub invariant-loop-item : goal.invariant-loop-item
invariant-loop-item l =
    onto l.names.items (each ranges.axis_named (items_view (drop l.item-index l.items.items)))
    ≡ each ranges.axis_named (items_view l.items.items)
