use Rattle.std.proofs.Common.{◌≡◌, drop}
use Rattle.edr_samples.specs.Trees.{items_view}
use Rattle.covjson_read.specs.SystemAnswers as answers
use Rattle.covjson_read.proofs.systems.first_vertical.Given as goal

abbrev pub invariant-loop-entry : goal.invariant-loop-entry
invariant-loop-entry l =
    answers.first_that answers.is_vertical (items_view (drop l.entry-index l.entries.items)) ≡ answers.first_that answers.is_vertical (items_view l.entries.items)
