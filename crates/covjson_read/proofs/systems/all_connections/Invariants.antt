use Rattle.std.proofs.Common.{◌≡◌, drop}
use Rattle.edr_samples.specs.Trees.{items_view}
use Rattle.covjson_read.specs.SystemAnswers as answers
use Rattle.covjson_read.proofs.systems.all_connections.Given as goal

abbrev pub invariant-loop-entry : goal.invariant-loop-entry
invariant-loop-entry l =
    answers.all_that answers.is_connection (items_view (drop l.entry-index l.entries.items)) ≡ answers.all_that answers.is_connection (items_view l.entries.items)
