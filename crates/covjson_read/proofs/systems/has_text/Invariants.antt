use Rattle.std.proofs.Common.{◌≡◌, drop}
use Rattle.edr_samples.specs.Trees.{items_view}
use Rattle.covjson_read.specs.SystemAnswers as answers
use Rattle.covjson_read.proofs.systems.has_text.Given as goal

abbrev pub invariant-loop-item : goal.invariant-loop-item
invariant-loop-item l =
    answers.has_text l.text (items_view (drop l.item-index l.items.items)) ≡ answers.has_text l.text (items_view l.items.items)
