use Rattle.std.proofs.Common.{refl}
use Rattle.edr_samples.specs.Trees.{tree_view}
use Rattle.edr_json.specs.AnswerLaws.{and_then_given}
use Rattle.covjson_read.proofs.coverages.coverage_in.Goals as goal

pub returns-clause-answer : goal.returns-clause-answer
returns-clause-answer c =
    and_then_given _ _ _ _ c.in_ok-_tree.ensures
    (and_then_given _ _ (tree_view c.in_ok-domain.domain.now) _ (and_then_given _ _ _ _ c.in_ok-domain.ensures (and_then_given _ _ _ _ c.in_ok-_members.ensures refl))
    (and_then_given _ _ _ _ (rw c.type_of.ensures at c.in_ok-read.ensures.answer) c.in_ok-id.ensures.answer))
