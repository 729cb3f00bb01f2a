use Rattle.std.proofs.Common.{refl}
use Rattle.edr_json.specs.AnswerLaws.{and_then_given}
use Rattle.covjson_read.proofs.documents.many_coverages.Goals as goal

pub returns-clause-answer : goal.returns-clause-answer
returns-clause-answer c =
    and_then_given _ _ _ _ c.in_ok-list.ensures
    (and_then_given _ _ _ _ c.in_ok-items.ensures (and_then_given _ _ _ _ c.in_ok-coverages.ensures.answer (rw c.of.ensures refl)))
