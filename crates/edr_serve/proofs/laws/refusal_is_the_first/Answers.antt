use Rattle.edr_serve.proofs.AnswerLaws.{is_first}
use Rattle.edr_serve.proofs.laws.refusal_is_the_first.Goals as goal

pub returns : goal.returns
returns c = is_first c.target_is_one.ensures
