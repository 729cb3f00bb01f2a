use Rattle.edr_serve.proofs.AnswerLaws.{one_answer}
use Rattle.edr_serve.proofs.laws.answer_is_one.Goals as goal

pub returns : goal.returns
returns c = one_answer c.target_is_one.ensures
