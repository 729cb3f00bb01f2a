use Rattle.edr_serve.proofs.AnswerExists.{has_answer}
use Rattle.edr_serve.proofs.laws.pages_have_answers.Goals as goal

pub returns : goal.returns
returns c = has_answer c.refusal_is_least.ensures
