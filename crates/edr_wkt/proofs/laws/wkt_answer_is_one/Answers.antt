use Rattle.edr_wkt.proofs.AnswerLemmas.{answer-unique}
use Rattle.edr_wkt.proofs.laws.wkt_answer_is_one.Goals as goal

pub returns : goal.returns
returns c = answer-unique
