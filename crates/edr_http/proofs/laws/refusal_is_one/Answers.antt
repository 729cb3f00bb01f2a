use Rattle.edr_http.proofs.CheckLemmas.{refusal_one}
use Rattle.edr_http.proofs.laws.refusal_is_one.Goals as goal

pub returns : goal.returns
returns c = refusal_one
