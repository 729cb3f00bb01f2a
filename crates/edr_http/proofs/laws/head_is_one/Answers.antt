use Rattle.edr_http.proofs.HeadLemmas.{head_one}
use Rattle.edr_http.proofs.laws.head_is_one.Goals as goal

pub returns : goal.returns
returns c = head_one
