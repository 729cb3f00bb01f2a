use Rattle.edr_http.proofs.HeadLemmas.{early}
use Rattle.edr_http.proofs.laws.heads_are_decided_early.Goals as goal

pub returns : goal.returns
returns c = early
