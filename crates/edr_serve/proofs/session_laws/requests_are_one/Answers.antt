use Rattle.edr_serve.proofs.RequestLaws.{requests_same}
use Rattle.edr_serve.proofs.session_laws.requests_are_one.Goals as goal

pub returns : goal.returns
returns c = requests_same c.head_is_one.ensures c.refusal_is_one.ensures c.target_is_one.ensures
