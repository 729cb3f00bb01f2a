use Rattle.edr_serve.proofs.RequestLaws.{begun_same}
use Rattle.edr_serve.proofs.session_laws.begun_are_first.Goals as goal

pub returns : goal.returns
returns c = begun_same c.head_is_one.ensures c.refusal_is_one.ensures c.target_is_one.ensures
