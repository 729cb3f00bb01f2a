use Rattle.edr_serve.proofs.RequestLaws.{requests_found}
use Rattle.edr_serve.proofs.session_laws.requests_exist.Goals as goal

pub returns : goal.returns
returns c = requests_found
