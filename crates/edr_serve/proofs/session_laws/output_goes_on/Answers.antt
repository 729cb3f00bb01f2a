use Rattle.edr_serve.proofs.ReplyLaws.{output_on}
use Rattle.edr_serve.proofs.session_laws.output_goes_on.Goals as goal

pub returns : goal.returns
returns c = output_on
