use Rattle.edr_serve.proofs.ReplyLaws.{output_first}
use Rattle.edr_serve.proofs.session_laws.output_begins.Goals as goal

pub returns : goal.returns
returns c = output_first
