use Rattle.edr_select.specs.RefusalLaws.{refusal_is_least}
use Rattle.edr_select.proofs.laws.refusal_is_least.Goals as goal

pub returns : goal.returns
returns c = refusal_is_least
