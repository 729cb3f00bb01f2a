use Rattle.edr_query.proofs.SpelledAddresses.{others_escaped}
use Rattle.edr_query.proofs.laws.paths_escape_all_others.Goals as goal

pub returns : goal.returns
returns c = others_escaped
