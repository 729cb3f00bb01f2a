use Rattle.edr_query.proofs.SpelledAddresses.{paths_back}
use Rattle.edr_query.proofs.laws.written_paths_read_back.Goals as goal

pub returns : goal.returns
returns c = paths_back
