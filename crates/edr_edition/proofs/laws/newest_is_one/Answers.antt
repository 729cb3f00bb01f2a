use Rattle.edr_edition.proofs.NewestLaws.{newest_once}
use Rattle.edr_edition.proofs.laws.newest_is_one.Goals as goal

pub returns : goal.returns
returns c = newest_once
