use Rattle.edr_edition.proofs.NewestLaws.{newest_is_newest}
use Rattle.edr_edition.proofs.laws.newest_is_newest.Goals as goal

pub returns : goal.returns
returns c = newest_is_newest
