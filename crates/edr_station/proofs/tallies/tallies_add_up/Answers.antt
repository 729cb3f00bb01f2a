use Rattle.edr_station.specs.TallyLaws.{tally-append}
use Rattle.edr_station.proofs.tallies.tallies_add_up.Goals as goal

pub returns : goal.returns
returns c = tally-append
