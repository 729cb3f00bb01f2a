use Rattle.edr_corridor.proofs.Halves.{to_back}
use Rattle.edr_corridor.proofs.bands.Band.is_to.Goals as goal

pub returns : goal.returns
returns c = to_back c.args.self.now.high c.args.self.now.whole c.args.number c.requires.band.high_in c.requires.band.whole_in c.requires.number_in
