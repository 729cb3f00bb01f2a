use Rattle.edr_corridor.proofs.Halves.{from_back}
use Rattle.edr_corridor.proofs.bands.Band.is_from.Goals as goal

pub returns : goal.returns
returns c = from_back c.args.self.now.low c.args.self.now.whole c.args.number c.requires.band.low_in c.requires.band.whole_in c.requires.number_in
