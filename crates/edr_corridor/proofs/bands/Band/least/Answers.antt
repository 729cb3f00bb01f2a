use Rattle.edr_corridor.proofs.Halves.{least_is}
use Rattle.edr_corridor.proofs.bands.Band.least.Goals as goal

pub returns-clause-least : goal.returns-clause-least
returns-clause-least c = λ v. least_is c.args.self.now.low c.args.self.now.whole v c.requires.low_in c.requires.whole_in
