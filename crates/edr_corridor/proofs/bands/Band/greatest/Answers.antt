use Rattle.edr_corridor.proofs.Halves.{greatest_is}
use Rattle.edr_corridor.proofs.bands.Band.greatest.Goals as goal

pub returns-clause-greatest : goal.returns-clause-greatest
returns-clause-greatest c = λ v. greatest_is c.args.self.now.high c.args.self.now.whole v c.requires.high_in c.requires.whole_in
