use Rattle.edr_corridor.proofs.Lines.{corridors_cut}
use Rattle.edr_corridor.proofs.laws.corridors_are_cut.Goals as goal

pub returns : goal.returns
returns c = corridors_cut
