use Rattle.edr_corridor.proofs.Lines.{boxes_wanted}
use Rattle.edr_corridor.proofs.laws.boxes_are_wanted.Goals as goal

pub returns : goal.returns
returns c = boxes_wanted
