use Rattle.edr_edition.specs.GridLaws.{instance_has}
use Rattle.edr_edition.proofs.laws.instances_have_grids.Goals as goal

pub returns : goal.returns
returns c = instance_has
