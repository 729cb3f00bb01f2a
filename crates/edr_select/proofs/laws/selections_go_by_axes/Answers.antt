use Rattle.edr_select.proofs.WantedLaws.{selections_go_by_axes}
use Rattle.edr_select.proofs.laws.selections_go_by_axes.Goals as goal

pub returns : goal.returns
returns c = selections_go_by_axes
