use Rattle.edr_share.proofs.Steps.{looks}
use Rattle.edr_share.proofs.shelves.look.Goals as goal

pub enter_as-requires : goal.enter_as-requires
enter_as-requires c shown = looks _ _ shown
