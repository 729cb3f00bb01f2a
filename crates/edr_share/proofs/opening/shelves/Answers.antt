use Rattle.edr_share.proofs.Steps.{admits}
use Rattle.edr_share.proofs.opening.shelves.Goals as goal

pub reader-requires : goal.reader-requires
reader-requires c = admits
