use Rattle.std.proofs.Common.{subst}
use Rattle.edr_draft.specs.Changes.{IsChange}
use Rattle.edr_draft.proofs.drafts.change_collections.Goals as goal

pub add_collection-requires-clause-id : goal.add_collection-requires-clause-id
add_collection-requires-clause-id c = (subst IsChange c.in-Collection.is c.requires.change).0

pub set_instance-requires-clause-id : goal.set_instance-requires-clause-id
set_instance-requires-clause-id c = (subst IsChange c.in-Grid.is c.requires.change).1.0

pub set_instance-requires-clause-coverage : goal.set_instance-requires-clause-coverage
set_instance-requires-clause-coverage c = (subst IsChange c.in-Grid.is c.requires.change).1.1

pub set_station-requires-clause-id : goal.set_station-requires-clause-id
set_station-requires-clause-id c = (subst IsChange c.in-Station.is c.requires.change).1.0

pub set_station-requires-clause-coverage : goal.set_station-requires-clause-coverage
set_station-requires-clause-coverage c = (subst IsChange c.in-Station.is c.requires.change).1.1.1

pub set_bare-requires-clause-coverage : goal.set_bare-requires-clause-coverage
set_bare-requires-clause-coverage c = subst IsChange c.in-Bare.is c.requires.change
