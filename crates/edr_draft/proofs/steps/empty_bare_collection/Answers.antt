use Rattle.std.proofs.Common.{sym, subst, IsUtf8}
use Rattle.edr_base.specs.Names.{IsName}
use Rattle.covjson_value.specs.Coverages.{IsReferencing}
use Rattle.edr_draft.proofs.CollectionLaws.{grid_is_name}
use Rattle.edr_draft.proofs.StepLaws.{empty_same}
use Rattle.edr_draft.proofs.steps.empty_bare_collection.Goals as goal

pub empty-requires-clause-id : goal.empty-requires-clause-id
empty-requires-clause-id c = subst IsName (sym c.in_ok-id.ensures) grid_is_name

pub empty-requires-clause-title : goal.empty-requires-clause-title
empty-requires-clause-title c = subst IsUtf8 (sym c.in_ok-title.ensures) grid_is_name.utf8

pub empty-requires-clause-referencing : goal.empty-requires-clause-referencing
empty-requires-clause-referencing c = subst IsReferencing (sym c.in_ok-referencing.ensures) c.requires

pub returns : goal.returns
returns c = empty_same c.empty.result c.in_ok-id.id c.in_ok-title.title c.in_ok-referencing.referencing c.args.referencing.now c.empty.ensures c.in_ok-id.ensures c.in_ok-title.ensures c.in_ok-referencing.ensures
