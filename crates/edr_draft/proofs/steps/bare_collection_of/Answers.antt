use Rattle.std.proofs.Common.{[]}
use Rattle.edr_draft.specs.Changes.{bare_collection}
use Rattle.edr_draft.proofs.StepLaws.{same_where_ok, bare_found, bare_missing}
use Rattle.edr_draft.proofs.steps.bare_collection_of.Goals as goal

pub returns-in-Some : goal.returns-in-Some
returns-in-Some c =
    let cs = c.args.collections.now in
    let referencing = c.args.referencing.now in
    same_where_ok c.share.result c.in-Some.held.now (bare_collection cs referencing) c.share.ensures (bare_found cs referencing c.in-Some.held.now c.in-Some.ensures)

pub returns-in-None : goal.returns-in-None
returns-in-None c =
    let cs = c.args.collections.now in
    let referencing = c.args.referencing.now in
    same_where_ok c.empty_bare_collection.result (bare_collection [] referencing) (bare_collection cs referencing) c.empty_bare_collection.ensures (bare_missing cs referencing c.in-None.ensures)
