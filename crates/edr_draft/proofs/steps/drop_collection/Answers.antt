use Rattle.std.proofs.Common.{sym, ◌∙◌}
use Rattle.edr_edition.specs.Values.{collection_id}
use Rattle.edr_draft.proofs.StepLaws.{without_missing, one_there_to_drop, nothing_there_to_drop}
use Rattle.edr_draft.proofs.steps.drop_collection.Goals as goal

pub returns-then-not-there : goal.returns-then-not-there
returns-then-not-there c =
    let cs = c.args.collections.now in
    let id = c.args.id.now in
    let lacks = sym c.in_ok-there.ensures.was ∙ c.if-not-there.true in
    record { made = record { finds = λ _. nothing_there_to_drop cs id lacks; becomes = c.in_ok-there.ensures.without ∙ without_missing collection_id cs id lacks } }

pub returns : goal.returns
returns c =
    let has = sym c.in_ok-there.ensures.was ∙ c.if-not-there.false in
    record { made = record { finds = one_there_to_drop c.args.collections.now c.args.id.now has; becomes = c.in_ok-there.ensures.without } }
