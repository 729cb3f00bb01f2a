use Rattle.std.proofs.Common.{Some, sym, ◌∙◌, subst}
use Rattle.edr_base.specs.FirstThatApplies.{NoneApplies}
use Rattle.edr_edition.specs.Editions.{IsCollection}
use Rattle.edr_draft.specs.Changes.{as_instance, bare_collection, AppliesToSet}
use Rattle.edr_draft.specs.Steps.{Finds, Fits}
use Rattle.edr_draft.proofs.CollectionLaws.{bare_is_collection}
use Rattle.edr_draft.proofs.FaultLaws.{fits}
use Rattle.edr_draft.proofs.StepLaws.{still_finds}
use Rattle.edr_draft.proofs.steps.bare_place.Goals as goal

pub returns-in_err-check_grid-clause-finds : goal.returns-in_err-check_grid-clause-finds
returns-in_err-check_grid-clause-finds c =
    let coverage = c.args.coverage.now in
    let bare = bare_collection c.args.collections.now coverage.referencing in
    let id = c.bytes.result.now in
    let r = c.from_residual-in_err-check_grid.result in
    subst (λ i. Finds (AppliesToSet (as_instance i) (Some bare) coverage) r) (c.bytes.ensures ∙ c.in_ok-id.ensures)
    (subst (λ b. Finds (AppliesToSet (as_instance id) (Some b) coverage) r) c.in_ok-held.ensures
    (still_finds (AppliesToSet (as_instance id) (Some c.in_ok-held.held) coverage) r c.in_err-check_grid.field-0.0 c.from_residual-in_err-check_grid.ensures.1 c.in_err-check_grid.ensures))

pub returns-clause-finds : goal.returns-clause-finds
returns-clause-finds c =
    let coverage = c.args.coverage.now in
    let bare = bare_collection c.args.collections.now coverage.referencing in
    subst (λ i. NoneApplies (AppliesToSet (as_instance i) (Some bare) coverage)) (c.bytes.ensures ∙ c.in_ok-id.ensures)
    (subst (λ b. NoneApplies (AppliesToSet (as_instance c.bytes.result.now) (Some b) coverage)) c.in_ok-held.ensures c.in_ok-check_grid.ensures)

pub returns-clause-fits : goal.returns-clause-fits
returns-clause-fits c =
    let coverage = c.args.coverage.now in
    let held = c.in_ok-held.held in
    let is = subst IsCollection (sym c.in_ok-held.ensures) (bare_is_collection c.args.collections.now coverage.referencing c.requires.collections c.requires.coverage.referencing) in
    subst (λ i. Fits (as_instance i) held coverage) (c.bytes.ensures ∙ c.in_ok-id.ensures) (fits (as_instance c.bytes.result.now) held coverage is c.requires.coverage c.in_ok-check_grid.ensures)
