use Rattle.std.proofs.Common.{Some, [], sym, subst}
use Rattle.edr_base.specs.FirstThatApplies.{NoneApplies}
use Rattle.edr_draft.specs.Changes.{as_station, AppliesToSet}
use Rattle.edr_draft.specs.Steps.{Finds}
use Rattle.edr_draft.proofs.CollectionLaws.{found_is_collection}
use Rattle.edr_draft.proofs.FaultLaws.{fits}
use Rattle.edr_draft.proofs.StepLaws.{series_unknown, still_finds}
use Rattle.edr_draft.proofs.steps.held_for_series.Goals as goal

pub returns-in_default-clause-finds : goal.returns-in_default-clause-finds
returns-in_default-clause-finds c = λ _. series_unknown c.args.collections.now c.args.collection.now c.args.id.now [] c.args.coverage.now (sym c.in_default.ensures)

pub returns-in_err-check_series-clause-finds : goal.returns-in_err-check_series-clause-finds
returns-in_err-check_series-clause-finds c =
    let coverage = c.args.coverage.now in
    let setting = as_station c.args.id.now in
    let r = c.from_residual.result in
    subst (λ o. Finds (AppliesToSet setting o coverage) r) c.in-Some.ensures
    (still_finds (AppliesToSet setting (Some c.in-Some.held.now) coverage) r c.in_err-check_series.field-0.0 c.from_residual.ensures.1 c.in_err-check_series.ensures)

pub returns-clause-finds : goal.returns-clause-finds
returns-clause-finds c = subst (λ o. NoneApplies (AppliesToSet (as_station c.args.id.now) o c.args.coverage.now)) c.in-Some.ensures c.in_ok-check_series.ensures

pub returns-clause-held : goal.returns-clause-held
returns-clause-held c = sym c.in-Some.ensures

pub returns-clause-fits : goal.returns-clause-fits
returns-clause-fits c =
    let held = c.in-Some.held.now in
    let coverage = c.args.coverage.now in
    let setting = as_station c.args.id.now in
    let is = found_is_collection c.args.collections.now c.args.collection.now held c.requires.collections (sym c.in-Some.ensures) in
    fits setting held coverage is c.requires.coverage c.in_ok-check_series.ensures
