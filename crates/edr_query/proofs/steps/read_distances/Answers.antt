use Rattle.std.proofs.lemmas.Result.{err_from_is_err_and}
use Rattle.edr_query.proofs.StepLemmas.{at_within, at_width, at_height}
use Rattle.edr_query.proofs.steps.read_distances.Goals as goal

pub returns-in_err-within : goal.returns-in_err-within
returns-in_err-within c =
    let p = err_from_is_err_and c.from_residual.result c.from_residual.ensures.1 in
    rw (p.1, p.2) (at_within c.args.parameters.now _ c.in_err-within.ensures)

pub returns-in_err-width : goal.returns-in_err-width
returns-in_err-width c =
    let p = err_from_is_err_and c.from_residual-in_err-width.result c.from_residual-in_err-width.ensures.1 in
    rw (p.1, p.2) (at_width c.args.parameters.now _ c.in_err-width.ensures)

pub returns-in_err-height : goal.returns-in_err-height
returns-in_err-height c =
    let p = err_from_is_err_and c.from_residual-in_err-height.result c.from_residual-in_err-height.ensures.1 in
    rw (p.1, p.2) (at_height c.args.parameters.now _ c.in_err-height.ensures)

pub returns : goal.returns
returns c = record { within_said = c.in_ok-within.ensures; width_said = c.in_ok-width.ensures; height_said = c.in_ok-height.ensures }
