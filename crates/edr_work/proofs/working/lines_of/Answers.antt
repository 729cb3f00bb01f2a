use Rattle.std.proofs.Common.{inr, refl}
use Rattle.std.proofs.lemmas.Result.{err_from_is_err_and}
use Rattle.edr_work.specs.Lines.{corridor_target}
use Rattle.edr_work.proofs.TargetLemmas.{cube_asks, position_asks, location_asks, corridor_asks}
use Rattle.edr_work.proofs.LineLemmas.{are_lines, tried_refused}
use Rattle.edr_work.proofs.working.lines_of.Goals as goal

pub line_of-requires : goal.line_of-requires
line_of-requires c = cube_asks

pub line_of-requires-2 : goal.line_of-requires-2
line_of-requires-2 c = position_asks

pub line_of-requires-3 : goal.line_of-requires-3
line_of-requires-3 c = location_asks

pub line_of-requires-4 : goal.line_of-requires-4
line_of-requires-4 c = corridor_asks

pub returns-in_err-corridor : goal.returns-in_err-corridor
returns-in_err-corridor c =
    let p = err_from_is_err_and c.from_residual-in_err-corridor.result c.from_residual-in_err-corridor.ensures.1 in
    rw (p.1, p.2) (tried_refused c.args.edition.now corridor_target _ (inr (inr (inr refl))) c.in_err-corridor.ensures)

pub returns : goal.returns
returns c =
    are_lines c.args.edition.now _ _ _ _ _ _ c.in_ok-head.ensures c.in_ok-cube.ensures c.in_ok-position.ensures c.in_ok-location.ensures c.in_ok-corridor.ensures c.in_ok-joined.ensures
