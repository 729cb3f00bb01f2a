use Rattle.std.proofs.lemmas.Result.{err_from_is_err_and}
use Rattle.edr_base.specs.declared.refusals.Refusal.TheVariants.{MissingParameter, WrongGeometry}
use Rattle.edr_query.specs.Reads.{IsComplete, IsPlace}
use Rattle.edr_query.proofs.RefusalLemmas.{more, stopped, refused}
use Rattle.edr_query.proofs.CoordsLemmas.{missing_none}
use Rattle.edr_query.proofs.StepLemmas.{passed_place, stopped_coords}
use Rattle.edr_query.proofs.steps.read_place.Goals as goal

pub returns-in_err-check_complete : goal.returns-in_err-check_complete
returns-in_err-check_complete c =
    let page = c.args.page in let pairs = c.args.parameters.now in
    let p = err_from_is_err_and c.from_residual.result c.from_residual.ensures.1 in
    rw (p.1, p.2) (refused (λ done. IsComplete page pairs) (IsPlace page pairs) page pairs _ c.in_err-check_complete.ensures)

pub returns-in_err-coords : goal.returns-in_err-coords
returns-in_err-coords c =
    let page = c.args.page in let pairs = c.args.parameters.now in
    let p = err_from_is_err_and c.from_residual-in_err-coords.result c.from_residual-in_err-coords.ensures.1 in
    let k = c.in_ok-check_complete.ensures in
    rw (p.1, p.2) (stopped_coords (IsPlace page pairs) page pairs _ c.in_err-coords.ensures
    (λ bad. more page pairs MissingParameter k.passed (missing_none c.wkt_is_one.ensures page pairs k.required k.paired bad)))

pub returns-in_err-check_height_along : goal.returns-in_err-check_height_along
returns-in_err-check_height_along c =
    let page = c.args.page in let pairs = c.args.parameters.now in
    let p = err_from_is_err_and c.from_residual-in_err-check_height_along.result c.from_residual-in_err-check_height_along.ensures.1 in
    rw (p.1, p.2) (stopped (IsPlace page pairs) page pairs _ MissingParameter c.in_err-check_height_along.ensures c.in_ok-check_complete.ensures.passed)

pub returns-in_err-check_geometry : goal.returns-in_err-check_geometry
returns-in_err-check_geometry c =
    let page = c.args.page in let pairs = c.args.parameters.now in
    let p = err_from_is_err_and c.from_residual-in_err-check_geometry.result c.from_residual-in_err-check_geometry.ensures.1 in
    let passed = passed_place page pairs c.in_ok-coords.coords c.in_ok-check_complete.ensures c.in_ok-coords.ensures c.in_ok-check_height_along.ensures in
    rw (p.1, p.2) (stopped (IsPlace page pairs) page pairs _ WrongGeometry c.in_err-check_geometry.ensures passed)

pub returns : goal.returns
returns c =
    let page = c.args.page in let pairs = c.args.parameters.now in
    let passed = passed_place page pairs c.in_ok-coords.coords c.in_ok-check_complete.ensures c.in_ok-coords.ensures c.in_ok-check_height_along.ensures in
    record { said = c.in_ok-coords.ensures; passed = more page pairs WrongGeometry passed c.in_ok-check_geometry.ensures }
