use Rattle.std.proofs.lemmas.Result.{err_from_is_err_and}
use Rattle.edr_base.specs.declared.refusals.Refusal.TheVariants.{BadBbox, BadDatetime, BadLevel}
use Rattle.edr_query.proofs.RefusalLemmas.{stopped}
use Rattle.edr_query.proofs.StepLemmas.{passed_box, passed_times, passed_levels}
use Rattle.edr_query.proofs.steps.read_limits.Goals as goal

pub returns-in_err-bbox : goal.returns-in_err-bbox
returns-in_err-bbox c =
    let page = c.args.page in let pairs = c.args.parameters.now in
    let p = err_from_is_err_and c.from_residual.result c.from_residual.ensures.1 in
    rw (p.1, p.2) (stopped _ page pairs _ BadBbox c.in_err-bbox.ensures c.requires)

pub returns-in_err-times : goal.returns-in_err-times
returns-in_err-times c =
    let page = c.args.page in let pairs = c.args.parameters.now in
    let p = err_from_is_err_and c.from_residual-in_err-times.result c.from_residual-in_err-times.ensures.1 in
    rw (p.1, p.2) (stopped _ page pairs _ BadDatetime c.in_err-times.ensures (passed_box page pairs c.in_ok-bbox.bbox c.requires c.in_ok-bbox.ensures))

pub returns-in_err-levels : goal.returns-in_err-levels
returns-in_err-levels c =
    let page = c.args.page in let pairs = c.args.parameters.now in
    let p = err_from_is_err_and c.from_residual-in_err-levels.result c.from_residual-in_err-levels.ensures.1 in
    let passed = passed_times page pairs c.in_ok-times.times (passed_box page pairs c.in_ok-bbox.bbox c.requires c.in_ok-bbox.ensures) c.in_ok-times.ensures in
    rw (p.1, p.2) (stopped _ page pairs _ BadLevel c.in_err-levels.ensures passed)

pub returns : goal.returns
returns c =
    let page = c.args.page in let pairs = c.args.parameters.now in
    let passed = passed_times page pairs c.in_ok-times.times (passed_box page pairs c.in_ok-bbox.bbox c.requires c.in_ok-bbox.ensures) c.in_ok-times.ensures in
    record {
      bbox_said = c.in_ok-bbox.ensures;
      times_said = c.in_ok-times.ensures;
      levels_said = c.in_ok-levels.ensures;
      passed = passed_levels page pairs c.in_ok-levels.levels passed c.in_ok-levels.ensures;
    }
