use Rattle.std.proofs.lemmas.Result.{err_from_is_err_and}
use Rattle.edr_base.specs.declared.refusals.Refusal.TheVariants.{BadFormat, MissingParameter}
use Rattle.edr_query.specs.Reads.{IsComplete}
use Rattle.edr_query.proofs.RefusalLemmas.{more, stopped}
use Rattle.edr_query.proofs.steps.check_complete.Goals as goal

pub returns-in_err-check_format : goal.returns-in_err-check_format
returns-in_err-check_format c =
    let page = c.args.page in let pairs = c.args.parameters.now in
    let p = err_from_is_err_and c.from_residual.result c.from_residual.ensures.1 in
    rw (p.1, p.2) (stopped (λ done. IsComplete page pairs) page pairs _ BadFormat c.in_err-check_format.ensures c.requires)

pub returns-in_err-check_required : goal.returns-in_err-check_required
returns-in_err-check_required c =
    let page = c.args.page in let pairs = c.args.parameters.now in
    let p = err_from_is_err_and c.from_residual-in_err-check_required.result c.from_residual-in_err-check_required.ensures.1 in
    rw (p.1, p.2) (stopped (λ done. IsComplete page pairs) page pairs _ MissingParameter c.in_err-check_required.ensures (more page pairs BadFormat c.requires c.in_ok-check_format.ensures))

pub returns-in_err-check_height : goal.returns-in_err-check_height
returns-in_err-check_height c =
    let page = c.args.page in let pairs = c.args.parameters.now in
    let p = err_from_is_err_and c.from_residual-in_err-check_height.result c.from_residual-in_err-check_height.ensures.1 in
    rw (p.1, p.2) (stopped (λ done. IsComplete page pairs) page pairs _ MissingParameter c.in_err-check_height.ensures (more page pairs BadFormat c.requires c.in_ok-check_format.ensures))

pub returns : goal.returns
returns c =
    let page = c.args.page in let pairs = c.args.parameters.now in
    record {
      passed = more page pairs BadFormat c.requires c.in_ok-check_format.ensures;
      required = c.in_ok-check_required.ensures;
      paired = c.in_ok-check_height.ensures;
    }
