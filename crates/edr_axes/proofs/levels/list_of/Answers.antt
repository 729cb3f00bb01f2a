use Rattle.std.proofs.Common.{◌∷◌, append_assoc, length, length-append, ap, arith}
use Rattle.std.proofs.lemmas.Result.{err_from_is_err_and}
use Rattle.edr_axes.proofs.LevelsLemmas.{list_parts, list_from, list_one}
use Rattle.edr_axes.proofs.levels.list_of.Goals as goal

pub loop-front-preserved : goal.loop-front-preserved
loop-front-preserved c =
    let rest = c.loop-front.rest.now in let front = c.in-Some.front.now in let back = c.in-Some.back.now in
    let pushed = c.in_ok-push_level.ensures.ok in
    record {
      whole = λ others is. rw (pushed.2, append_assoc) (c.loop-front.invariant.whole (pushed.0 ∷ others) (list_from rest front back pushed.0 others c.in-Some.ensures pushed.1 is));
      left = λ levels is. (let left = c.loop-front.invariant.left levels is in
          let parts = list_parts rest front back left.0 c.in-Some.ensures left.1 in
          (parts.1, parts.4));
    }

pub loop-front-smaller : goal.loop-front-smaller
loop-front-smaller c =
    omega (arith, ap length c.in-Some.ensures.text_is, length-append c.in-Some.front.now (44 ∷ c.in-Some.back.now))

pub returns-in_err-push_level-clause-none : goal.returns-in_err-push_level-clause-none
returns-in_err-push_level-clause-none c e levels is =
    let left = c.loop-front.invariant.left levels is in
    let parts = list_parts c.loop-front.rest.now c.in-Some.front.now c.in-Some.back.now left.0 c.in-Some.ensures left.1 in
    let fault = err_from_is_err_and c.from_residual.result c.from_residual.ensures.1 in
    c.in_err-push_level.ensures.none (cc (e, fault.1, fault.2)) parts.0 parts.3

pub returns-in_err-push_level-2-clause-none : goal.returns-in_err-push_level-2-clause-none
returns-in_err-push_level-2-clause-none c e levels is =
    let left = c.loop-front.invariant.left levels is in
    let one = list_one c.loop-front.rest.now left.0 c.in_default.ensures left.1 in
    let fault = err_from_is_err_and c.from_residual-in_err-push_level-2.result c.from_residual-in_err-push_level-2.ensures.1 in
    c.in_err-push_level-2.ensures.none (cc (e, fault.1, fault.2)) one.0 one.1
