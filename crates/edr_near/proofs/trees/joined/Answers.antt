use Rattle.std.proofs.Common.{subst}
use Rattle.edr_near.specs.Trees.{IsFramed}
use Rattle.edr_near.proofs.Sides.{framed_both, fork_framed}
use Rattle.edr_near.proofs.trees.joined.Goals as goal

pub invariant_of-result : goal.invariant_of-result
invariant_of-result g c =
    let spot_of = g.T.Placed.spot_of in
    let front_frame = c.before-2.inside.frame in
    let back_frame = c.behind.inside.frame in
    let front = subst (IsFramed spot_of front_frame) c.before-2.view_is c.before-2.invariant.1 in
    let back = subst (IsFramed spot_of back_frame) c.behind.view_is c.behind.invariant.1 in
    let all = framed_both spot_of front_frame back_frame c.and-frame.result c.args.before c.args.behind front back c.and-frame.ensures.frame c.and-frame.ensures.first c.and-frame.ensures.second in
    fork_framed spot_of c.and-frame.result _ _ c.in_ok-new.ensures.ok front.some back.some all
