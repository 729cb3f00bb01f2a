use Rattle.std.proofs.Common.{◌∙◌, Err, ap, arith, rules}
use Rattle.std.proofs.lemmas.Result.{err_from_is_err_and}
use Rattle.edr_base.specs.Outside.{Aside}
use Rattle.edrd.proofs.RunLemmas.{stands_opened, leaves_opened, fault_cause, file_read}
use Rattle.edrd.proofs.feeding.feed_in.Goals as goal

pub returns-clause-feed : goal.returns-clause-feed
returns-clause-feed g c =
    stands_opened _ _ _ c.in-Ok.ensures.left c.in_ok-feed.ensures.editions

pub returns-clause-lines : goal.returns-clause-lines
returns-clause-lines g c = leaves_opened _ _ _ c.in-Ok.ensures.left c.in_ok-feed.ensures.lines

pub returns-clause-file : goal.returns-clause-file
returns-clause-file g c =
    let ready = ap (λ (aside : Aside). aside.idle) c.in_ok-feed.ensures.lent.same ∙ c.in-Ok.ensures.ready in
    file_read _ _ _ _ ready c.in-Ok.ensures.left c.in_ok-feed.ensures.bounded

pub returns-in_err-feed-clause-cause : goal.returns-in_err-feed-clause-cause
returns-in_err-feed-clause-cause g c =
    let p = err_from_is_err_and c.from_residual.result c.from_residual.ensures.1 in
    rw (p.1, p.2)
    (fault_cause c.in_err-feed.field-0.0 _ _ _ _ _ c.in-Ok.ensures.left c.in_err-feed.ensures.fault (λ is. (omega (arith, c.in-Ok.ensures.cause.later, c.in_err-feed.ensures.cause (ap Err is)), search rules)))

pub returns-in_err-feed-clause-file : goal.returns-in_err-feed-clause-file
returns-in_err-feed-clause-file g c =
    let ready = ap (λ (aside : Aside). aside.idle) c.in_err-feed.ensures.lent.same ∙ c.in-Ok.ensures.ready in
    file_read _ _ _ _ ready c.in-Ok.ensures.left c.in_err-feed.ensures.bounded
