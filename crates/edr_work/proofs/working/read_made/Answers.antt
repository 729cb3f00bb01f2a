use Rattle.std.proofs.lemmas.Result.{err_from_is_err_and}
use Rattle.edr_feed.specs.Refusals.{refusal_of}
use Rattle.edr_work.proofs.FeedLemmas.{stands_for, fault_for}
use Rattle.edr_work.proofs.working.read_made.Goals as goal

pub returns : goal.returns
returns c = (stands_for _ _ c.args.number _ c.of-source.ensures.left c.in_ok-made_of.ensures c.in_ok-read_feed.ensures.editions, c.in_ok-read_feed.ensures.log)

pub returns-in_err-read_feed : goal.returns-in_err-read_feed
returns-in_err-read_feed c =
    let p = err_from_is_err_and c.from_residual-in_err-read_feed.result c.from_residual-in_err-read_feed.ensures.1 in
    rw (p.1, p.2) (fault_for _ _ c.args.number (refusal_of c.in_err-read_feed.field-0.0) c.of-source.ensures.left c.in_ok-made_of.ensures c.in_err-read_feed.ensures.fault)
