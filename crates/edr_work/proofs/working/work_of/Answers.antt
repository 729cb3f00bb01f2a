use Rattle.edr_work.proofs.FeedLemmas.{work_is}
use Rattle.edr_work.proofs.working.work_of.Goals as goal

pub returns : goal.returns
returns c = work_is c.lines_of.result c.args.number _ _ _ c.lines_of.ensures c.in_ok-feed.ensures.0 c.items.ensures c.last_of.ensures
