use Rattle.edr_feed.proofs.WrittenFeeds.{feeds_read}
use Rattle.edr_feed.proofs.laws.written_feeds_are_read.Goals as goal

pub returns : goal.returns
returns c = feeds_read c.written_lines_are_read.ensures
