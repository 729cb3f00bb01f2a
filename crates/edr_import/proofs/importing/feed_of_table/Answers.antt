use Rattle.std.proofs.Common.{subst, sym}
use Rattle.edr_import.specs.Stations.{AreGood}
use Rattle.edr_import.specs.Importing.{MatchFeed}
use Rattle.edr_import.proofs.FeedLemmas.{table_good, feed_read}
use Rattle.edr_import.proofs.importing.feed_of_table.Goals as goal

pub feed_of_observations-requires : goal.feed_of_observations-requires
feed_of_observations-requires c = subst AreGood (sym c.into_vec.ensures) (table_good c.args.bytes.now c.in_ok-observations.observations c.in_ok-observations.ensures)

pub returns : goal.returns
returns c =
    feed_read c.args.bytes.now c.in_ok-observations.observations c.in_ok-observations.ensures c.feed_of_observations.result
    (subst (MatchFeed c.feed_of_observations.result) c.into_vec.ensures c.feed_of_observations.ensures)
