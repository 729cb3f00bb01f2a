use Rattle.edr_query.proofs.SpelledQueries.{written_asks}
use Rattle.edr_query.proofs.laws.written_queries_read_back.Goals as goal

pub returns : goal.returns
returns c =
    written_asks c.wkt_is_one.ensures c.times_are_unique.ensures c.levels_are_unique.ensures c.distances_are_unique.ensures c.written_wkt_reads_back.ensures.stands c.written_times_are_instants.ensures c.times_are_written.ensures
