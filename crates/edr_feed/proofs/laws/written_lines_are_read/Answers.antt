use Rattle.edr_feed.proofs.WrittenTrees.{lines_read}
use Rattle.edr_feed.proofs.laws.written_lines_are_read.Goals as goal

pub returns : goal.returns
returns c = lines_read c.coverages_are_plain.ensures c.plain_texts_read_back.ensures c.written_documents_are_read.ensures
