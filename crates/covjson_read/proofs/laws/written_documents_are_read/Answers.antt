use Rattle.covjson_read.proofs.WrittenDocuments.{documents_written}
use Rattle.covjson_read.proofs.laws.written_documents_are_read.Goals as goal

pub returns : goal.returns
returns c = documents_written c.document_texts_read_back.ensures c.written_domains_stand.ensures c.written_ranges_stand.ensures
