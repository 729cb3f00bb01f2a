use Rattle.edr_csv.proofs.TableLemmas.{document_reads_back}
use Rattle.edr_csv.proofs.tables.written_values_are_read.Goals as goal

pub returns : goal.returns
returns c = document_reads_back
