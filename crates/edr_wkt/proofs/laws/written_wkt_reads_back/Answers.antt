use Rattle.edr_wkt.proofs.SpellLemmas.{spelled-wkt}
use Rattle.edr_wkt.proofs.AnswerLemmas.{written-reads}
use Rattle.edr_wkt.proofs.laws.written_wkt_reads_back.Goals as goal

pub returns : goal.returns
returns c = record { stands = spelled-wkt; reads = written-reads }
