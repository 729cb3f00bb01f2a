use Rattle.edr_wkt.proofs.WktLemmas.{wkt-unique}
use Rattle.edr_wkt.proofs.laws.wkt_is_one.Goals as goal

pub returns : goal.returns
returns c = wkt-unique
