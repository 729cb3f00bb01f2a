use Rattle.edr_wkt.proofs.FaultLemmas.{faultless_none}
use Rattle.edr_wkt.proofs.laws.faultless_geometries_have_no_fault.Goals as goal

pub returns : goal.returns
returns c = faultless_none
