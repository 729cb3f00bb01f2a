-- For private clauses: why a piece wasn't read, as a fault.
use Rattle.edr_wkt.specs.declared.lists.Stop.{Stop}
use Rattle.edr_wkt.specs.declared.lists.Stop.TheVariants as stops
use Rattle.edr_wkt.specs.declared.faults.WktFault.{WktFault}
use Rattle.edr_wkt.specs.declared.faults.WktFault.TheVariants as faults

abbrev pub fault_of : Stop → WktFault
fault_of stops.NotWkt = faults.NotWkt
fault_of stops.OutOfMemory = faults.OutOfMemory
