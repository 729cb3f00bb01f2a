-- The fault of a text that isn't read to a tree.
use Rattle.edr_samples.specs.declared.faults.JsonFault.{JsonFault}
use Rattle.edr_samples.specs.declared.faults.JsonFault.TheVariants as json
use Rattle.covjson_checks.specs.declared.faults.CovFault.{CovFault}
use Rattle.covjson_checks.specs.declared.faults.CovFault.TheVariants.{NotJson, OutOfMemory}

abbrev pub fault_of_text : JsonFault → CovFault
fault_of_text json.NotJson = NotJson
fault_of_text json.OutOfMemory = OutOfMemory
