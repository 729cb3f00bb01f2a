-- The fault of a piece that isn't written whole.
use Rattle.edr_base.specs.declared.outside.Stop.{Stop}
use Rattle.edr_base.specs.declared.outside.Stop.TheVariants.{Failed, OutOfMemory}
use Rattle.edr_base.specs.declared.sending.SendFault.{SendFault}
use Rattle.edr_base.specs.declared.sending.SendFault.TheVariants as to

-- the fault that a call on a sink comes to
abbrev pub fault_of : Stop → SendFault
fault_of Failed = to.WriteFault
fault_of OutOfMemory = to.OutOfMemory
