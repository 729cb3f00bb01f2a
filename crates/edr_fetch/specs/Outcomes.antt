-- For private clauses: why no link was connected, why a request wasn't written, and why no reply was read, as faults of an exchange.
use Rattle.edr_base.specs.declared.outside.Stop.{Stop}
use Rattle.edr_base.specs.declared.outside.Stop.TheVariants as stops
use Rattle.edr_base.specs.declared.sending.SendFault.{SendFault}
use Rattle.edr_base.specs.declared.sending.SendFault.TheVariants as sending
use Rattle.edr_client.specs.declared.replies.ReplyFault.{ReplyFault}
use Rattle.edr_client.specs.declared.replies.ReplyFault.TheVariants as replies
use Rattle.edr_fetch.specs.declared.fetching.FetchFault.{FetchFault}
use Rattle.edr_fetch.specs.declared.fetching.FetchFault.TheVariants.{ConnectFault, WriteFault, ReadFault, BadReply, NotData, Cov, OutOfMemory}

abbrev pub fault_of_connecting : Stop → FetchFault
fault_of_connecting stops.Failed = ConnectFault
fault_of_connecting stops.OutOfMemory = OutOfMemory

abbrev pub fault_of_sending : SendFault → FetchFault
fault_of_sending sending.WriteFault = WriteFault
fault_of_sending sending.OutOfMemory = OutOfMemory

abbrev pub fault_of : ReplyFault → FetchFault
fault_of replies.ReadFault = ReadFault
fault_of (replies.BadReply place) = BadReply place
fault_of (replies.NotData status code) = NotData status code
fault_of (replies.Cov fault) = Cov fault
fault_of replies.OutOfMemory = OutOfMemory
