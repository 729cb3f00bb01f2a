-- Connections that are accepted, and what became of them.
use Rattle.std.specs.Prelude.{Result}
use Rattle.edr_serve.specs.declared.connections.Connection.{Connection}
use Rattle.edr_serve.specs.declared.connections.Served.{Served}
use Rattle.edr_serve.specs.declared.reports.SessionReport.{SessionReport}
use Rattle.edr_serve.specs.declared.reports.SessionFault.{SessionFault}

-- the source and the sink of a connection
abbrev pub source_of : {S K : Type 0} → Connection S K → S
source_of connection = connection.source

abbrev pub sink_of : {S K : Type 0} → Connection S K → K
sink_of connection = connection.sink

-- the source and the sink as a session left them, and how it came out
abbrev pub served_source : {S K : Type 0} → Served S K → S
served_source served = served.source

abbrev pub served_sink : {S K : Type 0} → Served S K → K
served_sink served = served.sink

abbrev pub outcome_of : {S K : Type 0} → Served S K → Result SessionReport SessionFault
outcome_of served = served.outcome
