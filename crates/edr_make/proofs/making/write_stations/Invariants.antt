use Rattle.std.proofs.Common.{◌-◌}
use Rattle.std.specs.List.{flat_map, range_with_len}
use Rattle.edr_base.specs.Calls.{SinkLent}
use Rattle.edr_make.specs.Made.{station_line, station_lines}
use Rattle.edr_make.specs.MadeParts.{Leaves}
use Rattle.edr_make.proofs.making.write_stations.Given as goal

abbrev pub invariant-loop-station : goal.invariant-loop-station
invariant-loop-station g l = record {
  text : Leaves (flat_map (station_line l.number l.times) (range_with_len l.station (l.stations - l.station))) (station_lines l.number l.times l.stations) (g.K.Sink.written l.fn.sink) (g.K.Sink.written l.sink);
  lent : SinkLent (g.K.Sink.beside l.fn.sink) (g.K.Sink.beside l.sink) (g.K.Faults.faults l.fn.sink) (g.K.Faults.faults l.sink);
}
