use Rattle.std.proofs.Common.{◌≡◌, ◌++◌, take, drop, length}
use Rattle.std.specs.List.{flat_map}
use Rattle.edr_base.specs.Calls.{SinkLent, Gathered}
use Rattle.covjson_value.specs.declared.domains.CoordinateName.TheVariants.{T}
use Rattle.covjson_value.specs.Domains.{axis_of}
use Rattle.covjson_value.specs.Samples.{values_or_absent}
use Rattle.edr_csv.specs.Turns.{records_along, level_nodes}
use Rattle.edr_csv.proofs.turns.put_parameter.Given as goal

abbrev pub invariant-loop-place : goal.invariant-loop-place
invariant-loop-place g l = record {
  left : l.left ≡ drop (length (flat_map (level_nodes l.domain) (take l.place (values_or_absent (axis_of l.domain T))))) l.values;
  gathered : Gathered (g.K.Sink.written l.fn.sink) (g.K.Sink.written l.sink) l.records.gathered.items (l.fn.records.gathered.items ++ records_along l.id l.parameter (flat_map (level_nodes l.domain) (take l.place (values_or_absent (axis_of l.domain T)))) l.values);
  flushed : g.K.Sink.flushed l.sink ≡ g.K.Sink.flushed l.fn.sink;
  lent : SinkLent (g.K.Sink.beside l.fn.sink) (g.K.Sink.beside l.sink) (g.K.Faults.faults l.fn.sink) (g.K.Faults.faults l.sink);
}
