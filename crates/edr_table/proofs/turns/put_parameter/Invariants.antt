use Rattle.std.proofs.Common.{◌≡◌, ◌++◌, take, drop, length}
use Rattle.std.specs.List.{flat_map}
use Rattle.edr_base.specs.Calls.{SinkLent, Gathered}
use Rattle.covjson_value.specs.declared.domains.CoordinateName.TheVariants.{T}
use Rattle.covjson_value.specs.Domains.{axis_of}
use Rattle.covjson_value.specs.Samples.{values_or_absent}
use Rattle.edr_table.specs.Turns.{lines_along, level_nodes}
use Rattle.edr_table.proofs.turns.put_parameter.Given as goal

abbrev pub invariant-loop-place : goal.invariant-loop-place
invariant-loop-place g l = record {
  left : l.left ≡ drop (length (flat_map (level_nodes l.domain) (take l.place (values_or_absent (axis_of l.domain T))))) l.values;
  gathered : Gathered (g.K.Sink.written l.fn.sink) (g.K.Sink.written l.sink) l.lines.gathered.items (l.fn.lines.gathered.items ++ lines_along l.parameter (flat_map (level_nodes l.domain) (take l.place (values_or_absent (axis_of l.domain T)))) l.values);
  flushed : g.K.Sink.flushed l.sink ≡ g.K.Sink.flushed l.fn.sink;
  lent : SinkLent (g.K.Sink.beside l.fn.sink) (g.K.Sink.beside l.sink) (g.K.Faults.faults l.fn.sink) (g.K.Faults.faults l.sink);
}
