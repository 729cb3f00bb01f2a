use Rattle.std.proofs.Common.{◌+◌, ◌*◌, ◌≤◌, take}
use Rattle.json.specs.Filled.{Placed}
use Rattle.covjson_write.specs.Pieces.{values_from}
use Rattle.covjson_write.proofs.value_texts.place_values.Given as goal

abbrev pub invariant-loop-sample : goal.invariant-loop-sample
invariant-loop-sample l = record {
  text : Placed l.fn.buffer l.buffer l.start (values_from 1 (take l.sample-index l.samples)) l.at;
  short : l.at ≤ l.start + 24 * l.sample-index;
}
