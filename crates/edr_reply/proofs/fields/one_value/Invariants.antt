use Rattle.std.proofs.Common.{◌≤◌}
use Rattle.edr_reply.proofs.FieldLemmas.{Found, so_far}
use Rattle.edr_reply.proofs.fields.one_value.Given as goal

abbrev pub invariant-loop-field : goal.invariant-loop-field
invariant-loop-field l = record {
  few : l.count ≤ l.field-index;
  found : Found (so_far l.name l.bytes l.fields l.field-index) l.count l.value;
}
