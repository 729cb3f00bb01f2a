use Rattle.std.proofs.Common.{◌≡◌, drop, true}
use Rattle.edr_samples.specs.Trees.{items_view}
use Rattle.covjson_domains.specs.declared.tuples.Test.TheVariants.{Within}
use Rattle.covjson_checks.specs.Answers.{onto}
use Rattle.covjson_domains.specs.TupleAnswers as tuples
use Rattle.covjson_domains.proofs.tuples.read_tuples.Given as goal

-- those of the rest, after those that were found, are the tuples
abbrev pub invariant-loop-place : goal.invariant-loop-place
invariant-loop-place l = record {
  pass : tuples.tuples_pass Within l.names (items_view (drop l.place l.items.items)) ≡ true;
  rest : onto l.found.items (tuples.tuples_from l.names l.place (items_view (drop l.place l.items.items))) ≡ tuples.tuples_from l.names 0 (items_view l.items.items);
}
