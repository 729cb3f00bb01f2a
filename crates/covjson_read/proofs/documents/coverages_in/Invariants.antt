use Rattle.std.proofs.Common.{◌≡◌, drop, All}
use Rattle.edr_samples.specs.Trees.{tree_view, items_view}
use Rattle.covjson_value.specs.Coverages.{IsValid}
use Rattle.covjson_checks.specs.Answers.{each, onto}
use Rattle.covjson_read.specs.CoverageAnswers.{coverage_in}
use Rattle.covjson_read.proofs.documents.coverages_in.Given as goal

abbrev pub invariant-loop-item : goal.invariant-loop-item
invariant-loop-item l = record {
  answer : onto l.coverages.items (each (coverage_in (tree_view l.collection)) (items_view (drop l.item-index l.items.items))) ≡ each (coverage_in (tree_view l.collection)) (items_view l.items.items);
  valid : All IsValid l.coverages.items;
}
