use Rattle.std.proofs.Common.{◌≡◌, take, map}
use Rattle.serde_json.specs.View.{view}
use Rattle.covjson_value.specs.Trees.{coverage_data}
use Rattle.covjson_value.proofs.trees.collection_tree.Given as goal

abbrev pub invariant-loop-coverage : goal.invariant-loop-coverage
invariant-loop-coverage l = map view l.items.items ≡ map coverage_data (take l.coverage-index l.coverages)
