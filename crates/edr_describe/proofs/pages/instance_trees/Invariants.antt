use Rattle.std.proofs.Common.{◌≡◌, take, map}
use Rattle.serde_json.specs.View.{view}
use Rattle.edr_describe.specs.Descriptions.{instance_page}
use Rattle.edr_describe.proofs.pages.instance_trees.Given as goal

abbrev pub invariant-loop-place : goal.invariant-loop-place
invariant-loop-place l = map view l.pages.items ≡ map (instance_page l.collection) (take l.place l.collection.instances)
