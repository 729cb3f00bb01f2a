use Rattle.std.proofs.Common.{◌≡◌, take, map}
use Rattle.serde_json.specs.View.{view}
use Rattle.edr_describe.specs.Descriptions.{collection_page}
use Rattle.edr_describe.proofs.pages.collection_trees.Given as goal

abbrev pub invariant-loop-place : goal.invariant-loop-place
invariant-loop-place l = map view l.pages.items ≡ map collection_page (take l.place l.edition.collections)
