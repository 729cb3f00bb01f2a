use Rattle.std.proofs.Common.{◌≡◌, take, map}
use Rattle.serde_json.specs.View.{view}
use Rattle.edr_describe.specs.Descriptions.{feature_data}
use Rattle.edr_describe.proofs.locations.feature_trees.Given as goal

abbrev pub invariant-loop-place : goal.invariant-loop-place
invariant-loop-place l = map view l.features.items ≡ map feature_data (take l.place l.stations.stations)
