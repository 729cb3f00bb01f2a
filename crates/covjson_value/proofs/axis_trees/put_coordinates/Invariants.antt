use Rattle.std.proofs.Common.{◌≡◌, take, map}
use Rattle.serde_json.specs.Data.{string}
use Rattle.serde_json.specs.View.{view}
use Rattle.covjson_value.specs.Domains.{coordinate_key}
use Rattle.covjson_value.proofs.axis_trees.put_coordinates.Given as goal

abbrev pub invariant-loop-name : goal.invariant-loop-name
invariant-loop-name l = map view l.items.items ≡ map (λ name. string (coordinate_key name)) (take l.name-index l.names)
