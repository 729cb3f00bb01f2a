use Rattle.std.proofs.Common.{◌≡◌, take, map}
use Rattle.json.specs.Print.{quoted}
use Rattle.covjson_value.specs.Coverages.{ids_of}
use Rattle.covjson_write.proofs.heads.keys_of.Given as goal

abbrev pub invariant-loop-parameter : goal.invariant-loop-parameter
invariant-loop-parameter l = l.keys.items ≡ map quoted (ids_of (take l.parameter-index l.parameters))
