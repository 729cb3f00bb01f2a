use Rattle.std.proofs.Common.{◌≡◌, ◌++◌, false, map, take, codes}
use Rattle.covjson_write.specs.HeadTexts.{with_commas, keyed_parameter}
use Rattle.covjson_write.proofs.parameter_texts.push_parameters.Given as goal

abbrev pub invariant-loop-place : goal.invariant-loop-place
invariant-loop-place l = l.text.items ≡ (l.fn.text.items ++ codes "{") ++ with_commas false (map keyed_parameter (take l.place l.parameters))
