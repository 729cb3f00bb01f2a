use Rattle.std.proofs.Common.{◌≡◌, ◌++◌, take, codes}
use Rattle.covjson_value.specs.Domains.{coordinate}
use Rattle.covjson_value.specs.Trees.{axis_value_data}
use Rattle.covjson_write.specs.HeadTexts.{items_between}
use Rattle.covjson_write.proofs.domain_texts.push_tuple.Given as goal

abbrev pub invariant-loop-place : goal.invariant-loop-place
invariant-loop-place l = l.text.items ≡ (l.fn.text.items ++ codes "[") ++ items_between (λ name. axis_value_data name (coordinate name l.tuple)) (take l.place l.names)
