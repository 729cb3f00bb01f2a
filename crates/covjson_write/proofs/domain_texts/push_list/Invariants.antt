use Rattle.std.proofs.Common.{◌≡◌, ◌++◌, take, codes}
use Rattle.covjson_value.specs.Trees.{axis_value_data}
use Rattle.covjson_write.specs.HeadTexts.{items_between}
use Rattle.covjson_write.proofs.domain_texts.push_list.Given as goal

abbrev pub invariant-loop-place : goal.invariant-loop-place
invariant-loop-place l = l.text.items ≡ (l.fn.text.items ++ codes "{\"values\":[") ++ items_between (axis_value_data l.name) (take l.place l.values)
