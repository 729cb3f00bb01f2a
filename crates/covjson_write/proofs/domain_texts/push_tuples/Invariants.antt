use Rattle.std.proofs.Common.{◌≡◌, ◌++◌, take, codes}
use Rattle.covjson_value.specs.Trees.{tuple_data}
use Rattle.covjson_write.specs.HeadTexts.{items_between}
use Rattle.covjson_write.proofs.domain_texts.push_tuples.Given as goal

abbrev pub invariant-loop-place : goal.invariant-loop-place
invariant-loop-place l = l.text.items ≡ (l.fn.text.items ++ codes "[") ++ items_between (tuple_data l.names) (take l.place l.tuples)
