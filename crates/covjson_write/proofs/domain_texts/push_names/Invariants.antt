use Rattle.std.proofs.Common.{◌≡◌, ◌++◌, take, codes}
use Rattle.serde_json.specs.Data.{string}
use Rattle.covjson_value.specs.Domains.{coordinate_key}
use Rattle.covjson_write.specs.HeadTexts.{items_between}
use Rattle.covjson_write.proofs.domain_texts.push_names.Given as goal

abbrev pub invariant-loop-place : goal.invariant-loop-place
invariant-loop-place l = l.text.items ≡ (l.fn.text.items ++ codes "[") ++ items_between (λ name. string (coordinate_key name)) (take l.place l.names)
