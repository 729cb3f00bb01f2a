use Rattle.std.proofs.Common.{ℕ, List, codes, ◌++◌, ap, ◌∙◌}
use Rattle.std.proofs.lemmas.Result.{on_ok_weaker}
use Rattle.json.specs.Print.{quoted}
use Rattle.covjson_value.specs.AxisNames.{axis_key, axis_name}
use Rattle.covjson_value.specs.Domains.{range_axis_of}
use Rattle.covjson_write.specs.HeadTexts.{item_before}
use Rattle.covjson_write.proofs.AxisItems.{given_put, some_stand, told}
use Rattle.covjson_write.proofs.axis_texts.push_name.Goals as goal

pub returns : goal.returns
returns c =
    let given = range_axis_of c.args.domain.now c.args.name in
    let begin : List ℕ = codes "\"axisNames\":[" in
    let there = told _ c.range_axis.result given c.if-is_none.ensures c.range_axis.ensures in
    record {
      text = given_put c.push_item.result (λ _. quoted (axis_key (axis_name c.args.name))) given there.0 c.args.later begin c.args.text.now.items c.push_item.new.text.items there.1
          (on_ok_weaker c.push_item.result
          (λ put. put ∙ ap (λ t. c.args.text.now.items ++ (item_before c.args.later begin ++ t)) (c.quoted_axis.ensures ∙ ap (λ name. quoted (axis_key name)) c.axis_name.ensures)) c.push_item.ensures.text);
      later = some_stand c.push_item.result given there.0 c.args.later there.1 c.push_item.ensures.later;
    }
