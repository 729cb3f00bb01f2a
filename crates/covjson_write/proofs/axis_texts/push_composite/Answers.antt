use Rattle.std.proofs.Common.{codes}
use Rattle.json.specs.Print.{quoted}
use Rattle.json.proofs.OnLiterals.{json_on_literals}
use Rattle.covjson_value.specs.declared.axis_names.AxisName.TheVariants.{Composite}
use Rattle.covjson_value.specs.AxisNames.{axis_key}
use Rattle.covjson_value.specs.Domains.{range_tuples_of}
use Rattle.covjson_write.proofs.AxisItems.{given_put, some_stand, told}
use Rattle.covjson_write.proofs.axis_texts.push_composite.Goals as goal

pub returns : goal.returns
unfolding json_on_literals
returns c =
    let given = range_tuples_of c.args.domain.now in
    let there = told _ c.range_tuples.result given c.if-is_none.ensures c.range_tuples.ensures in
    record {
      text = given_put c.push_item.result (λ _. quoted (axis_key Composite)) given there.0 c.args.later (codes "\"axisNames\":[") c.args.text.now.items c.push_item.new.text.items there.1 c.push_item.ensures.text;
      later = some_stand c.push_item.result given there.0 c.args.later there.1 c.push_item.ensures.later;
    }
