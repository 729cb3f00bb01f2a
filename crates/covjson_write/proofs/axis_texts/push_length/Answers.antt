use Rattle.std.proofs.Common.{codes}
use Rattle.covjson_value.specs.Domains.{range_axis_of}
use Rattle.covjson_write.specs.HeadTexts.{length_text}
use Rattle.covjson_write.proofs.AxisItems.{given_put, some_stand}
use Rattle.covjson_write.proofs.axis_texts.push_length.Goals as goal

pub returns : goal.returns
returns c =
    let given = range_axis_of c.args.domain.now c.args.name in
    record {
      text = given_put c.push_count.result length_text given c.in-Some.values.now c.args.later (codes ",\"shape\":[") c.args.text.now.items c.push_count.new.text.items c.in-Some.ensures c.push_count.ensures.text;
      later = some_stand c.push_count.result given c.in-Some.values.now c.args.later c.in-Some.ensures c.push_count.ensures.later;
    }
