use Rattle.std.proofs.Common.{◌++◌, option_map, ap, ◌∙◌}
use Rattle.json.specs.Print.{quoted}
use Rattle.covjson_value.specs.AxisNames.{axis_key, axis_name}
use Rattle.covjson_value.specs.Trees.{axis_data}
use Rattle.covjson_write.specs.HeadTexts.{member_text}
use Rattle.covjson_write.proofs.HeadTextLemmas.{member_put}
use Rattle.covjson_write.proofs.domain_texts.push_axis.Goals as goal

pub returns-clause-text : goal.returns-clause-text
returns-clause-text c =
    let start = c.args.text.now.items in
    let name = c.args.name in
    let key = axis_key (axis_name name) in
    let named = c.in_ok-push_bytes.ensures ∙ ap (λ t. c.push_comma.new.text.items ++ t) (c.quoted_axis.ensures ∙ ap (λ n. quoted (axis_key n)) c.axis_name.ensures) in
    member_put c.args.later key (axis_data name c.in-Some.values.now) start _ _ _ _ c.in_ok-push_comma.ensures named c.in_ok-push_bytes-2.ensures c.in_ok-push_values.ensures
    ∙ ap (λ given. start ++ member_text c.args.later key (option_map (axis_data name) given)) c.in-Some.ensures.values
