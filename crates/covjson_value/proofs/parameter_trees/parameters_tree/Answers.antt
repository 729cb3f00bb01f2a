use Rattle.std.proofs.Common.{ap, ◌∙◌}
use Rattle.serde_json.specs.Data.{object}
use Rattle.serde_json.proofs.Views.{view-Object}
use Rattle.covjson_value.specs.Trees.{members_in_order}
use Rattle.covjson_value.proofs.NamedParts.{put_parts, parameters_more, parameters_all}
use Rattle.covjson_value.proofs.parameter_trees.parameters_tree.Goals as goal

pub returns : goal.returns
returns c =
    view-Object c.loop-parameter.members
    ∙ ap object (c.loop-parameter.invariant ∙ ap members_in_order (parameters_all c.args.parameters.now c.loop-parameter.parameter-index c.loop-parameter-test.false))

pub loop-parameter-preserved : goal.loop-parameter-preserved
loop-parameter-preserved c =
    let more = parameters_more c.args.parameters.now c.loop-parameter.parameter-index c.parameter-item.result c.loop-parameter-test.true c.requires.ascending c.parameter-item.is in
    c.in_ok-put_tree.ensures ∙ put_parts _ _ _ _ _ _ (c.text_of.ensures ∙ c.bytes.ensures) c.in_ok-tree.ensures c.loop-parameter.invariant ∙ more
