use Rattle.std.proofs.Common.{codes, map, get_or, pos, ap, ◌∙◌, sym, subst, arith}
use Rattle.std.proofs.lemmas.List.{take_all}
use Rattle.std.proofs.lemmas.Result.{IfOk-weaker}
use Rattle.serde_json.specs.Data.{array, object, no_members, member}
use Rattle.serde_json.specs.View.{items_of}
use Rattle.serde_json.proofs.Views.{view-Array}
use Rattle.covjson_value.specs.Trees.{axis_value_data}
use Rattle.covjson_value.specs.Coverages.{IsAxisValue}
use Rattle.covjson_value.proofs.AxisValues.{axis_value_kept}
use Rattle.covjson_value.proofs.Gathered.{views_more}
use Rattle.covjson_value.proofs.axis_trees.list_tree.Goals as goal

pub returns : goal.returns
returns c =
    let gathered =
    view-Array c.loop-value.items
    ∙ ap (λ ds. array (items_of ds)) (c.loop-value.invariant ∙ ap (map (axis_value_data c.args.name)) (take_all _ _ (omega arith))) in
    IfOk-weaker c.only_member.result _ _ (λ v is. is ∙ ap (λ d. object (member (codes "values") d no_members)) gathered) c.only_member.ensures

pub loop-value-preserved : goal.loop-value-preserved
loop-value-preserved c =
    let kept = axis_value_kept c.args.name (get_or c.args.values.now c.loop-value.value-index (pos 0)) (c.requires c.loop-value.value-index (pos 0) c.loop-value-test.true) in
    views_more (axis_value_data c.args.name) c.args.values.now c.loop-value.value-index (pos 0) c.loop-value.items.items c.push_axis_value.new.items.items _ c.loop-value-test.true c.loop-value.invariant
    (ap (axis_value_data c.args.name) kept) c.in_ok-push_axis_value.ensures

pub push_axis_value-requires : goal.push_axis_value-requires
push_axis_value-requires c =
    let within = c.requires c.loop-value.value-index (pos 0) c.loop-value-test.true in
    subst (IsAxisValue c.args.name) (sym (axis_value_kept c.args.name _ within)) within
