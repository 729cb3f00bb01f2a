use Rattle.std.proofs.Common.{◌≡◌, map, get_or, ap, ◌∙◌, sym, subst, w64, to_z, of_z, arith}
use Rattle.std.proofs.lemmas.List.{take_all}
use Rattle.serde_json.specs.Data.{array}
use Rattle.serde_json.specs.View.{items_of}
use Rattle.serde_json.proofs.Views.{view-Array}
use Rattle.covjson_value.specs.Domains.{coordinate}
use Rattle.covjson_value.specs.Trees.{axis_value_data}
use Rattle.covjson_value.specs.declared.domains.CoordinateName.TheVariants.{T}
use Rattle.covjson_value.specs.Coverages.{IsAxisValue}
use Rattle.covjson_value.proofs.AxisValues.{axis_value_kept}
use Rattle.covjson_value.proofs.Gathered.{views_more, push_gathered}
use Rattle.covjson_value.proofs.axis_trees.push_tuple.Goals as goal

pub returns : goal.returns
returns c =
    push_gathered c.push_tree.result _ _ c.args.items.now.items c.push_tree.new.trees.items
    (view-Array c.loop-name.values
    ∙ ap (λ ds. array (items_of ds)) (c.loop-name.invariant ∙ ap (map (λ name. axis_value_data name (coordinate name c.args.tuple.now))) (take_all _ _ (omega arith))))
    c.push_tree.ensures

pub loop-name-preserved : goal.loop-name-preserved
loop-name-preserved c =
    let name = get_or c.args.names.now c.loop-name.name-index T in
    let value = coordinate name c.args.tuple.now in
    let is : to_z w64 (of_z w64 c.coordinate.result) ≡ value =
    ap (λ v. to_z w64 (of_z w64 v)) c.coordinate.ensures
    ∙ axis_value_kept name value (c.requires c.loop-name.name-index T c.loop-name-test.true) in
    views_more (λ name. axis_value_data name (coordinate name c.args.tuple.now)) c.args.names.now c.loop-name.name-index T c.loop-name.values.items c.push_axis_value.new.items.items _ c.loop-name-test.true c.loop-name.invariant
    (ap (axis_value_data name) is) c.in_ok-push_axis_value.ensures

pub push_axis_value-requires : goal.push_axis_value-requires
push_axis_value-requires c =
    let name = get_or c.args.names.now c.loop-name.name-index T in
    let value = coordinate name c.args.tuple.now in
    let within = c.requires c.loop-name.name-index T c.loop-name-test.true in
    subst (IsAxisValue name) (sym (ap (λ v. to_z w64 (of_z w64 v)) c.coordinate.ensures ∙ axis_value_kept name value within)) within
