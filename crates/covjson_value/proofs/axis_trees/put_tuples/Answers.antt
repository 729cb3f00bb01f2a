use Rattle.std.proofs.Common.{codes, refl, map, ap, ap₂, ◌∙◌, arith}
use Rattle.std.proofs.lemmas.List.{take_all}
use Rattle.std.proofs.lemmas.Result.{on_ok_weaker}
use Rattle.serde_json.specs.Data.{array, string, put}
use Rattle.serde_json.specs.View.{items_of}
use Rattle.serde_json.proofs.Views.{view-Array}
use Rattle.covjson_value.specs.Trees.{tuple_data}
use Rattle.covjson_value.proofs.Gathered.{views_more}
use Rattle.covjson_value.proofs.axis_trees.put_tuples.Goals as goal

pub returns : goal.returns
returns c =
    let gathered =
    view-Array c.loop-tuple.items
    ∙ ap (λ ds. array (items_of ds)) (c.loop-tuple.invariant ∙ ap (map (tuple_data c.args.names.now)) (take_all _ _ (omega arith))) in
    let before = c.in_ok-put_text.ensures ∙ ap (put (codes "dataType") (string (codes "tuple"))) c.in_ok-put_coordinates.ensures in
    on_ok_weaker c.put_tree.result (λ last. last ∙ ap₂ (put (codes "values")) gathered before) c.put_tree.ensures

pub loop-tuple-preserved : goal.loop-tuple-preserved
loop-tuple-preserved c =
    views_more (tuple_data c.args.names.now) c.args.tuples.now c.loop-tuple.tuple-index _ c.loop-tuple.items.items c.push_tuple.new.items.items _ c.loop-tuple-test.true c.loop-tuple.invariant refl c.in_ok-push_tuple.ensures

pub push_tuple-requires : goal.push_tuple-requires
push_tuple-requires c = c.requires c.loop-tuple.tuple-index _ c.loop-tuple-test.true
