use Rattle.std.proofs.Common.{codes, None, map, ap, ◌∙◌, arith}
use Rattle.std.proofs.lemmas.List.{take_all}
use Rattle.serde_json.specs.Data.{array}
use Rattle.serde_json.specs.View.{items_of, members_view}
use Rattle.serde_json.proofs.Views.{view-Array}
use Rattle.covjson_value.specs.Trees.{sample_data}
use Rattle.covjson_value.proofs.Gathered.{views_more, put_gathered}
use Rattle.covjson_value.proofs.leaves.put_samples.Goals as goal

pub returns : goal.returns
returns c =
    put_gathered c.put_tree.result (codes "values") _ _ (members_view c.args.members.now.entries) _
    (view-Array c.loop-sample.items
    ∙ ap (λ ds. array (items_of ds)) (c.loop-sample.invariant ∙ ap (map sample_data) (take_all _ _ (omega arith))))
    c.put_tree.ensures

pub loop-sample-preserved : goal.loop-sample-preserved
loop-sample-preserved c =
    views_more sample_data c.args.samples.now c.loop-sample.sample-index None c.loop-sample.items.items c.push_tree.new.trees.items _ c.loop-sample-test.true c.loop-sample.invariant c.sample_tree.ensures c.in_ok-push_tree.ensures
