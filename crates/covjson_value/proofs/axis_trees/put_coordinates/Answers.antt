use Rattle.std.proofs.Common.{codes, map, ap, ◌∙◌, arith}
use Rattle.std.proofs.lemmas.List.{take_all}
use Rattle.serde_json.specs.Data.{array, string}
use Rattle.serde_json.specs.View.{items_of, members_view}
use Rattle.serde_json.proofs.Views.{view-Array}
use Rattle.covjson_value.specs.Domains.{coordinate_key}
use Rattle.covjson_value.proofs.Gathered.{views_more, put_gathered}
use Rattle.covjson_value.proofs.axis_trees.put_coordinates.Goals as goal

pub returns : goal.returns
returns c =
    put_gathered c.put_tree.result (codes "coordinates") _ _ (members_view c.args.members.now.entries) _
    (view-Array c.loop-name.items
    ∙ ap (λ ds. array (items_of ds)) (c.loop-name.invariant ∙ ap (map (λ name. string (coordinate_key name))) (take_all _ _ (omega arith))))
    c.put_tree.ensures

pub loop-name-preserved : goal.loop-name-preserved
loop-name-preserved c =
    views_more (λ name. string (coordinate_key name)) c.args.names.now c.loop-name.name-index _ c.loop-name.items.items c.push_text.new.trees.items _ c.loop-name-test.true c.loop-name.invariant (ap string c.letter.ensures) c.in_ok-push_text.ensures
