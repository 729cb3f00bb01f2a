use Rattle.std.proofs.Common.{rules, ◌≡◌, ◌<◌, [], ◌∷◌, ◌++◌, length, map, ap, ◌∙◌, arith}
use Rattle.std.proofs.lemmas.List.{take_all}
use Rattle.serde_json.specs.Data.{array}
use Rattle.serde_json.specs.View.{view, items_of}
use Rattle.serde_json.proofs.Views.{view-Array}
use Rattle.edr_describe.specs.Descriptions.{instance_page}
use Rattle.edr_describe.proofs.MoreTrees.{trees_more}
use Rattle.edr_describe.proofs.pages.instance_trees.Goals as goal

pub loop-place-preserved : goal.loop-place-preserved
loop-place-preserved c =
    let collection = c.args.collection.now in
    let inside : c.loop-place.place < length collection.instances = omega (arith, c.loop-place-test.true, c.instances-place-end.ensures.instances) in
    let d = c.instance_at.result.now in
    let pushed : c.push.new.self.items ≡ c.loop-place.pages.items ++ (c.in_ok-page.page ∷ []) = search rules in
    ap (map view) pushed
    ∙ trees_more (instance_page collection) collection.instances c.loop-place.place d _ _ c.loop-place.invariant inside
    (c.in_ok-page.ensures ∙ ap (instance_page collection) (c.instance_at.ensures.at d))

pub returns : goal.returns
returns c =
    view-Array c.loop-place.pages
    ∙ ap (λ ds. array (items_of ds))
    (c.loop-place.invariant ∙ ap (map (instance_page c.args.collection.now)) (take_all _ _ (omega (arith, c.loop-place-test.false, c.instances-place-end.ensures.instances))))
