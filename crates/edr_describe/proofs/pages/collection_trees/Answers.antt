use Rattle.std.proofs.Common.{rules, ◌≡◌, ◌<◌, [], ◌∷◌, ◌++◌, length, map, ap, ◌∙◌, arith}
use Rattle.std.proofs.lemmas.List.{take_all}
use Rattle.serde_json.specs.Data.{array}
use Rattle.serde_json.specs.View.{view, items_of}
use Rattle.serde_json.proofs.Views.{view-Array}
use Rattle.edr_describe.specs.Descriptions.{collection_page}
use Rattle.edr_describe.proofs.MoreTrees.{trees_more}
use Rattle.edr_describe.proofs.pages.collection_trees.Goals as goal

pub loop-place-preserved : goal.loop-place-preserved
loop-place-preserved c =
    let collections = c.args.edition.now.collections in
    let inside : c.loop-place.place < length collections = omega (arith, c.loop-place-test.true, c.len-place-end.ensures.len) in
    let d = c.collection_at.result.now in
    let pushed : c.push.new.self.items ≡ c.loop-place.pages.items ++ (c.in_ok-page.page ∷ []) = search rules in
    ap (map view) pushed
    ∙ trees_more collection_page collections c.loop-place.place d _ _ c.loop-place.invariant inside
    (c.in_ok-page.ensures ∙ ap collection_page (c.collection_at.ensures.at d))

pub returns : goal.returns
returns c =
    view-Array c.loop-place.pages
    ∙ ap (λ ds. array (items_of ds))
    (c.loop-place.invariant ∙ ap (map collection_page) (take_all _ _ (omega (arith, c.loop-place-test.false, c.len-place-end.ensures.len))))
