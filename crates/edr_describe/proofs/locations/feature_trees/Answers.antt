use Rattle.std.proofs.Common.{rules, ◌≡◌, ◌<◌, [], ◌∷◌, ◌++◌, length, map, ap, ◌∙◌, arith}
use Rattle.std.proofs.lemmas.List.{take_all}
use Rattle.serde_json.specs.Data.{array}
use Rattle.serde_json.specs.View.{view, items_of}
use Rattle.serde_json.proofs.Views.{view-Array}
use Rattle.edr_station.specs.Stations.{nowhere}
use Rattle.edr_describe.specs.Descriptions.{feature_data}
use Rattle.edr_describe.proofs.MoreTrees.{trees_more}
use Rattle.edr_describe.proofs.locations.feature_trees.Goals as goal

pub loop-place-preserved : goal.loop-place-preserved
loop-place-preserved c =
    let stations = c.args.stations.now.stations in
    let inside : c.loop-place.place < length stations = omega (arith, c.loop-place-test.true, c.len-place-end.ensures.len) in
    let pushed : c.push.new.self.items ≡ c.loop-place.features.items ++ (c.in_ok-feature.feature ∷ []) = search rules in
    ap (map view) pushed
    ∙ trees_more feature_data stations c.loop-place.place nowhere _ _ c.loop-place.invariant inside
    (c.in_ok-feature.ensures ∙ ap feature_data c.station.ensures.at)

pub returns : goal.returns
returns c =
    view-Array c.loop-place.features
    ∙ ap (λ ds. array (items_of ds))
    (c.loop-place.invariant ∙ ap (map feature_data) (take_all _ _ (omega (arith, c.loop-place-test.false, c.len-place-end.ensures.len))))
