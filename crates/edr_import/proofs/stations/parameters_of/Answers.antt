use Rattle.std.proofs.Common.{rules, ◌≡◌, ◌<◌, length, ◌++◌, ◌∷◌, [], ◌∙◌, ap, map, take_all}
use Rattle.edr_import.specs.Tables.{labelled}
use Rattle.edr_import.proofs.LineLemmas.{labels_more}
use Rattle.edr_import.proofs.stations.parameters_of.Goals as goal

pub loop-place-preserved : goal.loop-place-preserved
loop-place-preserved c =
    let pushed : c.push.new.self.items ≡ c.loop-place.parameters.items ++ c.in_ok-parameter_of.field-0 ∷ [] = search rules in
    let inside : c.loop-place.place < length c.args.names.now = search rules in
    pushed ∙ labels_more c.args.names.now c.loop-place.place c.at.result.now c.loop-place.parameters.items c.in_ok-parameter_of.field-0 inside c.at.ensures c.loop-place.invariant c.in_ok-parameter_of.ensures

pub returns : goal.returns
returns c =
    let same : c.of.result ≡ c.loop-place.parameters.items = search rules in
    same ∙ (c.loop-place.invariant ∙ ap (map labelled) (take_all c.loop-place.place c.args.names.now (search rules)))
