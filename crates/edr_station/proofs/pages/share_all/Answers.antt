use Rattle.std.proofs.Common.{◌≡◌, ◌++◌, ◌∷◌, [], List, sym, ap, ◌∙◌, take, append_assoc}
use Rattle.std.specs.Arc.{arc_value}
use Rattle.edr_station.specs.Stations.{StationValue}
use Rattle.edr_station.specs.Shelves.{stations_of}
use Rattle.edr_station.proofs.SharedLists.{taken_more, pushed}
use Rattle.edr_station.proofs.pages.share_all.Goals as goal

pub loop-station-preserved : goal.loop-station-preserved
loop-station-preserved c =
    let shared = c.args.stations.now in
    let i = c.loop-station.station-index in
    let s = c.station-item.result in
    let first = stations_of c.args.shared.now.items in
    let clone : arc_value c.in_ok-try_clone.field-0 ≡ arc_value s = c.in_ok-try_clone.ensures in
    ap stations_of c.in_ok-push.ensures.items
    ∙ (pushed c.loop-station.shared.items c.in_ok-try_clone.field-0
    ∙ (ap (λ (x : StationValue). stations_of c.loop-station.shared.items ++ x ∷ []) clone
    ∙ (ap (λ (l : List StationValue). l ++ arc_value s ∷ []) c.loop-station.invariant
    ∙ (append_assoc first (take i (stations_of shared)) (arc_value s ∷ [])
    ∙ ap (λ (l : List StationValue). first ++ l) (sym (taken_more shared i s c.loop-station-test.true c.station-item.is))))))
