use Rattle.std.proofs.Common.{◌≡◌, ◌-◌, ◌++◌, [], List, length, take, drop, ap, ◌∙◌, arith, append_assoc, length-drop}
use Rattle.std.specs.Option.{option_map, option_to_list}
use Rattle.std.specs.Arc.{arc_value}
use Rattle.std.proofs.lemmas.List.{take_all}
use Rattle.edr_station.specs.Stations.{StationValue}
use Rattle.edr_station.specs.Shelves.{stations_of}
use Rattle.edr_station.proofs.SharedLists.{Shared, part_before, part_behind}
use Rattle.edr_station.proofs.pages.Page.spliced.Goals as goal

pub returns : goal.returns
returns c =
    let stations = c.args.self.now in
    let items = c.self.inside.stations.items in
    let place = c.args.place in
    let end = c.args.end in
    let given = option_to_list (option_map (λ (s : Shared). arc_value s) c.args.put) in
    let rest = drop end c.deref-2.result.now in
    let front : stations_of (take place c.deref.result.now) ≡ take place stations =
    ap (λ (l : List Shared). stations_of (take place l)) c.deref.ensures.value
    ∙ (part_before items place ∙ ap (λ (l : List StationValue). take place l) c.self.view_is) in
    let back : stations_of (take (length c.deref-2.result.now - end) rest) ≡ drop end stations =
    ap stations_of (take_all (length c.deref-2.result.now - end) rest (omega (arith, length-drop end c.deref-2.result.now)))
    ∙ (ap (λ (l : List Shared). stations_of (drop end l)) c.deref-2.ensures.value
    ∙ (part_behind items end ∙ ap (λ (l : List StationValue). drop end l) c.self.view_is)) in
    let none : stations_of c.in_ok-stations.stations.items ≡ [] = ap stations_of c.in_ok-stations.ensures.items in
    let first : stations_of c.share_all.new.shared.items ≡ take place stations =
    c.in_ok-share_all.ensures ∙ (ap (λ (l : List StationValue). l ++ stations_of (take place c.deref.result.now)) none ∙ front) in
    let second : stations_of c.push_given.new.stations.items ≡ take place stations ++ given =
    c.in_ok-push_given.ensures ∙ ap (λ (l : List StationValue). l ++ given) first in
    c.in_ok-share_all-2.ensures
    ∙ (ap (λ (l : List StationValue). l ++ stations_of (take (length c.deref-2.result.now - end) rest)) second
    ∙ (ap (λ (l : List StationValue). (take place stations ++ given) ++ l) back
    ∙ append_assoc (take place stations) given (drop end stations)))
