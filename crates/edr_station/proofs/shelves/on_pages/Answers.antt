use Rattle.std.proofs.Common.{ap, ◌∙◌, take, drop}
use Rattle.std.proofs.lemmas.List.{take-append-drop}
use Rattle.edr_station.specs.Shelves.{stations_of}
use Rattle.edr_station.proofs.SharedLists.{part_before, part_behind}
use Rattle.edr_station.proofs.ForkLists.{joined_is}
use Rattle.edr_station.proofs.shelves.on_pages.Goals as goal

pub returns : goal.returns
returns c =
    let items = c.args.stations.items in
    let n = c.if-at_end.first in
    joined_is c.joined-2.result c.in_ok-on_page.field-0 (take n (stations_of items)) c.in_ok-on_page-2.field-0 (drop n (stations_of items)) (stations_of items)
    c.joined-2.ensures
    (c.in_ok-on_page.ensures ∙ (ap stations_of c.in_ok-behind.ensures.items ∙ part_before items n))
    (c.in_ok-on_page-2.ensures ∙ (ap stations_of c.in_ok-behind.ensures.tail ∙ part_behind items n))
    (take-append-drop n (stations_of items))
