use Rattle.std.proofs.Common.{List, sym, ◌∙◌, subst}
use Rattle.std.specs.Arc.{arc_value}
use Rattle.edr_ids.specs.Ids.{with_item, without_id}
use Rattle.edr_station.specs.Stations.{StationValue, station_id, nowhere}
use Rattle.edr_station.specs.Nearest.{HaveThese}
use Rattle.edr_station.proofs.CellsOf.{nothing_left, span_one, more_has, more_these}
use Rattle.edr_station.proofs.cells.cells_with.Goals.{then-place-end+in_ok-more, else-place-end+in_ok-more-2}
use Rattle.edr_station.proofs.cells.cells_with.Goals as goal

pub returns : goal.returns
returns c =
    let by = c.items_are_by_id.ensures in
    let stations = c.args.shelf.now in
    let new = arc_value c.args.station.now in
    let place = c.args.place in
    let end = c.args.end in
    let others = without_id station_id new.id stations in
    let had : HaveThese c.if-place-end.more others = elim c.if-place-end.branch [
      | then-place-end+in_ok-more w ↦
          (let one = span_one by stations c.requires.ascending new.id place end c.requires.span w.if-place-end.true in
          subst (λ l. HaveThese l others) (sym w.more-is)
          (subst (λ i. HaveThese w.in_ok-more.more (without_id station_id i stations)) (one.1 nowhere) w.in_ok-more.ensures))
      | else-place-end+in_ok-more-2 w ↦
          (let none = nothing_left by stations c.requires.ascending new.id place end c.requires.span w.if-place-end.false in
          subst (λ l. HaveThese l others) (sym (w.more-is ∙ w.in_ok-more-2.ensures))
          (subst (λ (l : List StationValue). HaveThese c.args.cells.now l) (sym none) c.requires.have))
    ] in
    more_these c.if-place-end.more c.put.new.self others (with_item station_id new stations) new had c.in_ok-put.ensures.put (more_has by stations c.requires.ascending new)
