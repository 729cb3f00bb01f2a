use Rattle.std.proofs.Common.{◌++◌, ◌∙◌, ap, map, take_all, List}
use Rattle.edr_feed.specs.Written.{entries_text}
use Rattle.edr_import.specs.Imports.{station_entry}
use Rattle.edr_import.specs.declared.stations.Station.{Station}
use Rattle.edr_import.proofs.LineLemmas.{lines_more}
use Rattle.edr_import.proofs.lines.push_stations.Goals as goal

pub loop-station-preserved : goal.loop-station-preserved
loop-station-preserved c =
    lines_more c.args.stations.now c.loop-station.station-index c.station-item.result c.args.text.now.items c.loop-station.text.items c.push_station.new.text.items
    c.loop-station-test.true c.station-item.is c.loop-station.invariant c.in_ok-push_station.ensures

pub returns : goal.returns
returns c =
    c.loop-station.invariant ∙ ap (λ (ss : List Station). c.args.text.now.items ++ entries_text (map station_entry ss)) (take_all c.loop-station.station-index c.args.stations.now c.loop-station-test.false)
