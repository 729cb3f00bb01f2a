use Rattle.std.proofs.Common.{◌≡◌, [], IfOk, ap, ◌∙◌, subst}
use Rattle.edr_station.specs.declared.tallies.Tally.{Tally}
use Rattle.edr_station.specs.Stations.{StationValue}
use Rattle.edr_station.specs.Blocks.{series_at}
use Rattle.edr_station.specs.Tallies.{tally_of, and_of}
use Rattle.edr_station.proofs.station.Station.tally_with.Goals as goal

pub returns : goal.returns
returns c =
    let at = c.at.ensures [] ∙ ap (λ (s : StationValue). series_at s c.args.parameter) c.self.view_is in
    subst (λ (v : Tally). IfOk c.and.result (λ (more : Tally). more ≡ v)) (ap (and_of c.args.tally) (c.in_ok-tally.ensures ∙ ap tally_of at)) c.and.ensures
