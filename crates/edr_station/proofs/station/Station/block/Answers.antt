use Rattle.std.proofs.Common.{◌≡◌, ◌<◌, ℕ, List, [], length, sym, ap, ◌∙◌, subst}
use Rattle.std.specs.Prelude.{ℤ, Option}
use Rattle.edr_station.specs.Stations.{StationValue, values_along}
use Rattle.edr_station.specs.Blocks.{blocks_along, series_at}
use Rattle.edr_station.specs.Kept.{IsKept}
use Rattle.edr_station.proofs.station.Station.block.Goals as goal

pub block-requires : goal.block-requires
block-requires c =
    let s = c.args.self.now in
    let kept : IsKept s = subst IsKept c.self.view_is c.self.invariant.0 in
    let at : c.at.result.now ≡ series_at s c.args.parameter =
    c.at.ensures [] ∙ ap (λ (v : StationValue). series_at v c.args.parameter) c.self.view_is in
    let long : length c.at.result.now ≡ values_along s = ap (λ (l : List (Option ℤ)). length l) at ∙ kept.station.has.long c.args.parameter [] c.requires.parameter in
    subst (λ (n : ℕ). c.args.block < blocks_along n) (sym long) c.requires.block
