use Rattle.std.proofs.Common.{◌≡◌, ◌∙◌, ap, rules, sym, to_z, of_z, w64}
use Rattle.edr_geometry.specs.Planar.{in_disc}
use Rattle.edr_select.specs.Masks.{takes_spot}
use Rattle.edr_plan.proofs.FoundStations.{takes_disc}
use Rattle.edr_plan.proofs.stations_taken.takes_place.Goals as goal

pub returns-in-Radius : goal.returns-in-Radius
returns-in-Radius c =
    let within = c.in-Radius.within in
    let whole : to_z w64 (of_z w64 within) ≡ within = search rules in
    c.in_disc.ensures ∙ ap (in_disc c.args.spot c.centre_of.result) whole
    ∙ sym (takes_disc c.in-Radius.geometry within c.centre_of.result c.args.spot c.centre_of.ensures) ∙ ap (λ shape. takes_spot shape c.args.spot) (sym c.in-Radius.is)
