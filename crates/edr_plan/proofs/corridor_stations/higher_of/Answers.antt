use Rattle.std.proofs.Common.{◌≡◌, ◌∙◌, ap₂, rules, sym, subst, to_z, of_z, w64}
use Rattle.std.specs.Int.{int_max}
use Rattle.edr_base.specs.Limits.{IsCoordinate}
use Rattle.edr_plan.proofs.NearBoxes.{higher_in}
use Rattle.edr_plan.proofs.corridor_stations.higher_of.Goals as goal

pub returns-clause-spot : goal.returns-clause-spot
returns-clause-spot c =
    let greatest-x : to_z w64 (of_z w64 c.args.greatest.x) ≡ c.args.greatest.x = search rules in
    let greatest-y : to_z w64 (of_z w64 c.args.greatest.y) ≡ c.args.greatest.y = search rules in
    let position-x : to_z w64 (of_z w64 c.args.position.now.x) ≡ c.args.position.now.x = search rules in
    let position-y : to_z w64 (of_z w64 c.args.position.now.y) ≡ c.args.position.now.y = search rules in
    let result-x : to_z w64 (of_z w64 c.max.result) ≡ c.max.result = search rules in
    let result-y : to_z w64 (of_z w64 c.max-2.result) ≡ c.max-2.result = search rules in
    record {
      x =
          subst IsCoordinate (sym result-x)
          (higher_in c.args.greatest.x c.args.position.now.x c.max.result c.requires.spot.x c.requires.in_range.x (c.max.ensures.value ∙ ap₂ int_max greatest-x position-x));
      y =
          subst IsCoordinate (sym result-y)
          (higher_in c.args.greatest.y c.args.position.now.y c.max-2.result c.requires.spot.y c.requires.in_range.y (c.max-2.ensures.value ∙ ap₂ int_max greatest-y position-y));
    }
