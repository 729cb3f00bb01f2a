use Rattle.std.proofs.Common.{◌≡◌, ◌∙◌, ap₂, rules, sym, subst, to_z, of_z, w64}
use Rattle.std.specs.Int.{int_min}
use Rattle.edr_base.specs.Limits.{IsCoordinate}
use Rattle.edr_plan.proofs.NearBoxes.{lower_in}
use Rattle.edr_plan.proofs.corridor_stations.lower_of.Goals as goal

pub returns-clause-spot : goal.returns-clause-spot
returns-clause-spot c =
    let least-x : to_z w64 (of_z w64 c.args.least.x) ≡ c.args.least.x = search rules in
    let least-y : to_z w64 (of_z w64 c.args.least.y) ≡ c.args.least.y = search rules in
    let position-x : to_z w64 (of_z w64 c.args.position.now.x) ≡ c.args.position.now.x = search rules in
    let position-y : to_z w64 (of_z w64 c.args.position.now.y) ≡ c.args.position.now.y = search rules in
    let result-x : to_z w64 (of_z w64 c.min.result) ≡ c.min.result = search rules in
    let result-y : to_z w64 (of_z w64 c.min-2.result) ≡ c.min-2.result = search rules in
    record {
      x =
          subst IsCoordinate (sym result-x)
          (lower_in c.args.least.x c.args.position.now.x c.min.result c.requires.spot.x c.requires.in_range.x (c.min.ensures.value ∙ ap₂ int_min least-x position-x));
      y =
          subst IsCoordinate (sym result-y)
          (lower_in c.args.least.y c.args.position.now.y c.min-2.result c.requires.spot.y c.requires.in_range.y (c.min-2.ensures.value ∙ ap₂ int_min least-y position-y));
    }
