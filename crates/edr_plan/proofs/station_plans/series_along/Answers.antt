use Rattle.std.proofs.Common.{◌≡◌, ◌∙◌, ap, sym, rules, ℤ, to_z, of_z, w64}
use Rattle.edr_query.specs.declared.shapes.Shape.TheVariants as at
use Rattle.edr_plan.specs.CorridorPlans.{CorridorValue, LineValue, IsLineOf}
use Rattle.edr_plan.proofs.NoneAsked.{levels_wanted}
use Rattle.edr_plan.proofs.station_plans.series_along.Goals as goal

pub series_asked-requires-clause-line : goal.series_asked-requires-clause-line
series_asked-requires-clause-line c =
    let width : to_z w64 (of_z w64 c.args.width) ≡ c.args.width = search rules in
    let corridor : CorridorValue = record { line = c.args.geometry.now; width = to_z w64 (of_z w64 c.args.width); height = c.args.height } in
    let shape : c.args.query.now.shape ≡ at.Corridor corridor.line corridor.width corridor.height =
    c.requires.along ∙ ap (λ (w : ℤ). at.Corridor c.args.geometry.now w c.args.height) (sym width) in
    let line : LineValue = record { segments = c.in_ok-segments.segments; corridor = corridor } in
    let is : IsLineOf c.args.query.now line = record { shape = shape; segments = c.in_ok-segments.ensures } in (
      is,
      levels_wanted c.args.collection.now c.args.query.now line c.requires.collection is c.requires.levels,
    )
