use Rattle.std.proofs.Common.{rules, ◌≡◌, [], ◌∷◌, ◌++◌, ℤ, List, All, sym, subst}
use Rattle.std.proofs.lemmas.List.Elements.{All-push}
use Rattle.edr_axes.specs.Instants.{IsTime}
use Rattle.edr_base.specs.Limits.{IsCoordinate}
use Rattle.edr_ground_tests.proofs.station_words.steps.Goals as goal

pub loop-place-preserved : goal.loop-place-preserved
loop-place-preserved c =
    let values = c.loop-place.values.items in
    let value = c.step_at.result in
    let pushed : c.push.new.self.items ≡ values ++ value ∷ [] = search rules in (
      subst (λ (l : List ℤ). All IsTime l) (sym pushed) (All-push IsTime values value c.loop-place.invariant.0 c.step_at.ensures.time),
      subst (λ (l : List ℤ). All IsCoordinate l) (sym pushed) (All-push IsCoordinate values value c.loop-place.invariant.1 c.step_at.ensures.level),
    )
