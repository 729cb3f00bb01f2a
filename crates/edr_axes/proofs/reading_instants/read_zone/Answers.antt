use Rattle.std.proofs.Common.{List, ℕ, sym, subst, MatchOption}
use Rattle.edr_axes.specs.InstantGrammar.{IsZone}
use Rattle.edr_axes.specs.InstantPieces.{HasNoZone}
use Rattle.edr_axes.proofs.reading_instants.read_zone.Goals as goal

pub returns-clause-value : goal.returns-clause-value
returns-clause-value c =
    let P : List ℕ → Type 0 = λ t. MatchOption c.zone_of.result (HasNoZone t) (λ ahead. IsZone t ahead) in
    subst P (sym c.in-Some.ensures.cases.0) c.zone_of.ensures.value
