-- For private clauses: the times of a station among observations in their order.
use Rattle.std.specs.Prelude.{◌≡◌, ◌≢◌, ◌⊎◌, ◌↔◌, ℕ, ◌<◌, ◌≤◌, ℤ, List, [], ◌∷◌, ◌++◌, length, get_or, Contains}
use Rattle.std.specs.declared.cmp.Ordering.TheVariants.{Less}
use Rattle.edr_axes.specs.Axes.{IsAscending}
use Rattle.edr_base.specs.Names.{order}
use Rattle.edr_csv.specs.declared.observations.Observation.{Observation}

-- those before the place are of stations below this one, and no other is
pub record IsFirstOf (observations : List Observation) (station : List ℕ) (place : ℕ) : Type 0 where
  pub within : place ≤ length observations
  pub below : (k : ℕ) (d : Observation) → k < place → order (get_or observations k d).station station ≡ Less
  pub from : (k : ℕ) (d : Observation) → place ≤ k → k < length observations → order (get_or observations k d).station station ≢ Less

-- the time is the last of these
pub record Ends (times : List ℤ) (t : ℤ) : Type 0 where
  pub front : List ℤ
  pub is : times ≡ front ++ t ∷ []

abbrev pub PutsTime : List ℤ → ℤ → List ℤ → Type 0
PutsTime old t new = (Ends old t × (new ≡ old)) ⊎ ((¬ (Ends old t)) × (new ≡ old ++ t ∷ []))

-- the times of the observations of a station, ascending
pub record AreTimesOf (observations : List Observation) (station : List ℕ) (times : List ℤ) : Type 0 where
  pub ascending : IsAscending times
  pub each : (t : ℤ) → Contains times t ↔ ((o : Observation) × Contains observations o × (o.station ≡ station) × (o.t ≡ t))
