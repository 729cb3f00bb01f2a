-- A listing whose coverages have the cells that are chosen is the reply to its query.
use Rattle.std.proofs.Common.{◌≡◌, ℕ, Bool, true, false, List, [], ◌∷◌, length}
use Rattle.std.specs.Prelude.{map}
use Rattle.edr_base.specs.declared.places.Position.{Position}
use Rattle.edr_wkt.specs.declared.geometry.Geometry.{Geometry}
use Rattle.edr_wkt.specs.declared.geometry.Geometry.TheVariants.{Points}
use Rattle.edr_edition.specs.Values.{InstanceValue}
use Rattle.edr_edition.specs.Stores.{of_grid, Subject}
use Rattle.edr_query.specs.declared.shapes.Shape.TheVariants as at
use Rattle.edr_query.specs.Values.{QueryValue}
use Rattle.edr_select.specs.declared.plans.Reply.TheVariants.{Listed}
use Rattle.edr_select.specs.Choices.{TakesEach, Chosen, chosen, IsSome}
use Rattle.edr_select.specs.Listings.{ListingValue}
use Rattle.edr_select.specs.Plans.{IsReplyTo}
use Rattle.edr_select.specs.GridLaws.{IsGrid}
use Rattle.edr_select.proofs.Picks.{takes_position}
use Rattle.edr_select.proofs.Coverages.{planned_at, planned_along}
use Rattle.edr_select.proofs.PlanDocuments.{plan_at_point, plan_along, plan_apart}
use Rattle.edr_select.proofs.Chunks.{chunks_of_spots, chunks_of_spot, chunks_along}

module _ (listing : ListingValue) (s : Subject) (q : QueryValue) (i : InstanceValue) (geometry : Geometry) (held : s.held ≡ of_grid i) (query : q.shape ≡ at.Position geometry) (g : IsGrid i)
    (some : IsSome (chosen i q)) (shape : listing.shape ≡ i.grid.shape) (parameters : listing.parameters ≡ (chosen i q).parameters) where
  abbrev c : Chosen
  c = chosen i q

  each : TakesEach q.shape
  each = takes_position q geometry query

  -- of one point
  pub stands_at_point : (has_z has_m : Bool) (positions : List Position) → geometry ≡ Points false has_z has_m positions → (spot : ℕ) → c.spots ≡ spot ∷ []
      → listing.many ≡ false → listing.coverages ≡ planned_at s i c spot ∷ [] → IsReplyTo (Listed listing) q s
  stands_at_point has_z has_m positions points spot spot_is many coverages = record {
    instance = i;
    held = held;
    shape = shape;
    document = plan_at_point s q i geometry held query g some has_z has_m positions points spot spot_is listing many parameters coverages;
    chunks = chunks_of_spot s q i held each g spot spot_is listing shape parameters coverages;
  }

  -- of several points, at one time and at most one level
  pub stands_along : (has_z has_m : Bool) (positions : List Position) → geometry ≡ Points true has_z has_m positions → (t z : ℕ) → c.times ≡ t ∷ []
      → c.levels ≡ z ∷ []
      → listing.many ≡ false → listing.coverages ≡ planned_along s i c t z ∷ [] → IsReplyTo (Listed listing) q s
  stands_along has_z has_m positions points t z time_is level_is many coverages = record {
    instance = i;
    held = held;
    shape = shape;
    document = plan_along s q i geometry held query g some has_z has_m positions points t z time_is level_is listing many parameters coverages;
    chunks = chunks_along s q i held each g t z time_is level_is listing shape parameters coverages;
  }

  -- of several points, at several times or levels
  pub stands_apart : (has_z has_m : Bool) (positions : List Position) → geometry ≡ Points true has_z has_m positions
      → ¬ ((length c.times ≡ 1) × (length c.levels ≡ 1))
      → listing.many ≡ true → listing.coverages ≡ map (planned_at s i c) c.spots → IsReplyTo (Listed listing) q s
  stands_apart has_z has_m positions points several many coverages = record {
    instance = i;
    held = held;
    shape = shape;
    document = plan_apart s q i geometry held query g some has_z has_m positions points several listing many parameters coverages;
    chunks = chunks_of_spots s q i held each g listing shape parameters coverages;
  }
