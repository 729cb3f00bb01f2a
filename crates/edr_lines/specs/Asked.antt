-- What is known of a query along a line from step to step of its planning; for the calls that plan, and private clauses.
use Rattle.std.specs.Prelude.{⊤, ◌≡◌, Some}
use Rattle.edr_edition.specs.declared.kinds.Kind.TheVariants.{Grid}
use Rattle.edr_edition.specs.Values.{InstanceValue, CollectionValue}
use Rattle.edr_edition.specs.Instances.{HasGrid}
use Rattle.edr_edition.specs.Editions.{IsCollection}
use Rattle.edr_edition.specs.Stores.{instance_named}
use Rattle.edr_query.specs.declared.shapes.Shape.{Shape}
use Rattle.edr_query.specs.declared.shapes.Shape.TheVariants as at
use Rattle.edr_query.specs.Queries.{IsShape}
use Rattle.edr_query.specs.Values.{QueryValue}

-- the shape is a trajectory or a corridor
abbrev pub IsAlong : Shape → Type 0
IsAlong (at.Position geometry) = ⊥
IsAlong (at.Radius geometry within) = ⊥
IsAlong (at.Area geometry) = ⊥
IsAlong (at.Cube lo hi levels) = ⊥
IsAlong (at.Trajectory geometry) = ⊤
IsAlong (at.Corridor geometry width height) = ⊤
IsAlong (at.Location id) = ⊥

-- a query along a line is asked of an instance of a collection of grids
pub record IsAskedAlong (collection : CollectionValue) (q : QueryValue) (instance : InstanceValue) : Type 0 where
  pub is_collection : IsCollection collection
  pub kind : collection.kind ≡ Grid
  pub instance_is : instance_named q.instance collection.instances ≡ Some instance
  pub along : IsAlong q.shape
  pub shape : IsShape q.shape
  pub grid : HasGrid instance
