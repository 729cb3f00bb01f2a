-- Queries, as contracts see them.
use Rattle.std.specs.Prelude.{ℕ, List, Option}
use Rattle.edr_axes.specs.declared.times.Times.{Times}
use Rattle.edr_axes.specs.declared.levels.Levels.{Levels}
use Rattle.edr_query.specs.declared.shapes.Shape.{Shape}

-- a query of the data of a collection, or of one of its instances
pub record QueryValue : Type 0 where
  pub collection : List ℕ
  pub instance : Option (List ℕ)
  pub shape : Shape
  pub times : Option Times
  pub levels : Option Levels
  pub parameters : Option (List (List ℕ))
  pub crs : Option (List ℕ)
