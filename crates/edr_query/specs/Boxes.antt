-- Boxes as text (OGC 19-086r6, the parameter `bbox`).
use Rattle.std.specs.Prelude.{ℕ, ℤ, ◌≤ℤ◌, List, [], ◌∷◌, Option, None, Some}
use Rattle.edr_axes.specs.Levels.{AreLevelTexts}
use Rattle.edr_base.specs.declared.places.Spot.{Spot}
use Rattle.edr_query.specs.declared.shapes.BoundingBox.{BoundingBox}

-- no least number is above the greatest one
abbrev pub IsOrdered : BoundingBox → Type 0
IsOrdered box = (box.lo.x ≤ℤ box.hi.x) × (box.lo.y ≤ℤ box.hi.y)

-- the levels of a box, if it has them
abbrev pub IsRange : Option (ℤ × ℤ) → Type 0
IsRange None = Unit {0}
IsRange (Some (low, high)) = low ≤ℤ high

-- the least numbers, then the greatest ones, each with a level where there are levels
abbrev pub numbers_with : Spot → Spot → Option (ℤ × ℤ) → List ℤ
numbers_with lo hi None = lo.x ∷ lo.y ∷ hi.x ∷ hi.y ∷ []
numbers_with lo hi (Some (low, high)) = lo.x ∷ lo.y ∷ low ∷ hi.x ∷ hi.y ∷ high ∷ []

abbrev pub numbers_of : BoundingBox → List ℤ
numbers_of box = numbers_with box.lo box.hi box.levels

-- four numbers with commas, or six where levels are given
pub record IsBoxText (text : List ℕ) (box : BoundingBox) : Type 0 where
  pub numbers : AreLevelTexts text (numbers_of box)
  pub ordered : IsOrdered box
  pub range : IsRange box.levels

abbrev pub HasNoBox : List ℕ → Type 0
HasNoBox text = (box : BoundingBox) → ¬ (IsBoxText text box)
