-- Trees of items that stand in boxes: for private clauses.
use Rattle.std.specs.Prelude.{◌<◌, List, ◌++◌, length, Contains}
use Rattle.std.specs.Arc.{arc_value}
use Rattle.edr_base.specs.declared.places.Spot.{Spot}
use Rattle.edr_near.specs.declared.frames.Frame.{Frame}
use Rattle.edr_near.specs.declared.trees.Top.{Top}
use Rattle.edr_near.specs.declared.trees.Top.TheVariants.{Items, Sides}
use Rattle.edr_near.specs.Frames.{Holds, IsFrame}
use Rattle.edr_near.specs.Kept.{values_of}

-- the items of a page, or those of one side and those of the other
abbrev pub all_in : {T : Type 0} → Top T → List T
all_in (Items page) = values_of (arc_value page).items
all_in (Sides fork) = (arc_value fork).before ++ (arc_value fork).behind

-- no side is empty
abbrev pub HasSides : {T : Type 0} → Top T → Type 0
HasSides (Items page) = Unit {0}
HasSides (Sides fork) = (0 < length (arc_value fork).before) × (0 < length (arc_value fork).behind)

-- some items, all of which stand in a box
pub record IsFramed {T : Type 0} (spot_of : T → Spot) (frame : Frame) (items : List T) : Type 0 where
  pub within : IsFrame frame
  pub some : 0 < length items
  pub holds : (item : T) → Contains items item → Holds frame (spot_of item)
