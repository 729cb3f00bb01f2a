-- Balanced trees as lists. No public contract names these.
use Rattle.std.specs.Prelude.{◌≡◌, ◌+◌, List, [], ◌∷◌, ◌++◌, length, Option, None, Some}
use Rattle.std.specs.Arc.{arc_value}
use Rattle.std.specs.declared.sync.Arc.{Arc}
use Rattle.std.specs.declared.alloc.Global.{Global}
use Rattle.edr_ids.specs.declared.trees.Branch.{Branch}

-- the items before the one at the top, it, and those behind it
abbrev pub items_of : {T : Type 0} → Option (Arc (Branch T) Global) → List T
items_of None = []
items_of (Some branch) = (arc_value branch).before ++ arc_value (arc_value branch).item ∷ (arc_value branch).behind

-- each branch knows how many items it has
abbrev pub IsCounted : {T : Type 0} → Option (Arc (Branch T) Global) → Type 0
IsCounted None = Unit {0}
IsCounted (Some branch) = (arc_value branch).len ≡ length (arc_value branch).before + length (arc_value branch).behind + 1
