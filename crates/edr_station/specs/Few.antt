-- Lists of few items: for private clauses.
use Rattle.std.specs.Prelude.{List, [], ◌∷◌}
use Rattle.edr_station.specs.declared.few.Kept.{Kept}
use Rattle.edr_station.specs.declared.few.Kept.TheVariants.{One, Many}

abbrev pub items_of : {T : Type 0} → Kept T → List T
items_of (One item) = item ∷ []
items_of (Many items) = items.items
