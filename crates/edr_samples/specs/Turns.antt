-- Reading on from tokens, a turn at a time. Only private clauses cite it.
use Rattle.std.specs.Prelude.{ℕ, List, [], ◌∷◌, length, Option}
use Rattle.json.specs.Token.{Token}
use Rattle.json.specs.Json.{value, items, members}
use Rattle.serde_json.specs.Data.{Data, Items, item, Members, no_members}
use Rattle.serde_json.specs.Read.{of_json, of_items, of_members, converted}

-- the data of one value, in which at most so many lists and objects stand in each other, and the tokens behind it
abbrev pub data_from : ℕ → List Token → Option (Data × List Token)
data_from depth ts = converted of_json (value depth ts)

-- the items up to the bracket that closes their list, in at most n turns
abbrev pub items_from : ℕ → ℕ → List Token → Option (Items × List Token)
items_from depth n ts = converted of_items (items (value depth) n ts)

-- the members up to the brace that closes their object
abbrev pub members_from : ℕ → List Token → Option (Members × List Token)
members_from depth ts = converted (λ ms. of_members ms no_members) (members (value depth) (length ts) ts)

-- the items, with these before them
abbrev pub items_onto : List Data → Items → Items
items_onto [] rest = rest
items_onto (d ∷ ds) rest = item d (items_onto ds rest)
