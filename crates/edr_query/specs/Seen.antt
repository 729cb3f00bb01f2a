-- For private clauses: the names that were seen.
use Rattle.std.specs.Prelude.{◌≡◌, ℕ, Bool, IsTrue, bytes_eq, List, map}
use Rattle.std.specs.Borrow.{Bor}
use Rattle.std.specs.List.{list_any}
use Rattle.std.specs.BTreeSet.{BTreeSet}

-- the set has the names of the list
abbrev pub AreSeen : BTreeSet (Bor (List ℕ)) → List (List ℕ) → Type 0
AreSeen seen names = (name : List ℕ) → list_any (bytes_eq name) (map (λ (key : Bor (List ℕ)). key.now) seen.keys) ≡ list_any (bytes_eq name) names

-- the same, where many names may come
abbrev pub AreSeenIf : Bool → BTreeSet (Bor (List ℕ)) → List (List ℕ) → Type 0
AreSeenIf many seen names = IsTrue many → AreSeen seen names
