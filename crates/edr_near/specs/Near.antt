-- What is nearest to a place.
use Rattle.std.specs.Prelude.{◌≡◌, ℕ, Bool, false, ◌&&◌, bytes_eq, List, Contains, Option, MatchOption}
use Rattle.std.specs.declared.cmp.Ordering.{Ordering}
use Rattle.std.specs.Ordering.{nat_cmp, ordering_then, is_lt, int_eq}
use Rattle.edr_base.specs.Names.{order}
use Rattle.edr_base.specs.declared.places.Spot.{Spot}
use Rattle.edr_ids.specs.Ids.{AscendBy}
use Rattle.edr_near.specs.Squares.{squared_distance}

module _ {V : Type 0} (id_of : V → List ℕ) (spot_of : V → Spot) (spot : Spot) where
  -- how far an item is from the place, squared
  abbrev pub distance_of : V → ℕ
  distance_of item = squared_distance (spot_of item) spot

  -- an item has an id and stands at the place
  abbrev pub is_it : List ℕ → V → Bool
  is_it id item = bytes_eq (id_of item) id && (int_eq (spot_of item).x spot.x && int_eq (spot_of item).y spot.y)

  -- items are compared by the pair of their squared distance and their id
  abbrev pub compare : V → V → Ordering
  compare one other = ordering_then (nat_cmp (distance_of one) (distance_of other)) (order (id_of one) (id_of other))

  abbrev pub is_nearer : V → V → Bool
  is_nearer one other = is_lt (compare one other)

  -- it is one of them, and has the least pair of all
  pub record IsNearest (Is : V → Type 0) (item : V) : Type 0 where
    pub one : Is item
    pub least : (other : V) → Is other → is_nearer other item ≡ false

  -- the same of an answer, which is None exactly where there are none of them
  abbrev pub Nearest : (V → Type 0) → Option V → Type 0
  Nearest Is answer = MatchOption answer ((item : V) → ¬ (Is item)) (IsNearest Is)

  -- of the items of a list
  abbrev pub near : List V → V → Type 0
  near items = IsNearest (Contains items)

-- ---- a law

-- of items in ascending order of their ids at most one is nearest to a place
abbrev pub IsOneNearest : {V : Type 0} → (V → List ℕ) → (V → Spot) → Type 0
IsOneNearest {V} id_of spot_of =
    (spot : Spot) (items : List V) (one other : V) → AscendBy id_of items → near id_of spot_of spot items one → near id_of spot_of spot items other → one ≡ other
