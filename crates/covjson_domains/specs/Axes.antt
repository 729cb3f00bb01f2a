-- The axes of a tree (OGC 21-069r2, Axis objects), and what they stand for.
use Rattle.std.specs.Prelude.{◌≡◌, ◌⊎◌, ℕ, ◌-◌, ◌<◌, ◌≤◌, ℤ, pos, ◌-ℤ◌, ◌*ℤ◌, List, length, reverse, All, codes, Bool, true, false, Option, Some, None, option_and_then}
use Rattle.serde_json.specs.Data.{Data, string, array, Items}
use Rattle.serde_json.specs.Find.{get}
use Rattle.edr_axes.specs.Axes.{value_at, IsAxis}
use Rattle.edr_axes.specs.InstantGrammar.{IsInstant}
use Rattle.covjson_value.specs.declared.domains.CoordinateName.{CoordinateName}
use Rattle.covjson_value.specs.declared.domains.CoordinateName.TheVariants.{T, Z, Y, X}
use Rattle.covjson_value.specs.Coverages.{IsAxisValue}
use Rattle.edr_json.specs.Trees.{whole_of, EachStands, StandsForWhole}
use Rattle.edr_base.specs.Limits.{node_limit}

-- a text that is an instant
abbrev pub StandsForTime : Data → ℤ → Type 0
StandsForTime d time = (text : List ℕ) × (d ≡ string text) × IsInstant text time

-- a value of an axis: of that of times a text, and of the others a whole number
abbrev pub StandsForAxisValue : CoordinateName → Data → ℤ → Type 0
StandsForAxisValue T = StandsForTime
StandsForAxisValue Z = StandsForWhole
StandsForAxisValue Y = StandsForWhole
StandsForAxisValue X = StandsForWhole

-- an axis with its values in a list
pub record ListsValues (name : CoordinateName) (axis : Data) (values : List ℤ) : Type 0 where
  pub items : Items
  pub list : get (codes "values") axis ≡ Some (array items)
  pub values_stand : EachStands (StandsForAxisValue name) items values

-- a member that is a whole number
abbrev pub HasWhole : List ℕ → Data → ℤ → Type 0
HasWhole key axis value = option_and_then whole_of (get key axis) ≡ Some value

-- as many values as that, from the first to the last in equal steps:
-- each is as far along as its place is from the first to the last
pub record IsRegular (first last : ℤ) (count : ℕ) (values : List ℤ) : Type 0 where
  pub counted : length values ≡ count
  pub starts : value_at values 0 ≡ first
  pub ends : value_at values (count - 1) ≡ last
  pub even : (place : ℕ) → place < count → (value_at values place -ℤ first) *ℤ pos (count - 1) ≡ pos place *ℤ (last -ℤ first)

-- an axis of numbers by its first value, its last, and how many there are
pub record SpansValues (axis : Data) (values : List ℤ) : Type 0 where
  pub unlisted : get (codes "values") axis ≡ None
  pub first : ℤ
  pub last : ℤ
  pub count : ℕ
  pub start : HasWhole (codes "start") axis first
  pub stop : HasWhole (codes "stop") axis last
  pub num : HasWhole (codes "num") axis (pos count)
  pub few : count ≤ node_limit
  pub regular : IsRegular first last count values

-- the values of an axis as the tree has them: times are listed, numbers are listed or spanned
abbrev pub HoldsValues : CoordinateName → Data → List ℤ → Type 0
HoldsValues T axis values = ListsValues T axis values
HoldsValues Z axis values = ListsValues Z axis values ⊎ SpansValues axis values
HoldsValues Y axis values = ListsValues Y axis values ⊎ SpansValues axis values
HoldsValues X axis values = ListsValues X axis values ⊎ SpansValues axis values

-- values as they stand, or turned round
abbrev pub turned_if : Bool → List ℤ → List ℤ
turned_if true values = reverse values
turned_if false values = values

-- an axis stands for its values in ascending order; where it has several and they descend, they are turned
pub record StandsForAxis (name : CoordinateName) (axis : Data) (turned : Bool) (values : List ℤ) : Type 0 where
  pub ascending : IsAxis values
  pub within : All (IsAxisValue name) values
  pub several : turned ≡ true → 1 < length values
  pub held : HoldsValues name axis (turned_if turned values)

-- the axis of a name is in the tree and in the domain, or in neither
abbrev pub HasSameAxis : CoordinateName → Option Data → Bool → Option (List ℤ) → Type 0
HasSameAxis name None turned None = turned ≡ false
HasSameAxis name None turned (Some values) = ⊥
HasSameAxis name (Some axis) turned None = ⊥
HasSameAxis name (Some axis) turned (Some values) = StandsForAxis name axis turned values
