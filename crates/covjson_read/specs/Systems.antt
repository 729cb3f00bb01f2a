-- Reference systems (OGC 21-069r2, reference system objects): which trees stand for which.
use Rattle.std.specs.Prelude.{◌≡◌, ◌≢◌, ◌⊎◌, ℕ, List, codes, Bool, true, false, Option, Some, None, option_and_then}
use Rattle.serde_json.specs.Data.{Data, string, array, Items}
use Rattle.serde_json.specs.Find.{get}
use Rattle.edr_json.specs.Trees.{text_in, text_or_empty}
use Rattle.covjson_checks.specs.Places.{IsAmong, EachItem, NoItem, IsFirstItem}
use Rattle.covjson_value.specs.declared.coverages.Referencing.{Referencing}
use Rattle.covjson_value.specs.declared.domains.CoordinateName.TheVariants.{X, Y, Z}
use Rattle.covjson_value.specs.Domains.{coordinate_key}

-- ---- entries

-- an entry has coordinates and a system
pub record IsConnection (entry : Data) : Type 0 where
  pub coordinates : Data
  pub coordinates_at : get (codes "coordinates") entry ≡ Some coordinates
  pub system : Data
  pub system_at : get (codes "system") entry ≡ Some system

-- the coordinates of an entry hold a name
abbrev pub HoldsName : List ℕ → Data → Type 0
HoldsName name entry = (names : Items) × (get (codes "coordinates") entry ≡ Some (array names)) × IsAmong (string name) names

-- the text of a member of an entry's system, or the empty text
abbrev pub system_text : List ℕ → Data → List ℕ
system_text name entry = text_or_empty (option_and_then (get name) (get (codes "system") entry))

-- the name of an entry's system, where it is a text
abbrev pub system_name : Data → Option (List ℕ)
system_name entry = option_and_then (text_in (codes "id")) (get (codes "system") entry)

-- an entry of both coordinates of the plane
abbrev pub IsPlane : Data → Type 0
IsPlane entry = HoldsName (coordinate_key X) entry × HoldsName (coordinate_key Y) entry

-- an entry of times in another calendar than the Gregorian
abbrev pub IsOtherCalendar : Data → Type 0
IsOtherCalendar entry = (system_text (codes "type") entry ≡ codes "TemporalRS") × (system_text (codes "calendar") entry ≢ codes "Gregorian")

-- an entry of levels
abbrev pub IsVertical : Data → Type 0
IsVertical entry = (system_text (codes "type") entry ≡ codes "VerticalCRS") × HoldsName (coordinate_key Z) entry

-- ---- the systems of a domain

-- the vertical text of a domain with or without levels: the name of the first system of levels, where it has one
abbrev pub StandsForVertical : Bool → Items → Option (List ℕ) → Type 0
StandsForVertical false entries vertical = vertical ≡ None
StandsForVertical true entries vertical = ((entry : Data) × IsFirstItem IsVertical entries entry × (vertical ≡ system_name entry)) ⊎ (NoItem IsVertical entries × (vertical ≡ None))

-- the systems: that of the plane is projected, and those of times are Gregorian
pub record StandsForReferencing (has_z : Bool) (found : Option Data) (referencing : Referencing) : Type 0 where
  pub entries : Items
  pub list : found ≡ Some (array entries)
  pub connections : EachItem IsConnection entries
  pub plane : Data
  pub first : IsFirstItem IsPlane entries plane
  pub projected : system_text (codes "type") plane ≡ codes "ProjectedCRS"
  pub gregorian : NoItem IsOtherCalendar entries
  pub crs : referencing.crs ≡ system_text (codes "id") plane
  pub vertical : StandsForVertical has_z entries referencing.vertical
