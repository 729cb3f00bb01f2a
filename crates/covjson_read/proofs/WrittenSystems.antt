-- What is written of reference systems stands for them.
use Rattle.std.proofs.Common.{◌≡◌, ℕ, List, [], ◌∷◌, codes, Bool, true, false, true≢false, Option, Some, None, IsSome, refl, sym, subst}
use Rattle.std.specs.Prelude.{IsTrue}
use Rattle.serde_json.specs.Data.{Data, array, Items, no_items, item}
use Rattle.covjson_value.specs.declared.domains.CoordinateName.TheVariants.{Z, X, Y}
use Rattle.covjson_value.specs.declared.coverages.Referencing.{Referencing}
use Rattle.covjson_value.specs.Trees.{item_if, system_data, connection, connection_data, text_if_some, horizontal_data, vertical_data, temporal_data, keys_data}
use Rattle.covjson_read.specs.Systems.{IsConnection, IsPlane, IsOtherCalendar, system_text, system_name, StandsForVertical, StandsForReferencing}
use Rattle.covjson_read.specs.SystemAnswers.{all_that, first_that, is_connection, is_plane, is_other_calendar, is_vertical, vertical_name}
use Rattle.covjson_read.proofs.ItemTests.{all_tells, first_tells, none_tells}
use Rattle.covjson_read.proofs.EntryTests.{connections, planes, other_calendars}
use Rattle.covjson_read.proofs.SystemLaws.{vertical_stands}

-- the entries of the systems: of the plane, and of levels and of times where there are some
abbrev entries : Bool → Bool → List ℕ → Option (List ℕ) → Items
entries has_z has_t crs vertical = item (horizontal_data crs) (item_if has_z (vertical_data vertical) (item_if has_t temporal_data no_items))

-- the kind of a system, whether it has a name or not
kind_written : (name : Option (List ℕ)) (kind : List ℕ) (coordinates : Data) → system_text (codes "type") (connection coordinates (system_data name kind)) ≡ kind
kind_written None kind coordinates = refl
kind_written (Some name) kind coordinates = refl

-- its name, or none
name_written : (name : Option (List ℕ)) (kind : List ℕ) (coordinates : Data) → system_name (connection coordinates (system_data name kind)) ≡ name
name_written None kind coordinates = refl
name_written (Some name) kind coordinates = refl

-- the name of the projected system
crs_written : (crs : List ℕ) → crs ≡ system_text (codes "id") (horizontal_data crs)
crs_written [] = refl
crs_written (byte ∷ bytes) = refl

-- each written entry has coordinates and a system
connections_written : (has_z has_t : Bool) (crs : List ℕ) (vertical : Option (List ℕ)) → all_that is_connection (entries has_z has_t crs vertical) ≡ true
connections_written true true crs vertical = refl
connections_written true false crs vertical = refl
connections_written false true crs vertical = refl
connections_written false false crs vertical = refl

-- a named or nameless system of a kind that isn't of times has no calendar
plane_without_calendar : (name : Option (List ℕ)) (coordinates : Data) → is_other_calendar (connection coordinates (system_data name (codes "ProjectedCRS"))) ≡ false
plane_without_calendar None coordinates = refl
plane_without_calendar (Some name) coordinates = refl

-- the system of levels has no calendar
levels_without_calendar : (name : Option (List ℕ)) (coordinates : Data) → is_other_calendar (connection coordinates (system_data name (codes "VerticalCRS"))) ≡ false
levels_without_calendar None coordinates = refl
levels_without_calendar (Some name) coordinates = refl

-- that of times is Gregorian
calendars_of_times : (has_t : Bool) → first_that is_other_calendar (item_if has_t temporal_data no_items) ≡ None
calendars_of_times true = refl
calendars_of_times false = refl

-- so is every calendar of the entries after the plane
calendars_of_rest : (has_z has_t : Bool) (vertical : Option (List ℕ)) → first_that is_other_calendar (item_if has_z (vertical_data vertical) (item_if has_t temporal_data no_items)) ≡ None
calendars_of_rest true has_t vertical = rw (levels_without_calendar vertical (keys_data (Z ∷ []))) (calendars_of_times has_t)
calendars_of_rest false has_t vertical = calendars_of_times has_t

-- and of all entries
calendars_written : (has_z has_t : Bool) (crs : List ℕ) (vertical : Option (List ℕ)) → first_that is_other_calendar (entries has_z has_t crs vertical) ≡ None
calendars_written has_z has_t crs vertical = rw (plane_without_calendar (text_if_some crs) (keys_data (X ∷ Y ∷ []))) (calendars_of_rest has_z has_t vertical)

-- the system of the plane is not one of levels
plane_not_vertical : (name : Option (List ℕ)) → is_vertical (connection_data (X ∷ Y ∷ []) (system_data name (codes "ProjectedCRS"))) ≡ false
plane_not_vertical None = refl
plane_not_vertical (Some name) = refl

-- the written system of levels is a vertical one
levels_vertical : (name : Option (List ℕ)) → is_vertical (vertical_data name) ≡ true
levels_vertical None = refl
levels_vertical (Some name) = refl

-- it is the first such
vertical_found : (has_t : Bool) (crs : List ℕ) (vertical : Option (List ℕ)) → first_that is_vertical (entries true has_t crs vertical) ≡ Some (vertical_data vertical)
vertical_found has_t crs vertical = rw (plane_not_vertical (text_if_some crs), levels_vertical vertical) refl

-- without levels no vertical name is given
none_without_levels : (vertical : Option (List ℕ)) → (IsSome vertical → IsTrue false) → vertical ≡ None
none_without_levels None h = refl
none_without_levels (Some name) h = absurd (true≢false (sym (h refl)))

-- the vertical name is read again
vertical_written : (has_z has_t : Bool) (crs : List ℕ) (vertical : Option (List ℕ)) → (IsSome vertical → IsTrue has_z) → vertical ≡ vertical_name has_z (entries has_z has_t crs vertical)
vertical_written true has_t crs vertical h = rw (vertical_found has_t crs vertical) (sym (name_written vertical (codes "VerticalCRS") (keys_data (Z ∷ []))))
vertical_written false has_t crs vertical h = none_without_levels vertical h

-- the systems of a domain with or without levels and times
pub systems_written : (has_z has_t : Bool) (referencing : Referencing) → (IsSome referencing.vertical → IsTrue has_z)
    → StandsForReferencing has_z (Some (array (entries has_z has_t referencing.crs referencing.vertical))) referencing
systems_written has_z has_t referencing h =
    let all : Items = entries has_z has_t referencing.crs referencing.vertical in
    record {
      entries = all;
      list = refl;
      connections = all_tells is_connection IsConnection connections all (connections_written has_z has_t referencing.crs referencing.vertical);
      plane = horizontal_data referencing.crs;
      first = first_tells is_plane IsPlane planes all (horizontal_data referencing.crs) refl;
      projected = kind_written (text_if_some referencing.crs) (codes "ProjectedCRS") (keys_data (X ∷ Y ∷ []));
      gregorian = none_tells is_other_calendar IsOtherCalendar other_calendars all (calendars_written has_z has_t referencing.crs referencing.vertical);
      crs = crs_written referencing.crs;
      vertical = subst (StandsForVertical has_z all) (sym (vertical_written has_z has_t referencing.crs referencing.vertical h)) (vertical_stands has_z all);
    }
