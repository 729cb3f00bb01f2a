-- The reference systems of a tree, or the first check that fails, as a computation.
use Rattle.std.specs.Prelude.{ℕ, List, codes, Bool, true, false, not, bytes_eq, ◌||◌, ◌&&◌, if◌then◌else◌, is_some, ⊤, Option, Some, None, option_and_then, Ok, Err}
use Rattle.serde_json.specs.Data.{Data, Items, no_items, item}
use Rattle.serde_json.specs.Find.{get, as_array, as_str}
use Rattle.covjson_value.specs.declared.coverages.Referencing.{Referencing}
use Rattle.covjson_value.specs.declared.domains.CoordinateName.TheVariants.{X, Y, Z}
use Rattle.covjson_value.specs.Domains.{coordinate_key}
use Rattle.covjson_checks.specs.declared.faults.Member.TheVariants.{Referencing as SystemsMember}
use Rattle.covjson_checks.specs.declared.faults.CovFault.TheVariants.{Missing, WrongType, UnsupportedSystem}
use Rattle.covjson_checks.specs.Answers.{Answer}
use Rattle.edr_base.specs.FirstThatApplies.{and_then, or_fault, check}
use Rattle.edr_json.specs.Trees.{is_text}
use Rattle.covjson_checks.specs.Members.{list_at}
use Rattle.covjson_read.specs.Systems.{system_text, system_name}

-- ---- items of a list

-- each item passes the test
abbrev pub all_that : (Data → Bool) → Items → Bool
all_that test no_items = true
all_that test (item d ds) = test d && all_that test ds

-- the first item that passes it
abbrev pub first_that : (Data → Bool) → Items → Option Data
first_that test no_items = None
first_that test (item d ds) = if test d then Some d else first_that test ds

-- a list has that text
abbrev pub has_text : List ℕ → Items → Bool
has_text text no_items = false
has_text text (item d ds) = is_text text (as_str d) || has_text text ds

abbrev pub has_text_if_list : List ℕ → Option Items → Bool
has_text_if_list text None = false
has_text_if_list text (Some ds) = has_text text ds

-- ---- entries

-- the coordinates of an entry hold that name
abbrev pub holds : List ℕ → Data → Bool
holds name entry = has_text_if_list name (option_and_then as_array (get (codes "coordinates") entry))

-- an entry has coordinates and a system
abbrev pub is_connection : Data → Bool
is_connection entry = is_some (get (codes "coordinates") entry) && is_some (get (codes "system") entry)

-- an entry of both coordinates of the plane
abbrev pub is_plane : Data → Bool
is_plane entry = holds (coordinate_key X) entry && holds (coordinate_key Y) entry

-- an entry of times in another calendar
abbrev pub is_other_calendar : Data → Bool
is_other_calendar entry = bytes_eq (system_text (codes "type") entry) (codes "TemporalRS") && not (bytes_eq (system_text (codes "calendar") entry) (codes "Gregorian"))

-- an entry of levels
abbrev pub is_vertical : Data → Bool
is_vertical entry = bytes_eq (system_text (codes "type") entry) (codes "VerticalCRS") && holds (coordinate_key Z) entry

-- the name of the system of levels, where there are levels
abbrev pub vertical_name : Bool → Items → Option (List ℕ)
vertical_name has_z entries = if has_z then option_and_then system_name (first_that is_vertical entries) else None

-- ---- the first check that fails

-- no calendar but the Gregorian
abbrev pub only_gregorian : Option Data → Answer ⊤
only_gregorian None = Ok tt
only_gregorian (Some entry) = Err (UnsupportedSystem (system_text (codes "calendar") entry))

-- the entry of the plane, of a projected system
abbrev pub plane_in : Items → Answer Data
plane_in entries =
    and_then (check (all_that is_connection entries) (WrongType SystemsMember)) (λ _.
    and_then (or_fault (first_that is_plane entries) (Missing SystemsMember)) (λ plane.
    and_then (check (bytes_eq (system_text (codes "type") plane) (codes "ProjectedCRS")) (UnsupportedSystem (system_text (codes "type") plane))) (λ _.
    Ok plane)))

-- the reference systems, found in the domain or elsewhere
abbrev pub referencing_of : Bool → Option Data → Answer Referencing
referencing_of has_z found =
    and_then (or_fault found (Missing SystemsMember)) (λ list.
    and_then (list_at SystemsMember list) (λ entries.
    and_then (plane_in entries) (λ plane.
    and_then (only_gregorian (first_that is_other_calendar entries)) (λ _.
    Ok (record { crs = system_text (codes "id") plane; vertical = vertical_name has_z entries })))))
