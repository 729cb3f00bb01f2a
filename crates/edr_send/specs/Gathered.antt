-- All values of a plan in the order of the text; for private clauses.
use Rattle.std.specs.Prelude.{◌≡◌, ℕ, ◌<◌, ◌++◌, ℤ, List, length, map, take, Option}
use Rattle.std.specs.List.{flat_map, slice_index_or}
use Rattle.std.specs.Io.KnownBytes.{append_known}
use Rattle.edr_chunk.specs.declared.shapes.GridPlace.{GridPlace}
use Rattle.edr_select.specs.declared.plans.GridNode.{GridNode}
use Rattle.edr_chunk.specs.Grids.{value}
use Rattle.edr_edition.specs.Stores.{Held}
use Rattle.edr_select.specs.Listings.{PlannedValue, ListingValue, place_at}
use Rattle.edr_send.specs.Filling.{grid_of}

-- ---- places

abbrev pub places_of_range : List GridNode → ℕ → List GridPlace
places_of_range cells parameter = map (place_at parameter) cells

abbrev pub places_of_coverage : List ℕ → PlannedValue → List GridPlace
places_of_coverage parameters planned = flat_map (places_of_range planned.cells) parameters

-- the places of all values, in the order of the text
abbrev pub places_of_coverages : List ℕ → List PlannedValue → List GridPlace
places_of_coverages parameters coverages = flat_map (places_of_coverage parameters) coverages

-- of each coverage how many values stand before its first one
pub record AreStarts (parameters : List ℕ) (coverages : List PlannedValue) (starts : List ℕ) : Type 0 where
  pub long : length starts ≡ length coverages
  pub at : (i : ℕ) → i < length coverages → slice_index_or starts i 0 ≡ length (places_of_coverages parameters (take i coverages))

-- a plan with its values
pub record GatheredValue : Type 0 where
  pub plan : ListingValue
  pub starts : List ℕ
  pub values : List (Option ℤ)

-- they are those of what is held
pub record IsGathered (gathered : GatheredValue) (held : Held) : Type 0 where
  pub starts : AreStarts gathered.plan.parameters gathered.plan.coverages gathered.starts
  pub values : gathered.values ≡ map (value (grid_of held)) (places_of_coverages gathered.plan.parameters gathered.plan.coverages)

-- ---- a text that is written in part

-- of a whole text all but the rest was written
pub record AllBut (rest whole : List ℕ) (old new : Option (List ℕ)) : Type 0 where
  pub front : List ℕ
  pub whole_is : whole ≡ front ++ rest
  pub grew : new ≡ append_known old front
