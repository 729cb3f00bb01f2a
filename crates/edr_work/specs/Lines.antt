-- The targets that are tried, and the line that tells what an edition answers to each.
use Rattle.std.specs.Prelude.{◌≡◌, ℕ, ℤ, codes, List, ◌++◌, length, Ok, Option, None, Some}
use Rattle.std.specs.List.{flat_map}
use Rattle.std.specs.Fmt.{decimal, signed_decimal}
use Rattle.covjson_value.specs.declared.coverages.Coverage.{Coverage}
use Rattle.covjson_value.specs.declared.coverages.Document.{Document}
use Rattle.edr_station.specs.declared.tallies.Tally.{Tally}
use Rattle.edr_station.specs.Tallies.{tally_of}
use Rattle.edr_edition.specs.Values.{EditionValue}
use Rattle.edr_edition.specs.Stores.{Subject, subject_of}
use Rattle.edr_query.specs.Values.{QueryValue}
use Rattle.edr_query.specs.Targets.{IsTarget}
use Rattle.edr_query.specs.declared.pages.Page.TheVariants.{Ask}
use Rattle.edr_select.specs.Refusals.{IsFirstRefusal}
use Rattle.edr_select.specs.Documents.{document}
use Rattle.covjson_value.specs.Coverages.{coverages_in, range_values}
use Rattle.edr_select.specs.Selections.{needed}

-- ---- the targets: a cube, a node, a station, and a corridor along a row

abbrev pub cube_target : List ℕ
cube_target = codes "/collections/grid/cube?bbox=0,0,103900,47900"

abbrev pub position_target : List ℕ
position_target = codes "/collections/grid/position?coords=POINT(6400+6400)"

abbrev pub location_target : List ℕ
location_target = codes "/collections/sites/locations/s07"

abbrev pub corridor_target : List ℕ
corridor_target = codes "/collections/grid/corridor?coords=LINESTRING(0+0,103900+0)&corridor-width=0&width-units=m"

-- ---- the line of a target

-- the values of a document: those of all ranges of all its coverages
abbrev pub coverage_values : Coverage → List (Option ℤ)
coverage_values coverage = flat_map range_values coverage.ranges

abbrev pub document_values : Document → List (Option ℤ)
document_values d = flat_map coverage_values (coverages_in d)

-- the target, the tally of the values of a document, and how many chunks were opened for it
abbrev pub target_line : List ℕ → Tally → ℕ → List ℕ
target_line target tally opened =
    target ++ codes ": values " ++ decimal tally.samples ++ codes ", present " ++ decimal tally.present ++ codes ", sum " ++ signed_decimal tally.sum
    ++ codes ", opened " ++ decimal opened ++ codes "\n"

-- the target asks for a query, the edition answers it with a document, and this is the line that tells of that document and of the
-- chunks that hold a selected sample
pub record IsLine (edition : EditionValue) (target line : List ℕ) : Type 0 where
  pub query : QueryValue
  pub asked : IsTarget target (Ok (Ask query))
  pub none : IsFirstRefusal edition (Ask query) None
  pub subject : Subject
  pub named : subject_of edition query.collection query.instance ≡ Some subject
  pub line_is : line ≡ target_line target (tally_of (document_values (document subject query))) (length (needed subject query))
