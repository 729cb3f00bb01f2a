-- What holds of ranges and of the answers to their trees.
use Rattle.std.specs.Prelude.{◌≡◌, ℕ, ◌↔◌, List, length, map, zip, All, Ok}
use Rattle.serde_json.specs.Data.{Data}
use Rattle.edr_json.specs.Trees.{EachStands, names_of, values_of}
use Rattle.covjson_value.specs.declared.domains.Domain.{Domain}
use Rattle.covjson_value.specs.declared.coverages.NdArray.{NdArray}
use Rattle.covjson_value.specs.Coverages.{IsRange}
use Rattle.covjson_value.specs.Trees.{range_data, members_in_order}
use Rattle.covjson_checks.specs.declared.turned.ReadDomain.{ReadDomain}
use Rattle.covjson_checks.specs.RowLaws.{HasOneAnswer}
use Rattle.covjson_checks.specs.declared.turned.Turned.{Turned}
use Rattle.covjson_checks.specs.Turns.{unturned}
use Rattle.covjson_ranges.specs.Ranges.{StandsForRange}
use Rattle.covjson_ranges.specs.RangeRows.{RangeRows}
use Rattle.covjson_ranges.specs.RangeAnswers.{range_of}

-- the rows of a tree have one answer
abbrev pub RangeRowsHaveOneAnswer : Type 0
RangeRowsHaveOneAnswer = (read : ReadDomain) (d : Data) → HasOneAnswer (RangeRows read d)

-- they end in a range exactly where the tree stands for it
abbrev pub RangeRowsAreWhatStand : Type 0
RangeRowsAreWhatStand = (read : ReadDomain) (d : Data) (range : NdArray) → RangeRows read d (Ok range) ↔ StandsForRange read.domain read.turned d range

-- a range for which a tree stands is one over the domain
abbrev pub RangesAreValid : Type 0
RangesAreValid = (domain : Domain) (turned : Turned) (d : Data) (range : NdArray) → StandsForRange domain turned d range → IsRange domain range

-- ---- for the crates of CoverageJSON

-- the computed answer follows the rows
abbrev pub RangeAnswersFollowRows : Type 0
RangeAnswersFollowRows = (read : ReadDomain) (d : Data) → RangeRows read d (range_of read d)

-- it is a range exactly where the tree stands for it
abbrev pub RangesAreWhatStand : Type 0
RangesAreWhatStand = (read : ReadDomain) (d : Data) (range : NdArray) → (range_of read d ≡ Ok range) ↔ StandsForRange read.domain read.turned d range

-- the members that are written of ranges have their ids, and stand for them
abbrev pub WrittenRangesStand : Type 0
WrittenRangesStand = (domain : Domain) (ids : List (List ℕ)) (ranges : List NdArray) → length ranges ≡ length ids → All (IsRange domain) ranges
    → let members = members_in_order (zip ids (map (range_data domain) ranges)) in
    (names_of members ≡ ids) × EachStands (StandsForRange domain unturned) (values_of members) ranges
