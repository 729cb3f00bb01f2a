-- What the pieces of a document's text are together.
use Rattle.std.specs.Prelude.{◌≡◌, ℕ, ◌+◌, ℤ, List, ◌++◌, length}
use Rattle.std.specs.declared.option.Option.{Option}
use Rattle.covjson_value.specs.declared.coverages.NdArray.{NdArray}
use Rattle.covjson_value.specs.declared.coverages.Coverage.{Coverage}
use Rattle.covjson_value.specs.declared.coverages.Document.{Document}
use Rattle.covjson_value.specs.Coverages.{IsValid, IsValidDocument, coverages_in}
use Rattle.covjson_value.specs.Trees.{coverage_text, document_text}
use Rattle.covjson_write.specs.declared.range_heads.RangeHead.{RangeHead}
use Rattle.covjson_write.specs.Pieces.{values_from, head_of, ranges_from, coverage_begin, coverages_from, is_many, document_begin, document_end}

-- values one after another are written as those first and those behind them
abbrev pub ValuesGoOn : Type 0
ValuesGoOn = (n : ℕ) (values more : List (Option ℤ)) → values_from n (values ++ more) ≡ values_from n values ++ values_from (n + length values) more

abbrev pub RangesGoOn : Type 0
RangesGoOn = (head : RangeHead) (n : ℕ) (ranges more : List NdArray) → ranges_from head n (ranges ++ more) ≡ ranges_from head n ranges ++ ranges_from head (n + length ranges) more

abbrev pub CoveragesGoOn : Type 0
CoveragesGoOn = (n : ℕ) (coverages more : List Coverage) → coverages_from n (coverages ++ more) ≡ coverages_from n coverages ++ coverages_from (n + length coverages) more

-- the text of a valid coverage is its beginning and its ranges
abbrev pub CoverageOfPieces : Type 0
CoverageOfPieces = (coverage : Coverage) → IsValid coverage → coverage_text coverage ≡ coverage_begin coverage ++ ranges_from (head_of coverage) 0 coverage.ranges

-- the text of a valid document is its beginning, its coverages and its end
abbrev pub DocumentOfPieces : Type 0
DocumentOfPieces = (document : Document) → IsValidDocument document
    → document_text document ≡ document_begin (is_many document) ++ (coverages_from 0 (coverages_in document) ++ document_end (is_many document))
