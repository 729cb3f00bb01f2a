-- What holds of coverages and documents as they are read.
use Rattle.std.specs.Prelude.{◌≡◌, ◌↔◌, ℕ, ◌<◌, ◌^◌, List, length, Result, Ok}
use Rattle.serde_json.specs.Data.{Data}
use Rattle.edr_json.specs.ReadTrees.{IsTree}
use Rattle.covjson_value.specs.declared.coverages.Coverage.{Coverage}
use Rattle.covjson_value.specs.declared.coverages.Document.{Document}
use Rattle.covjson_value.specs.Coverages.{IsValid, IsValidDocument}
use Rattle.covjson_value.specs.Trees.{document_text}
use Rattle.covjson_checks.specs.declared.faults.CovFault.{CovFault}
use Rattle.covjson_read.specs.Standing.{StandsIn, StandsForDocument}
use Rattle.covjson_read.specs.Rows.{CoverageRows, DocumentRows}

-- ---- coverages

-- the rows of a coverage have one answer
abbrev pub CoverageRowsHaveOneAnswer : Type 0
CoverageRowsHaveOneAnswer = (collection tree : Data) (one other : Result Coverage CovFault) → CoverageRows collection tree one → CoverageRows collection tree other → one ≡ other

-- they end in a coverage exactly where the tree stands for it
abbrev pub CoverageRowsAreWhatStands : Type 0
CoverageRowsAreWhatStands = (collection tree : Data) (coverage : Coverage) → CoverageRows collection tree (Ok coverage) ↔ StandsIn collection tree coverage

-- a tree stands for at most one coverage
abbrev pub TreesStandForOne : Type 0
TreesStandForOne = (collection tree : Data) (one other : Coverage) → StandsIn collection tree one → StandsIn collection tree other → one ≡ other

-- what a tree that was read stands for is valid
abbrev pub ReadCoveragesAreValid : Type 0
ReadCoveragesAreValid = (collection tree : Data) (coverage : Coverage) → IsTree collection → IsTree tree → StandsIn collection tree coverage → IsValid coverage

-- ---- documents

-- the rows of a document have one answer
abbrev pub DocumentRowsHaveOneAnswer : Type 0
DocumentRowsHaveOneAnswer = (text : List ℕ) (one other : Result Document CovFault) → DocumentRows text one → DocumentRows text other → one ≡ other

-- they end in a document exactly where the text stands for it
abbrev pub DocumentRowsAreWhatStands : Type 0
DocumentRowsAreWhatStands = (text : List ℕ) (document : Document) → DocumentRows text (Ok document) ↔ StandsForDocument text document

-- a text stands for at most one document
abbrev pub TextsHaveOneDocument : Type 0
TextsHaveOneDocument = (text : List ℕ) (one other : Document) → StandsForDocument text one → StandsForDocument text other → one ≡ other

-- what a text stands for is valid, where its bytes can be counted
abbrev pub ReadDocumentsAreValid : Type 0
ReadDocumentsAreValid = (text : List ℕ) (document : Document) → length text < 2 ^ 64 → StandsForDocument text document → IsValidDocument document

-- what is written of a valid document stands for it
abbrev pub WrittenDocumentsAreRead : Type 0
WrittenDocumentsAreRead = (document : Document) → IsValidDocument document → StandsForDocument (document_text document) document
