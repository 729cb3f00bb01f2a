-- What the texts of coverages and documents tell.
use Rattle.std.specs.Prelude.{◌≡◌, Some, IsUtf8}
use Rattle.serde_json.specs.Read.{read}
use Rattle.covjson_value.specs.declared.coverages.Coverage.{Coverage}
use Rattle.covjson_value.specs.declared.coverages.Document.{Document}
use Rattle.covjson_value.specs.Coverages.{IsValid, IsValidDocument}
use Rattle.covjson_value.specs.Trees.{coverage_data, coverage_text, document_data, document_text}

-- a valid coverage's text is UTF-8, and what is read in it is the JSON of the coverage
abbrev pub TextsReadBack : Type 0
TextsReadBack = (coverage : Coverage) → IsValid coverage → IsUtf8 (coverage_text coverage) × (read (coverage_text coverage) ≡ Some (coverage_data coverage))

-- valid coverages with one text are equal
abbrev pub TextsTellCoverages : Type 0
TextsTellCoverages = (coverage other : Coverage) → IsValid coverage → IsValid other → coverage_text coverage ≡ coverage_text other → coverage ≡ other

-- the same of documents
abbrev pub DocumentTextsReadBack : Type 0
DocumentTextsReadBack = (document : Document) → IsValidDocument document → IsUtf8 (document_text document) × (read (document_text document) ≡ Some (document_data document))

abbrev pub TextsTellDocuments : Type 0
TextsTellDocuments = (document other : Document) → IsValidDocument document → IsValidDocument other → document_text document ≡ document_text other → document ≡ other
