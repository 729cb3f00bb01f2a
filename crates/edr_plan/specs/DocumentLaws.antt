-- The document of a query that no refusal applies to is a valid one.
use Rattle.std.specs.Prelude.{◌≡◌, None, Some}
use Rattle.covjson_value.specs.Coverages.{IsValidDocument}
use Rattle.edr_edition.specs.Values.{EditionValue}
use Rattle.edr_edition.specs.Editions.{AreCollections}
use Rattle.edr_edition.specs.Stores.{Subject, subject_of}
use Rattle.edr_query.specs.declared.pages.Page.TheVariants.{Ask}
use Rattle.edr_query.specs.Values.{QueryValue}
use Rattle.edr_query.specs.Queries.{IsQuery}
use Rattle.edr_select.specs.Refusals.{IsFirstRefusal}
use Rattle.edr_select.specs.Documents.{document}

abbrev pub DocumentsAreValid : Type 0
DocumentsAreValid = (edition : EditionValue) (query : QueryValue) (subject : Subject) → AreCollections edition.collections → IsQuery query
    → IsFirstRefusal edition (Ask query) None → subject_of edition query.collection query.instance ≡ Some subject → IsValidDocument (document subject query)
