-- The document of a query of an instance of grids that selects something is a valid one.
use Rattle.std.specs.Prelude.{◌≡◌, true}
use Rattle.covjson_value.specs.Coverages.{IsValidDocument}
use Rattle.edr_edition.specs.Values.{InstanceValue, CollectionValue}
use Rattle.edr_query.specs.Values.{QueryValue}
use Rattle.edr_select.specs.Checks.{grid_of}
use Rattle.edr_select.specs.Heads.{is_some_stored}
use Rattle.edr_select.specs.Selections.{picked}
use Rattle.edr_select.specs.Steps.{IsAsked}
use Rattle.edr_select.specs.Documents.{document}

abbrev pub GridDocumentsAreValid : Type 0
GridDocumentsAreValid = (collection : CollectionValue) (query : QueryValue) (instance : InstanceValue) → IsAsked collection query instance
    → is_some_stored (picked (grid_of collection instance) query) ≡ true → IsValidDocument (document (grid_of collection instance) query)
