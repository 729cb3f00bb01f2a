-- The document of a query of an instance of grids along a line that selects something is a valid one.
use Rattle.std.specs.Prelude.{◌≡◌, ℤ, true, Option}
use Rattle.covjson_value.specs.Coverages.{IsValidDocument}
use Rattle.edr_wkt.specs.declared.geometry.Geometry.{Geometry}
use Rattle.edr_edition.specs.Values.{InstanceValue, CollectionValue}
use Rattle.edr_query.specs.declared.shapes.Shape.TheVariants as at
use Rattle.edr_query.specs.Values.{QueryValue}
use Rattle.edr_select.specs.Checks.{grid_of}
use Rattle.edr_select.specs.Heads.{is_some_stored}
use Rattle.edr_select.specs.Selections.{picked}
use Rattle.edr_select.specs.Documents.{document}
use Rattle.edr_lines.specs.Asked.{IsAskedAlong}

abbrev pub CorridorDocumentsAreValid : Type 0
CorridorDocumentsAreValid = (collection : CollectionValue) (query : QueryValue) (instance : InstanceValue) → IsAskedAlong collection query instance
    → (geometry : Geometry) (width : ℤ) (height : Option ℤ) → query.shape ≡ at.Corridor geometry width height
    → is_some_stored (picked (grid_of collection instance) query) ≡ true → IsValidDocument (document (grid_of collection instance) query)

abbrev pub LineDocumentsAreValid : Type 0
LineDocumentsAreValid = (collection : CollectionValue) (query : QueryValue) (instance : InstanceValue) → IsAskedAlong collection query instance
    → is_some_stored (picked (grid_of collection instance) query) ≡ true → IsValidDocument (document (grid_of collection instance) query)
