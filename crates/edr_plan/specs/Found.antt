-- What a query is about in a collection, and the refusals that are left; for private clauses.
use Rattle.std.specs.Prelude.{⊤, ◌≡◌, Some, None}
use Rattle.covjson_value.specs.Coverages.{IsValidDocument}
use Rattle.edr_edition.specs.Values.{InstanceValue, CollectionValue, EditionValue}
use Rattle.edr_edition.specs.declared.kinds.Kind.TheVariants.{Station}
use Rattle.edr_edition.specs.Instances.{IsInstance}
use Rattle.edr_edition.specs.Stores.{Subject, instance_named, subject_in, subject_of}
use Rattle.edr_query.specs.declared.pages.Page.TheVariants.{Ask}
use Rattle.edr_query.specs.declared.shapes.Shape.{Shape}
use Rattle.edr_query.specs.declared.shapes.Shape.TheVariants as at
use Rattle.edr_query.specs.Values.{QueryValue}
use Rattle.edr_select.specs.declared.plans.Reply.{Reply}
use Rattle.edr_select.specs.Checks.{refused_in, refused_query}
use Rattle.edr_select.specs.Documents.{document}
use Rattle.edr_select.specs.Plans.{IsReplyTo}
use Rattle.edr_select.specs.Refusals.{refused}
use Rattle.edr_plan.specs.StationPlaces.{IsAmongStations}
use Rattle.edr_plan.specs.StationPlans.{IsThere}

-- what collections of grids answer
abbrev pub IsOfGrids : Shape → Type 0
IsOfGrids (at.Location id) = ⊥
IsOfGrids other = ⊤

-- a query is asked of an instance of a collection of grids, and no refusal applies of those before names
pub record IsFoundIn (collection : CollectionValue) (q : QueryValue) (instance : InstanceValue) : Type 0 where
  pub is_instance : IsInstance instance
  pub instance_is : instance_named q.instance collection.instances ≡ Some instance
  pub shape : IsOfGrids q.shape
  pub refused_is : refused_in collection (Ask q) ≡ refused_query collection q

-- the same of the stations of a collection
pub record IsFoundStations (collection : CollectionValue) (q : QueryValue) : Type 0 where
  pub kind : collection.kind ≡ Station
  pub shape : IsAmongStations q.shape
  pub there : IsThere q.shape collection.stations
  pub refused_is : refused_in collection (Ask q) ≡ refused_query collection q

-- no refusal applies to a query of a collection, its document is valid, and the reply is that to it
pub record IsReplyIn (collection : CollectionValue) (q : QueryValue) (reply : Reply) : Type 0 where
  pub none : refused_in collection (Ask q) ≡ None
  pub subject : Subject
  pub named : subject_in q.instance collection ≡ Some subject
  pub valid : IsValidDocument (document subject q)
  pub stands : IsReplyTo reply q subject

-- the same of a query of an edition
pub record IsReplyOf (edition : EditionValue) (q : QueryValue) (reply : Reply) : Type 0 where
  pub none : refused edition (Ask q) ≡ None
  pub subject : Subject
  pub named : subject_of edition q.collection q.instance ≡ Some subject
  pub valid : IsValidDocument (document subject q)
  pub stands : IsReplyTo reply q subject
