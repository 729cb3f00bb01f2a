-- What is known of a query from step to step of its planning; for the calls that plan, and private clauses.
use Rattle.std.specs.Prelude.{⊤, ◌≡◌, ℕ, ◌*◌, Bool, true, false, not, ◌&&◌, List, [], ◌∷◌, length, map, Option, None, Some, is_some}
use Rattle.std.specs.List.{find}
use Rattle.edr_base.specs.declared.refusals.Refusal.{Refusal}
use Rattle.edr_base.specs.declared.refusals.Refusal.TheVariants.{BadCrs, NoSamples, TooLarge}
use Rattle.edr_wkt.specs.declared.geometry.Geometry.{Geometry}
use Rattle.edr_wkt.specs.Geometries.{is_multi_point}
use Rattle.covjson_value.specs.declared.coverages.Referencing.{Referencing}
use Rattle.covjson_value.specs.Coverages.{IsValidDocument}
use Rattle.edr_edition.specs.declared.kinds.Kind.TheVariants.{Grid}
use Rattle.edr_edition.specs.Values.{InstanceValue, CollectionValue}
use Rattle.edr_edition.specs.Instances.{HasGrid}
use Rattle.edr_edition.specs.Editions.{IsCollection}
use Rattle.edr_edition.specs.Stores.{Subject, instance_named}
use Rattle.edr_query.specs.Queries.{IsShape}
use Rattle.edr_query.specs.Values.{QueryValue}
use Rattle.edr_select.specs.declared.forms.Form.{Form}
use Rattle.edr_select.specs.declared.forms.Form.TheVariants.{AtPoint, Along, Apart}
use Rattle.edr_select.specs.declared.planning.PlanFault.{PlanFault}
use Rattle.edr_select.specs.declared.planning.PlanFault.TheVariants.{Refused, OutOfMemory}
use Rattle.edr_select.specs.Documents.{document}
use Rattle.edr_select.specs.Refusals.{applies_to_query, applies_to_subject, asks_levels, IsFirstOfQuery}
use Rattle.edr_select.specs.Checks.{of_data, refused_query, grid_of}
use Rattle.edr_select.specs.Choices.{TakesEach, Chosen, chosen, IsSome}
use Rattle.edr_select.specs.Planned.{planned_at, planned_along}
use Rattle.edr_select.specs.Listings.{PlannedValue}
use Rattle.edr_select.specs.Plans.{PlanValue, StandsFor}

-- the instance of a collection of grids that a query is asked of
pub record IsAskedOf (collection : CollectionValue) (q : QueryValue) (instance : InstanceValue) : Type 0 where
  pub is_collection : IsCollection collection
  pub kind : collection.kind ≡ Grid
  pub instance_is : instance_named q.instance collection.instances ≡ Some instance

-- a query is asked of an instance of a collection of grids, and takes each of its times, levels and places by itself
pub record IsAsked (collection : CollectionValue) (q : QueryValue) (instance : InstanceValue) : Type 0 where
  pub is_collection : IsCollection collection
  pub kind : collection.kind ≡ Grid
  pub instance_is : instance_named q.instance collection.instances ≡ Some instance
  pub each : TakesEach q.shape
  pub shape : IsShape q.shape
  pub grid : HasGrid instance

-- once names are known
abbrev pub refused_known : CollectionValue → QueryValue → Option Refusal
refused_known collection q = find (applies_to_query collection q) (BadCrs ∷ of_data)

-- once levels are there
abbrev pub refused_sizes : QueryValue → Subject → Option Refusal
refused_sizes q subject = find (λ refusal. applies_to_subject q refusal subject) (NoSamples ∷ (TooLarge ∷ []))

-- levels are asked of an instance without any
abbrev pub lacks_levels : QueryValue → InstanceValue → Bool
lacks_levels q instance = asks_levels q && not (is_some instance.zs)

-- no refusal from that of names on applies to the query, its document is valid, and the plan stands for it
pub record IsPlanOver (collection : CollectionValue) (q : QueryValue) (instance : InstanceValue) (plan : PlanValue) : Type 0 where
  pub none : IsFirstOfQuery collection q None
  pub query_is : plan.query ≡ q
  pub valid : IsValidDocument (document (grid_of collection instance) q)
  pub stands : StandsFor plan (grid_of collection instance)

-- a fault is the first refusal from that of names on; want of memory is free
abbrev pub IsFirstFault : CollectionValue → QueryValue → PlanFault → Type 0
IsFirstFault collection q (Refused refusal) = IsFirstOfQuery collection q (Some refusal)
IsFirstFault collection q OutOfMemory = ⊤

-- a fault is the refusal that is found; want of memory is free
abbrev pub IsFaultOf : Option Refusal → PlanFault → Type 0
IsFaultOf refused (Refused refusal) = refused ≡ Some refusal
IsFaultOf refused OutOfMemory = ⊤

-- ---- for private clauses, of the crates that plan along lines and over an edition too

-- the plan that is over an instance, by what is found
pub record IsPlanIn (collection : CollectionValue) (q : QueryValue) (instance : InstanceValue) (plan : PlanValue) : Type 0 where
  pub none : refused_query collection q ≡ None
  pub query_is : plan.query ≡ q
  pub valid : IsValidDocument (document (grid_of collection instance) q)
  pub stands : StandsFor plan (grid_of collection instance)

-- once something is selected
abbrev pub refused_large : QueryValue → Subject → Option Refusal
refused_large q subject = find (λ refusal. applies_to_subject q refusal subject) (TooLarge ∷ [])

-- what a query takes, where something is taken, and the refusals that are left
pub record IsChoice (collection : CollectionValue) (q : QueryValue) (instance : InstanceValue) (choice : Chosen) : Type 0 where
  pub is : choice ≡ chosen instance q
  pub some : IsSome choice
  pub refused_is : refused_query collection q ≡ refused_large q (grid_of collection instance)

-- ---- the coverages of a reply

-- one spot; several at one time and place of levels; several at several times or levels
abbrev pub IsForm : Geometry → Chosen → Form → Type 0
IsForm geometry c (AtPoint spot) = (is_multi_point geometry ≡ false) × (c.spots ≡ spot ∷ [])
IsForm geometry c (Along t z) = (is_multi_point geometry ≡ true) × ((c.times ≡ t ∷ []) × (c.levels ≡ z ∷ []))
IsForm geometry c Apart = (is_multi_point geometry ≡ true) × (¬ ((length c.times ≡ 1) × (length c.levels ≡ 1)))

abbrev pub is_many : Form → Bool
is_many (AtPoint spot) = false
is_many (Along t z) = false
is_many Apart = true

-- how many values, and how many coverages
abbrev pub value_count : Chosen → ℕ
value_count c = length c.parameters * (length c.times * (length c.levels * length c.spots))

abbrev pub coverage_count : Chosen → Form → ℕ
coverage_count c (AtPoint spot) = 1
coverage_count c (Along t z) = 1
coverage_count c Apart = length c.spots

-- a coverage for each spot, or one along all of them
abbrev pub planned_in : Referencing → InstanceValue → Chosen → Form → List PlannedValue
planned_in referencing i c (AtPoint spot) = map (planned_at referencing i c) c.spots
planned_in referencing i c (Along t z) = planned_along referencing i c t z ∷ []
planned_in referencing i c Apart = map (planned_at referencing i c) c.spots
