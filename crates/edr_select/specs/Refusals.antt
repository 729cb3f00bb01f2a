-- The refusals that an edition gives a page, in their order.
use Rattle.std.specs.Prelude.{◌≡◌, ℕ, nat_lt, Bool, true, false, not, ◌&&◌, ◌||◌, bytes_eq, List, [], ◌∷◌, length, Option, None, Some, is_some, is_none}
use Rattle.std.specs.List.{find, list_any}
use Rattle.edr_base.specs.FirstThatApplies.{IsLeastOrNone}
use Rattle.edr_base.specs.RefusalTable.{rank}
use Rattle.edr_base.specs.declared.refusals.Refusal.{Refusal}
use Rattle.edr_base.specs.declared.refusals.Refusal.TheVariants.{UnknownCollection, UnknownInstance, UnknownLocation, QueryNotOffered, UnknownParameterName, BadCrs, NoLevels, NoSamples, TooLarge}
use Rattle.covjson_value.specs.Coverages.{ids_of, coverages_in}
use Rattle.edr_ids.specs.Ids.{item_of}
use Rattle.edr_edition.specs.declared.kinds.Kind.{Kind}
use Rattle.edr_edition.specs.declared.kinds.Kind.TheVariants.{Grid, Station}
use Rattle.edr_station.specs.Stations.{StationValue, station_id}
use Rattle.edr_edition.specs.Values.{CollectionValue, EditionValue, instance_id}
use Rattle.edr_edition.specs.Stores.{Held, of_grid, of_stations, Subject, instance_named, subject_in, collection_in}
use Rattle.edr_query.specs.declared.pages.Page.{Page}
use Rattle.edr_query.specs.declared.pages.Page.TheVariants.{Landing, Conformance, Collections, Collection, Instances, Instance, Locations, Ask}
use Rattle.edr_query.specs.declared.shapes.Shape.{Shape}
use Rattle.edr_query.specs.declared.shapes.Shape.TheVariants as at
use Rattle.edr_query.specs.Values.{QueryValue}
use Rattle.edr_query.specs.Queries.{has_z, has_levels, coords_of, box_of}
use Rattle.edr_select.specs.Limits.{value_limit, coverage_limit}
use Rattle.edr_select.specs.Selections.{picked}
use Rattle.edr_select.specs.Heads.{is_some_stored}
use Rattle.edr_select.specs.Documents.{document, values_in}

-- ---- what a page names

-- the id of the collection that a page is about
abbrev pub collection_named : Page → Option (List ℕ)
collection_named Landing = None
collection_named Conformance = None
collection_named Collections = None
collection_named (Collection c) = Some c
collection_named (Instances c) = Some c
collection_named (Instance c i) = Some c
collection_named (Locations c) = Some c
collection_named (Ask q) = Some q.collection

abbrev pub is_of_grids : Kind → Bool
is_of_grids Grid = true
is_of_grids Station = false

-- the page needs an instance that a collection of grids hasn't
abbrev pub lacks_instance : CollectionValue → Page → Bool
lacks_instance collection (Instance c i) = is_of_grids collection.kind && is_none (item_of instance_id i collection.instances)
lacks_instance collection (Ask q) = is_of_grids collection.kind && is_none (instance_named q.instance collection.instances)
lacks_instance collection other = false

abbrev pub lacks_station_of : CollectionValue → Shape → Bool
lacks_station_of collection (at.Location id) = not (is_of_grids collection.kind) && is_none (item_of station_id id collection.stations)
lacks_station_of collection other = false

-- the page needs a station that a collection of stations hasn't
abbrev pub lacks_station : CollectionValue → Page → Bool
lacks_station collection (Ask q) = lacks_station_of collection q.shape
lacks_station collection other = false

-- ---- what a kind of collection offers

abbrev pub offers_shape : Kind → Shape → Bool
offers_shape Grid (at.Location id) = false
offers_shape Grid other = true
offers_shape Station (at.Position geometry) = false
offers_shape Station (at.Trajectory geometry) = false
offers_shape Station other = true

abbrev pub offers : Kind → Page → Bool
offers Grid (Locations c) = false
offers Grid (Ask q) = offers_shape Grid q.shape
offers Station (Instances c) = false
offers Station (Instance c i) = false
offers Station (Ask q) = is_none q.instance && offers_shape Station q.shape
offers kind other = true

-- ---- what a query asks of its data

-- a name isn't the id of a parameter
abbrev pub names_other : Option (List (List ℕ)) → List (List ℕ) → Bool
names_other None ids = false
names_other (Some names) ids = list_any (λ name. not (list_any (bytes_eq name) ids)) names

abbrev pub crs_is_other : Option (List ℕ) → List ℕ → Bool
crs_is_other None crs = false
crs_is_other (Some asked) crs = not (bytes_eq asked crs)

-- the ids of the parameters of a collection
abbrev pub ids_in : CollectionValue → List (List ℕ)
ids_in collection = ids_of collection.parameters

-- levels are asked: by `z`, by the z of a geometry or by a box with levels
abbrev pub asks_levels : QueryValue → Bool
asks_levels q = is_some q.levels || (has_z (coords_of q.shape) || has_levels (box_of q.shape))

-- the data have levels: stations where one of them has
abbrev pub have_levels : Held → Bool
have_levels (of_grid i) = is_some i.zs
have_levels (of_stations parameters stations) = list_any (λ (s : StationValue). is_some s.zs) stations

-- ---- the table

-- a refusal applies to a query of some data
abbrev pub applies_to_subject : QueryValue → Refusal → Subject → Bool
applies_to_subject q NoLevels subject = asks_levels q && not (have_levels subject.held)
applies_to_subject q NoSamples subject = not (is_some_stored (picked subject q))
applies_to_subject q TooLarge subject =
    nat_lt value_limit (values_in (document subject q)) || nat_lt coverage_limit (length (coverages_in (document subject q)))
applies_to_subject q other subject = false

abbrev pub applies_if : {V : Type 0} → (V → Bool) → Option V → Bool
applies_if applies None = false
applies_if applies (Some found) = applies found

-- a refusal applies to a query of a collection
abbrev pub applies_to_query : CollectionValue → QueryValue → Refusal → Bool
applies_to_query collection q UnknownParameterName = names_other q.parameters (ids_in collection)
applies_to_query collection q BadCrs = crs_is_other q.crs collection.referencing.crs
applies_to_query collection q other = applies_if (applies_to_subject q other) (subject_in q.instance collection)

-- a refusal applies to a page of a collection
abbrev pub applies_in : CollectionValue → Page → Refusal → Bool
applies_in collection page UnknownInstance = lacks_instance collection page
applies_in collection page UnknownLocation = lacks_station collection page
applies_in collection page QueryNotOffered = not (offers collection.kind page)
applies_in collection (Ask q) other = applies_to_query collection q other
applies_in collection page other = false

abbrev pub is_unknown_collection : Refusal → Bool
is_unknown_collection UnknownCollection = true
is_unknown_collection other = false

abbrev pub applies_if_found : Page → Refusal → Option CollectionValue → Bool
applies_if_found page refusal None = is_unknown_collection refusal
applies_if_found page refusal (Some collection) = applies_in collection page refusal

-- a refusal applies to a page of an edition
abbrev pub applies : EditionValue → Page → Refusal → Bool
applies edition page refusal = applies_if (λ id. applies_if_found page refusal (collection_in edition.collections id)) (collection_named page)

-- ---- the first that applies

abbrev pub Applies : EditionValue → Page → Refusal → Type 0
Applies edition page refusal = applies edition page refusal ≡ true

-- the least refusal that applies to a page of an edition, or none where none does
abbrev pub IsFirstRefusal : EditionValue → Page → Option Refusal → Type 0
IsFirstRefusal edition page = IsLeastOrNone rank (Applies edition page)

-- the same of the refusals of a query from UnknownParameterName on; those before it, of ids and of the kind of query, aren't asked
abbrev pub AppliesToQuery : CollectionValue → QueryValue → Refusal → Type 0
AppliesToQuery collection q refusal = applies_to_query collection q refusal ≡ true

abbrev pub IsFirstOfQuery : CollectionValue → QueryValue → Option Refusal → Type 0
IsFirstOfQuery collection q = IsLeastOrNone rank (AppliesToQuery collection q)

-- ---- the same, found; for the bytes of sessions, and private clauses

-- the refusals of an edition, by their numbers
abbrev pub in_order : List Refusal
in_order =
    UnknownCollection ∷ (UnknownInstance ∷ (UnknownLocation ∷ (QueryNotOffered ∷ (UnknownParameterName ∷ (BadCrs ∷ (NoLevels ∷ (NoSamples ∷ (TooLarge ∷ []))))))))

-- the first of them that applies, where one does
abbrev pub refused : EditionValue → Page → Option Refusal
refused edition page = find (applies edition page) in_order

-- a law: that is the least by its number, and where there is none, none applies
abbrev pub RefusalIsLeast : Type 0
RefusalIsLeast = (edition : EditionValue) (page : Page) → IsFirstRefusal edition page (refused edition page)
