-- The refusals of a query, what remains of them from step to step; for the calls that plan, and private clauses.
use Rattle.std.specs.Prelude.{List, [], ◌∷◌, Option}
use Rattle.std.specs.List.{find}
use Rattle.edr_base.specs.declared.refusals.Refusal.{Refusal}
use Rattle.edr_base.specs.declared.refusals.Refusal.TheVariants.{UnknownInstance, UnknownLocation, QueryNotOffered, UnknownParameterName, BadCrs, NoLevels, NoSamples, TooLarge}
use Rattle.edr_edition.specs.Values.{InstanceValue, CollectionValue}
use Rattle.edr_edition.specs.Stores.{of_grid, of_stations, Subject}
use Rattle.edr_query.specs.declared.pages.Page.{Page}
use Rattle.edr_query.specs.Values.{QueryValue}
use Rattle.edr_select.specs.Refusals.{applies_in, applies_to_query, applies_to_subject}

-- those of data
abbrev pub of_data : List Refusal
of_data = NoLevels ∷ (NoSamples ∷ (TooLarge ∷ []))

-- those of a query that its collection offers
abbrev pub refused_query : CollectionValue → QueryValue → Option Refusal
refused_query collection q = find (applies_to_query collection q) (UnknownParameterName ∷ (BadCrs ∷ of_data))

abbrev pub grid_of : CollectionValue → InstanceValue → Subject
grid_of collection instance = record { collection = collection; held = of_grid instance }

-- ---- for private clauses, of the crate that plans over an edition too

abbrev pub refused_data : QueryValue → Subject → Option Refusal
refused_data q subject = find (λ refusal. applies_to_subject q refusal subject) of_data

-- those of a page of a collection that there is
abbrev pub refused_in : CollectionValue → Page → Option Refusal
refused_in collection page =
    find (applies_in collection page) (UnknownInstance ∷ (UnknownLocation ∷ (QueryNotOffered ∷ (UnknownParameterName ∷ (BadCrs ∷ of_data)))))

abbrev pub stations_in : CollectionValue → Subject
stations_in collection = record { collection = collection; held = of_stations collection.parameters collection.stations }
