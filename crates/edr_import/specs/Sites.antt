-- For private clauses: the stations that are noted of observations.
use Rattle.std.specs.Prelude.{◌≡◌, ◌⊎◌, List, IsSome, None}
use Rattle.edr_ids.specs.Ids.{item_of, with_item}
use Rattle.edr_csv.specs.declared.observations.Observation.{Observation}
use Rattle.edr_import.specs.declared.sites.Site.{Site}
use Rattle.edr_import.specs.Tables.{IsSite, site_id}

-- the station of an observation is noted already, or is noted
abbrev pub NotesSite : List Observation → List Site → Observation → List Site → Type 0
NotesSite observations old o new =
    (IsSome (item_of site_id o.station old) × (new ≡ old))
    ⊎ ((item_of site_id o.station old ≡ None) × (site : Site) × IsSite observations site × (site.id ≡ o.station) × (new ≡ with_item site_id site old))
