-- Trees of lines that have none of the forms, or whose coverage stands for nothing.
use Rattle.std.proofs.Common.{◌≡◌, ◌≢◌, ◌⊎◌, ℕ, true, false, true≢false, List, [], codes, Option, None, Some, Err, inl, inr, sym, ◌∙◌, subst}
use Rattle.serde_json.specs.Data.{Data, null}
use Rattle.serde_json.specs.Find.{get}
use Rattle.covjson_value.specs.declared.coverages.Coverage.{Coverage}
use Rattle.covjson_checks.specs.declared.faults.CovFault.{CovFault}
use Rattle.covjson_checks.specs.declared.faults.CovFault.TheVariants.{NotJson, Missing, WrongType, UnsupportedDomain, UnsupportedSystem, UnsupportedRange, NotWhole, OutOfRange, OutOfRangeAt, BadTime, NotMonotonic, WrongCount, OutOfMemory}
use Rattle.covjson_read.specs.Standing.{Stands}
use Rattle.covjson_read.specs.Rows.{CoverageRows}
use Rattle.edr_edition.specs.declared.kinds.Kind.{Kind}
use Rattle.edr_edition.specs.declared.kinds.Kind.TheVariants.{Grid as Grids, Station as Stations}
use Rattle.edr_draft.specs.declared.changes.Change.TheVariants.{Collection, Grid, Station, DropCollection, DropInstance, DropStation, Bare}
use Rattle.edr_feed.specs.declared.entries.Entry.{Entry}
use Rattle.edr_feed.specs.declared.entries.Entry.TheVariants.{Change, Publish}
use Rattle.edr_feed.specs.Forms.{IsObjectOf, HasJust, IsCollection, IsGrid, IsStation, IsDropCollection, IsDropInstance, IsDropStation, IsBare, HasForm, HoldsCoverage, HasOutline}
use Rattle.edr_feed.specs.Faults.{of_cov}
use Rattle.edr_feed.specs.FormParts.{HasText, HasTextIfGiven, HasKind, collection_members, IsNoEntry, line_of}
use Rattle.edr_json.specs.Trees.{has_members}
use Rattle.edr_feed.proofs.FormLemmas.{text_is, same_given, just_found, just_counts}
use Rattle.edr_feed.proofs.FormOutlines.{collection_outline, drop_outline, Drops, DropsInstance, DropsStation, DropInstanceParts, DropStationParts}

not_both : (d : Data) (n : ℕ) → has_members n d ≡ true → has_members n d ≡ false → ⊥
not_both d n p q = true≢false (sym p ∙ q)

-- a collection has as many members as its vertical system says
pub collection_counts : (d : Data) (vertical : Option (List ℕ)) → HasTextIfGiven (codes "vertical") d vertical
    → has_members (collection_members vertical) d ≡ false → ¬ (HasOutline (line_of (codes "collection") d))
collection_counts d vertical given counts outline =
    let adds = (collection_outline d outline).1 in
    let same = same_given (codes "vertical") d adds.vertical vertical adds.parts.has_vertical given in
    not_both d (collection_members vertical) (subst (λ (v : Option (List ℕ)). has_members (collection_members v) d ≡ true) same adds.parts.counts) counts

-- neither of the two words is the kind
pub no_kind : (d : Data) → ¬ (HasText (codes "kind") d (codes "grid")) → ¬ (HasText (codes "kind") d (codes "station")) → (kind : Kind) → ¬ (HasKind d kind)
no_kind d grid station Grids has = grid has
no_kind d grid station Stations has = station has

-- an instance or a station is dropped where there isn't one member
drops_some : (d : Data) (entry : Entry) → has_members 1 d ≡ false → Drops d entry → DropsInstance d entry ⊎ DropsStation d entry
drops_some d entry counts (inl one) = absurd (not_both d 1 one.parts.counts counts)
drops_some d entry counts (inr some) = some

some_counts : (d : Data) (entry : Entry) → DropsInstance d entry ⊎ DropsStation d entry → has_members 2 d ≡ true
some_counts d entry (inl one) = one.parts.counts
some_counts d entry (inr one) = one.parts.counts

pub drop_counts : (d : Data) → has_members 1 d ≡ false → has_members 2 d ≡ false → ¬ (HasOutline (line_of (codes "drop") d))
drop_counts d one two outline =
    let drops = drop_outline d outline in
    not_both d 2 (some_counts d drops.0 (drops_some d drops.0 one drops.1)) two

-- an instance, where no station is named
pub record DropsNoStation (d : Data) : Type 0 where
  pub collection : List ℕ
  pub instance : List ℕ
  pub parts : DropInstanceParts d collection instance

drops_no_station : (d : Data) (entry : Entry) → get (codes "station") d ≡ None → DropsInstance d entry ⊎ DropsStation d entry → DropsNoStation d
drops_no_station d entry none (inl one) = record { collection = one.collection; instance = one.instance; parts = one.parts }
drops_no_station d entry none (inr one) = let some = text_is (codes "station") d one.id one.parts.has_id.0 in cc

pub drop_instance_outline : (d : Data) → has_members 1 d ≡ false → get (codes "station") d ≡ None → HasOutline (line_of (codes "drop") d) → DropsNoStation d
drop_instance_outline d counts none outline =
    let drops = drop_outline d outline in
    drops_no_station d drops.0 none (drops_some d drops.0 counts drops.1)

-- a station, where one is named
pub record DropsNamedStation (d : Data) : Type 0 where
  pub collection : List ℕ
  pub id : List ℕ
  pub parts : DropStationParts d collection id

drops_named_station : (d value : Data) (entry : Entry) → get (codes "station") d ≡ Some value → DropsInstance d entry ⊎ DropsStation d entry → DropsNamedStation d
drops_named_station d value entry some (inl one) = let none = one.parts.lacks_station in cc
drops_named_station d value entry some (inr one) = record { collection = one.collection; id = one.id; parts = one.parts }

pub drop_station_outline : (d value : Data) → has_members 1 d ≡ false → get (codes "station") d ≡ Some value → HasOutline (line_of (codes "drop") d) → DropsNamedStation d
drop_station_outline d value counts some outline =
    let drops = drop_outline d outline in
    drops_named_station d value drops.0 some (drops_some d drops.0 counts drops.1)

-- ---- lines of other members

-- the names of members that lines have
data IsKnown (d : Data) : Type 0 where
  of_collection : (value : Data) → get (codes "collection") d ≡ Some value → IsKnown d
  of_grid : (value : Data) → get (codes "grid") d ≡ Some value → IsKnown d
  of_station : (value : Data) → get (codes "station") d ≡ Some value → IsKnown d
  of_drop : (value : Data) → get (codes "drop") d ≡ Some value → IsKnown d
  of_publish : (value : Data) → get (codes "publish") d ≡ Some value → IsKnown d

record IsLine (d : Data) : Type 0 where
  pub counts : has_members 1 d ≡ true
  pub known : IsKnown d

line_by : (name : List ℕ) (d : Data) (P : Data → Type 0) → ((value : Data) → get name d ≡ Some value → IsKnown d) → HasJust name P d → IsLine d
line_by name d P known just = let found = just_found name d P just in record { counts = just_counts name d P just; known = known found.0 found.1 }

form_line : (d : Data) (entry : Entry) → HasForm d entry → IsBare d ⊎ IsLine d
form_line d (Change (Collection id kind title crs vertical)) form = inr (line_by (codes "collection") d (IsCollection id kind title crs vertical) of_collection form)
form_line d (Change (Grid collection instance coverage)) form = inr (line_by (codes "grid") d (IsGrid collection instance form.0) of_grid form.1)
form_line d (Change (Station collection id label coverage)) form = inr (line_by (codes "station") d (IsStation collection id label form.0) of_station form.1)
form_line d (Change (DropCollection collection)) form = inr (line_by (codes "drop") d (IsDropCollection collection) of_drop form)
form_line d (Change (DropInstance collection instance)) form = inr (line_by (codes "drop") d (IsDropInstance collection instance) of_drop form)
form_line d (Change (DropStation collection id)) form = inr (line_by (codes "drop") d (IsDropStation collection id) of_drop form)
form_line d (Change (Bare coverage)) form = inl form.0
form_line d Publish form = inr (line_by (codes "publish") d (IsObjectOf []) of_publish form)

held_line : (d coverage : Data) → HoldsCoverage d coverage → IsBare d ⊎ IsLine d
held_line d coverage (inl grid) = inr (line_by (codes "grid") d (IsGrid grid.0 grid.1 coverage) of_grid grid.2)
held_line d coverage (inr (inl station)) = inr (line_by (codes "station") d (IsStation station.0 station.1 station.2 coverage) of_station station.3)
held_line d coverage (inr (inr bare)) = inl bare.0

outline_line : (d : Data) → HasOutline d → IsBare d ⊎ IsLine d
outline_line d (inl form) = form_line d form.0 form.1
outline_line d (inr held) = held_line d held.0 held.1

-- more or fewer members than one
pub no_line : (d : Data) → ¬ (IsBare d) → has_members 1 d ≡ false → ¬ (HasOutline d)
no_line d apart counts outline = elim (outline_line d outline) [ inl bare ↦ apart bare | inr line ↦ not_both d 1 line.counts counts ]

unknown : (d : Data) → get (codes "collection") d ≡ None → get (codes "grid") d ≡ None → get (codes "station") d ≡ None → get (codes "drop") d ≡ None
    → get (codes "publish") d ≡ None → ¬ (IsKnown d)
unknown d a b s c e (of_collection value found) = cc
unknown d a b s c e (of_grid value found) = cc
unknown d a b s c e (of_station value found) = cc
unknown d a b s c e (of_drop value found) = cc
unknown d a b s c e (of_publish value found) = cc

-- a member of another name
pub no_name : (d : Data) → ¬ (IsBare d) → get (codes "collection") d ≡ None → get (codes "grid") d ≡ None → get (codes "station") d ≡ None → get (codes "drop") d ≡ None
    → get (codes "publish") d ≡ None → ¬ (HasOutline d)
no_name d apart a b s c e outline = elim (outline_line d outline) [ inl bare ↦ apart bare | inr line ↦ unknown d a b s c e line.known ]

-- ---- coverages that stand for nothing

pub cov_fails : (d coverage : Data) (fault : CovFault) → HoldsCoverage d coverage → (fault ≢ OutOfMemory → (value : Coverage) → ¬ (Stands coverage value))
    → (fault ≢ OutOfMemory → CoverageRows null coverage (Err fault)) → IsNoEntry d (of_cov fault)
cov_fails d coverage NotJson holds nothing fails = record { coverage = coverage; holds = holds; fails = fails (λ e. cc); nothing = nothing (λ e. cc) }
cov_fails d coverage (Missing m) holds nothing fails = record { coverage = coverage; holds = holds; fails = fails (λ e. cc); nothing = nothing (λ e. cc) }
cov_fails d coverage (WrongType m) holds nothing fails = record { coverage = coverage; holds = holds; fails = fails (λ e. cc); nothing = nothing (λ e. cc) }
cov_fails d coverage (UnsupportedDomain t) holds nothing fails = record { coverage = coverage; holds = holds; fails = fails (λ e. cc); nothing = nothing (λ e. cc) }
cov_fails d coverage (UnsupportedSystem t) holds nothing fails = record { coverage = coverage; holds = holds; fails = fails (λ e. cc); nothing = nothing (λ e. cc) }
cov_fails d coverage (UnsupportedRange t) holds nothing fails = record { coverage = coverage; holds = holds; fails = fails (λ e. cc); nothing = nothing (λ e. cc) }
cov_fails d coverage (NotWhole m) holds nothing fails = record { coverage = coverage; holds = holds; fails = fails (λ e. cc); nothing = nothing (λ e. cc) }
cov_fails d coverage (OutOfRange m) holds nothing fails = record { coverage = coverage; holds = holds; fails = fails (λ e. cc); nothing = nothing (λ e. cc) }
cov_fails d coverage (OutOfRangeAt m place) holds nothing fails = record { coverage = coverage; holds = holds; fails = fails (λ e. cc); nothing = nothing (λ e. cc) }
cov_fails d coverage (BadTime place) holds nothing fails = record { coverage = coverage; holds = holds; fails = fails (λ e. cc); nothing = nothing (λ e. cc) }
cov_fails d coverage (NotMonotonic m) holds nothing fails = record { coverage = coverage; holds = holds; fails = fails (λ e. cc); nothing = nothing (λ e. cc) }
cov_fails d coverage (WrongCount m wanted found) holds nothing fails = record { coverage = coverage; holds = holds; fails = fails (λ e. cc); nothing = nothing (λ e. cc) }
cov_fails d coverage OutOfMemory holds nothing fails = tt
