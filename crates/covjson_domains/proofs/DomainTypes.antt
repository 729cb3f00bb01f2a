-- The type of a domain, and how it has its axes.
use Rattle.std.proofs.Common.{◌≡◌, ℕ, true, false, true≢false, Decides, List, length, Option, Some, None, option_map, IsSome, IfSome, Ok, ℤ, refl, ap, ◌∙◌}
use Rattle.std.proofs.lemmas.Bool.{false≢true}
use Rattle.serde_json.specs.Data.{Data, string}
use Rattle.edr_base.specs.FirstThatApplies.{or_fault}
use Rattle.edr_json.specs.AnswerLaws.{and_then_ok, or_fault_ok}
use Rattle.covjson_value.specs.declared.domains.CoordinateName.{CoordinateName}
use Rattle.covjson_value.specs.declared.domains.CoordinateName.TheVariants.{T, Z, Y, X}
use Rattle.covjson_value.specs.declared.domains.Domain.{Domain}
use Rattle.covjson_value.specs.declared.domains.Domain.TheVariants as domain
use Rattle.covjson_value.specs.Domains.{axis_of, single}
use Rattle.covjson_value.specs.Trees.{domain_type}
use Rattle.covjson_checks.specs.declared.faults.Member.TheVariants.{DomainType as TypeMember}
use Rattle.covjson_checks.specs.declared.faults.CovFault.TheVariants.{Missing, UnsupportedDomain}
use Rattle.covjson_checks.specs.Members.{text_at}
use Rattle.covjson_checks.specs.CheckLaws.{text_ok, named_one}
use Rattle.covjson_value.specs.declared.domain_types.DomainType.{DomainType}
use Rattle.covjson_value.specs.declared.domain_types.DomainType.TheVariants.{Grid, Point, PointSeries, VerticalProfile, MultiPoint, Trajectory}
use Rattle.covjson_domains.specs.declared.domain_types.Presence.{Presence}
use Rattle.covjson_domains.specs.declared.domain_types.Presence.TheVariants.{Absent, Optional, Required, OptionalSingle, Single}
use Rattle.covjson_domains.specs.DomainTypes.{presence, IsAllowed, IsNeeded, IsSingle}
use Rattle.covjson_value.specs.AxisNames.{axis_name}
use Rattle.covjson_value.specs.DomainTypes.{type_key, type_by_name, kind_of}
use Rattle.covjson_domains.specs.TypeAnswers.{is_allowed, is_needed, is_single}
use Rattle.covjson_domains.specs.DomainAnswers.{type_at}

-- ---- types

-- a type is named by its text alone
pub type_is_named : (name : List ℕ) (kind : DomainType) → type_by_name name ≡ Some kind → name ≡ type_key kind
type_is_named name kind h =
    named_one type_key name Grid kind _ (named_one type_key name Point kind _ (named_one type_key name PointSeries kind _ (named_one type_key name VerticalProfile kind _
    (named_one type_key name MultiPoint kind _ (named_one type_key name Trajectory kind None (λ none. cc)))))) h

-- and the text names it
pub type_of_key : (kind : DomainType) → type_by_name (type_key kind) ≡ Some kind
type_of_key Grid = refl
type_of_key Point = refl
type_of_key PointSeries = refl
type_of_key VerticalProfile = refl
type_of_key MultiPoint = refl
type_of_key Trajectory = refl

-- the type that was read is that of the tree
pub type_stands : (found : Option Data) (kind : DomainType) → type_at found ≡ Ok kind → found ≡ Some (string (type_key kind))
type_stands found kind h =
    let d = and_then_ok (or_fault found (Missing TypeMember)) _ kind h in
    let name = and_then_ok (text_at TypeMember d.0) _ kind d.2 in
    or_fault_ok found _ d.0 d.1 ∙ ap Some (text_ok _ d.0 name.0 name.1
    ∙ ap string (type_is_named name.0 kind (or_fault_ok (type_by_name name.0) (UnsupportedDomain name.0) kind name.2)))

-- a domain's type is read of its text
pub type_of_domain : (d : Domain) → type_at (Some (string (domain_type d))) ≡ Ok (kind_of d)
type_of_domain (domain.Grid t z y x) = refl
type_of_domain (domain.Point t z y x) = refl
type_of_domain (domain.PointSeries t z y x) = refl
type_of_domain (domain.VerticalProfile t z y x) = refl
type_of_domain (domain.MultiPoint t has_z spots) = refl
type_of_domain (domain.Trajectory z has_z steps) = refl

-- ---- the tests of the table

-- whether an axis may be there
pub allowed_decides : (wanted : Presence) → Decides (is_allowed wanted) (IsAllowed wanted)
allowed_decides Absent = (λ e. absurd (false≢true e), λ h. absurd h)
allowed_decides Optional = (λ e. tt, λ h. refl)
allowed_decides Required = (λ e. tt, λ h. refl)
allowed_decides OptionalSingle = (λ e. tt, λ h. refl)
allowed_decides Single = (λ e. tt, λ h. refl)

-- whether it has to be there
pub needed_decides : (wanted : Presence) → Decides (is_needed wanted) (IsNeeded wanted)
needed_decides Absent = (λ e. absurd (false≢true e), λ h. absurd h)
needed_decides Optional = (λ e. absurd (false≢true e), λ h. absurd h)
needed_decides Required = (λ e. tt, λ h. refl)
needed_decides OptionalSingle = (λ e. absurd (false≢true e), λ h. absurd h)
needed_decides Single = (λ e. tt, λ h. refl)

-- whether it has a single value
pub single_decides : (wanted : Presence) → Decides (is_single wanted) (IsSingle wanted)
single_decides Absent = (λ e. absurd (false≢true e), λ h. absurd h)
single_decides Optional = (λ e. absurd (false≢true e), λ h. absurd h)
single_decides Required = (λ e. absurd (false≢true e), λ h. absurd h)
single_decides OptionalSingle = (λ e. tt, λ h. refl)
single_decides Single = (λ e. tt, λ h. refl)

-- ---- axes that are as the table has them

-- an axis is as it is wanted
pub record Fits (wanted : Presence) (values : Option (List ℤ)) : Type 0 where
  pub needed : is_needed wanted ≡ true → IsSome values
  pub single : is_single wanted ≡ true → IfSome values (λ vs. length vs ≡ 1)
  pub absent : is_allowed wanted ≡ false → values ≡ None

-- no axis
fits_absent : Fits Absent None
fits_absent = record { needed = λ e. absurd (false≢true e); single = λ e. absurd (false≢true e); absent = λ e. refl }

-- an axis that may be left out
fits_optional : (values : Option (List ℤ)) → Fits Optional values
fits_optional values = record { needed = λ e. absurd (false≢true e); single = λ e. absurd (false≢true e); absent = λ e. absurd (true≢false e) }

-- an axis
fits_required : (values : List ℤ) → Fits Required (Some values)
fits_required values = record { needed = λ e. refl; single = λ e. absurd (false≢true e); absent = λ e. absurd (true≢false e) }

-- one value is one
one_if : (value : Option ℤ) → IfSome (option_map single value) (λ vs. length vs ≡ 1)
one_if None = tt
one_if (Some v) = refl

-- an axis of one value that may be left out
fits_optional_single : (value : Option ℤ) → Fits OptionalSingle (option_map single value)
fits_optional_single value = record { needed = λ e. absurd (false≢true e); single = λ e. one_if value; absent = λ e. absurd (true≢false e) }

-- an axis of one value
fits_single : (value : ℤ) → Fits Single (Some (single value))
fits_single value = record { needed = λ e. refl; single = λ e. refl; absent = λ e. absurd (true≢false e) }

-- the axes of each domain are as the table has them
pub domain_fits : (d : Domain) (name : CoordinateName) → Fits (presence (kind_of d) (axis_name name)) (axis_of d name)
domain_fits (domain.Grid t z y x) T = fits_optional t
domain_fits (domain.Grid t z y x) Z = fits_optional z
domain_fits (domain.Grid t z y x) Y = fits_required y
domain_fits (domain.Grid t z y x) X = fits_required x
domain_fits (domain.Point t z y x) T = fits_optional_single t
domain_fits (domain.Point t z y x) Z = fits_optional_single z
domain_fits (domain.Point t z y x) Y = fits_single y
domain_fits (domain.Point t z y x) X = fits_single x
domain_fits (domain.PointSeries t z y x) T = fits_required t
domain_fits (domain.PointSeries t z y x) Z = fits_optional_single z
domain_fits (domain.PointSeries t z y x) Y = fits_single y
domain_fits (domain.PointSeries t z y x) X = fits_single x
domain_fits (domain.VerticalProfile t z y x) T = fits_optional_single t
domain_fits (domain.VerticalProfile t z y x) Z = fits_required z
domain_fits (domain.VerticalProfile t z y x) Y = fits_single y
domain_fits (domain.VerticalProfile t z y x) X = fits_single x
domain_fits (domain.MultiPoint t has_z spots) T = fits_optional_single t
domain_fits (domain.MultiPoint t has_z spots) Z = fits_absent
domain_fits (domain.MultiPoint t has_z spots) Y = fits_absent
domain_fits (domain.MultiPoint t has_z spots) X = fits_absent
domain_fits (domain.Trajectory z has_z steps) T = fits_absent
domain_fits (domain.Trajectory z has_z steps) Z = fits_optional_single z
domain_fits (domain.Trajectory z has_z steps) Y = fits_absent
domain_fits (domain.Trajectory z has_z steps) X = fits_absent
