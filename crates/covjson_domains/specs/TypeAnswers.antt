-- Domain types and their axes, as they are computed.
use Rattle.std.specs.Prelude.{ℕ, List, Bool, true, false, not, ◌&&◌, ⊤, Option, Some, None}
use Rattle.serde_json.specs.Data.{Members, no_members, member}
use Rattle.edr_base.specs.FirstThatApplies.{check}
use Rattle.covjson_value.specs.declared.axis_names.AxisName.{AxisName}
use Rattle.covjson_value.specs.AxisNames.{axis_by_name}
use Rattle.covjson_checks.specs.declared.faults.Member.{Member}
use Rattle.covjson_checks.specs.declared.faults.CovFault.TheVariants.{Missing}
use Rattle.covjson_checks.specs.Answers.{Answer}
use Rattle.covjson_value.specs.declared.domain_types.DomainType.{DomainType}
use Rattle.covjson_domains.specs.declared.domain_types.Presence.{Presence}
use Rattle.covjson_domains.specs.declared.domain_types.Presence.TheVariants.{Absent, Optional, Required, OptionalSingle, Single}
use Rattle.covjson_domains.specs.DomainTypes.{presence}

-- the axis may be there
abbrev pub is_allowed : Presence → Bool
is_allowed Absent = false
is_allowed Optional = true
is_allowed Required = true
is_allowed OptionalSingle = true
is_allowed Single = true

-- the axis has to be there
abbrev pub is_needed : Presence → Bool
is_needed Absent = false
is_needed Optional = false
is_needed Required = true
is_needed OptionalSingle = false
is_needed Single = true

-- the axis has a single value
abbrev pub is_single : Presence → Bool
is_single Absent = false
is_single Optional = false
is_single Required = false
is_single OptionalSingle = true
is_single Single = true

-- nothing, where the axis may be left out
abbrev pub left_out : Presence → Member → Answer ⊤
left_out wanted m = check (not (is_needed wanted)) (Missing m)

-- an axis that was found is one that the type may have
abbrev pub is_axis_of : DomainType → Option AxisName → Bool
is_axis_of kind None = false
is_axis_of kind (Some name) = is_allowed (presence kind name)

-- so is the axis of a name
abbrev pub may_have : DomainType → List ℕ → Bool
may_have kind name = is_axis_of kind (axis_by_name name)

-- each member has the name of an axis that the type may have
abbrev pub has_no_others : DomainType → Members → Bool
has_no_others kind no_members = true
has_no_others kind (member name d members) = may_have kind name && has_no_others kind members
