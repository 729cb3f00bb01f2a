-- The checks of a domain in their order (docs/PROFILE.md, "CoverageJSON as read"), and the answer that they lead to.
use Rattle.std.specs.Prelude.{◌≡◌, All, codes, ⊤, Option, Some, Result}
use Rattle.serde_json.specs.Data.{Data, string, object, Members}
use Rattle.serde_json.specs.Find.{get}
use Rattle.edr_base.specs.FirstThatApplies.{Check, Find, Then, Gives, With}
use Rattle.edr_json.specs.Trees.{names_of}
use Rattle.covjson_value.specs.declared.domains.CoordinateName.{CoordinateName}
use Rattle.covjson_value.specs.declared.domains.CoordinateName.TheVariants.{T, Z, Y, X}
use Rattle.covjson_value.specs.declared.axis_names.AxisName.TheVariants.{Composite}
use Rattle.covjson_value.specs.AxisNames.{axis_key, axis_name}
use Rattle.covjson_checks.specs.declared.turned.ReadDomain.{ReadDomain}
use Rattle.covjson_checks.specs.declared.faults.Member.TheVariants.{DomainType as TypeMember, Axes, Composite as CompositeAxis}
use Rattle.covjson_checks.specs.declared.faults.CovFault.{CovFault}
use Rattle.covjson_checks.specs.declared.faults.CovFault.TheVariants.{Missing, WrongType, UnsupportedDomain}
use Rattle.covjson_value.specs.declared.domain_types.DomainType.{DomainType}
use Rattle.covjson_value.specs.DomainTypes.{type_key}
use Rattle.covjson_domains.specs.DomainTypes.{presence, member_of, IsAxisOf}
use Rattle.covjson_domains.specs.Domains.{StandsForDomain}
use Rattle.covjson_domains.specs.RowWords.{IfFound}
use Rattle.covjson_domains.specs.AxisRows.{AxisRows}
use Rattle.covjson_domains.specs.TupleRows.{TupleRows}

-- an object of axes that a domain of the type may have, and no others
pub record HasOnlyAxes (kind : DomainType) (axes : Data) : Type 0 where
  pub members : Members
  pub object_is : axes ≡ object members
  pub no_others : All (IsAxisOf kind) (names_of members)

-- the axis of a name
abbrev pub NamedRows : DomainType → Data → CoordinateName → Result ⊤ CovFault → Type 0
NamedRows kind axes name =
    let wanted = presence kind (axis_name name) in
    IfFound wanted (member_of name) (get (axis_key (axis_name name)) axes) (AxisRows wanted name)

-- the composite axis
abbrev pub CompositeRows : DomainType → Data → Result ⊤ CovFault → Type 0
CompositeRows kind axes = IfFound (presence kind Composite) CompositeAxis (get (axis_key Composite) axes) (TupleRows kind (get (axis_key (axis_name Z)) axes))

-- the domain of a tree, whose type was found there or elsewhere
abbrev pub DomainRows : Option Data → Data → Result ReadDomain CovFault → Type 0
DomainRows found tree =
    Find (λ d. found ≡ Some d) (Missing TypeMember) (λ d. Find (λ name. d ≡ string name) (WrongType TypeMember) (λ name. Find (λ kind. name ≡ type_key kind) (UnsupportedDomain name) (λ kind.
    Find (λ axes. get (codes "axes") tree ≡ Some axes) (Missing Axes) (λ axes. Check (HasOnlyAxes kind axes) (WrongType Axes) (
    Then (NamedRows kind axes T) (λ _. Then (NamedRows kind axes Z) (λ _. Then (NamedRows kind axes Y) (λ _. Then (NamedRows kind axes X) (λ _. Then (CompositeRows kind axes) (λ _.
    With (λ read. StandsForDomain found tree read.turned read.domain) Gives))))))))))
