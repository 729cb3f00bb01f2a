-- What is written of a domain stands for it.
use Rattle.std.proofs.Common.{◌≡◌, All, codes, Bool, false, Option, Some, None, option_map, refl, sym, ◌∙◌, subst}
use Rattle.std.proofs.lemmas.List.Elements.{All-nil, All-cons}
use Rattle.serde_json.specs.Data.{Data, string, object, Members, no_members}
use Rattle.serde_json.specs.Find.{get, get_member}
use Rattle.edr_axes.specs.InstantGrammar.{WrittenTimesAreInstants}
use Rattle.edr_json.specs.Trees.{names_of}
use Rattle.covjson_value.specs.declared.axis_names.AxisName.{AxisName}
use Rattle.covjson_value.specs.declared.axis_names.AxisName.TheVariants as axis
use Rattle.covjson_value.specs.AxisNames.{axis_key, axis_name}
use Rattle.covjson_value.specs.declared.domains.CoordinateName.{CoordinateName}
use Rattle.covjson_value.specs.declared.domains.CoordinateName.TheVariants.{T, Z, Y, X}
use Rattle.covjson_value.specs.declared.domains.Domain.{Domain}
use Rattle.covjson_value.specs.declared.coverages.Referencing.{Referencing}
use Rattle.covjson_value.specs.Domains.{axis_of, tuples_of, coordinates_of}
use Rattle.covjson_value.specs.Coverages.{HasAxes, HasTuples}
use Rattle.covjson_value.specs.Trees.{member_if, axis_data, composite_data, domain_type, domain_data}
use Rattle.covjson_domains.specs.Axes.{HasSameAxis}
use Rattle.covjson_checks.specs.Turns.{is_turned, unturned}
use Rattle.covjson_domains.specs.Tuples.{HasSameTuples}
use Rattle.covjson_domains.specs.Domains.{IsAxisKey, StandsForDomain}
use Rattle.covjson_value.specs.MemberLaws.{member_passed, member_found}
use Rattle.covjson_domains.proofs.WrittenAxes.{same_axis_written}
use Rattle.covjson_domains.proofs.WrittenTuples.{same_tuples_written}

-- ---- the members for the axes

-- the members of written axes, each where it is given, from the last on
abbrev levels : Option Data → Members
levels z = member_if (codes "z") z no_members

-- the axis y before them
abbrev rows : Option Data → Option Data → Members
rows y z = member_if (codes "y") y (levels z)

-- the axis x before these
abbrev columns : Option Data → Option Data → Option Data → Members
columns x y z = member_if (codes "x") x (rows y z)

-- the axis t before these
abbrev times : Option Data → Option Data → Option Data → Option Data → Members
times t x y z = member_if (codes "t") t (columns x y z)

-- and the composite axis before all
abbrev members : Option Data → Option Data → Option Data → Option Data → Option Data → Members
members composite t x y z = member_if (codes "composite") composite (times t x y z)

-- each axis is found where it is given
composite_found : (composite t x y z : Option Data) → get_member (codes "composite") (members composite t x y z) ≡ composite
composite_found composite t x y z =
    member_found (codes "composite") composite (times t x y z) (λ d. refl)
    (member_passed (codes "composite") (codes "t") t (columns x y z) (λ d. refl)
    ∙ (member_passed (codes "composite") (codes "x") x (rows y z) (λ d. refl)
    ∙ (member_passed (codes "composite") (codes "y") y (levels z) (λ d. refl)
    ∙ member_passed (codes "composite") (codes "z") z no_members (λ d. refl))))

-- the axis t
t_found : (composite t x y z : Option Data) → get_member (codes "t") (members composite t x y z) ≡ t
t_found composite t x y z =
    member_passed (codes "t") (codes "composite") composite (times t x y z) (λ d. refl)
    ∙ member_found (codes "t") t (columns x y z) (λ d. refl)
    (member_passed (codes "t") (codes "x") x (rows y z) (λ d. refl)
    ∙ (member_passed (codes "t") (codes "y") y (levels z) (λ d. refl)
    ∙ member_passed (codes "t") (codes "z") z no_members (λ d. refl)))

-- the axis x
x_found : (composite t x y z : Option Data) → get_member (codes "x") (members composite t x y z) ≡ x
x_found composite t x y z =
    member_passed (codes "x") (codes "composite") composite (times t x y z) (λ d. refl)
    ∙ (member_passed (codes "x") (codes "t") t (columns x y z) (λ d. refl)
    ∙ member_found (codes "x") x (rows y z) (λ d. refl)
    (member_passed (codes "x") (codes "y") y (levels z) (λ d. refl)
    ∙ member_passed (codes "x") (codes "z") z no_members (λ d. refl)))

-- the axis y
y_found : (composite t x y z : Option Data) → get_member (codes "y") (members composite t x y z) ≡ y
y_found composite t x y z =
    member_passed (codes "y") (codes "composite") composite (times t x y z) (λ d. refl)
    ∙ (member_passed (codes "y") (codes "t") t (columns x y z) (λ d. refl)
    ∙ (member_passed (codes "y") (codes "x") x (rows y z) (λ d. refl)
    ∙ member_found (codes "y") y (levels z) (λ d. refl)
    (member_passed (codes "y") (codes "z") z no_members (λ d. refl))))

-- the axis z
z_found : (composite t x y z : Option Data) → get_member (codes "z") (members composite t x y z) ≡ z
z_found composite t x y z =
    member_passed (codes "z") (codes "composite") composite (times t x y z) (λ d. refl)
    ∙ (member_passed (codes "z") (codes "t") t (columns x y z) (λ d. refl)
    ∙ (member_passed (codes "z") (codes "x") x (rows y z) (λ d. refl)
    ∙ (member_passed (codes "z") (codes "y") y (levels z) (λ d. refl)
    ∙ member_found (codes "z") z no_members (λ d. refl) refl)))

-- a member with the name of an axis before others
key_if : (name : AxisName) (given : Option Data) (rest : Members) → All IsAxisKey (names_of rest) → All IsAxisKey (names_of (member_if (axis_key name) given rest))
key_if name None rest all = all
key_if name (Some d) rest all = All-cons IsAxisKey (axis_key name) (names_of rest) (name, refl) all

-- all written members have names of axes
keys_are_axes : (composite t x y z : Option Data) → All IsAxisKey (names_of (members composite t x y z))
keys_are_axes composite t x y z =
    key_if axis.Composite composite (times t x y z)
    (key_if axis.T t (columns x y z)
    (key_if axis.X x (rows y z)
    (key_if axis.Y y (levels z)
    (key_if axis.Z z no_members (All-nil IsAxisKey)))))

-- ---- the axes of a domain

-- the datum of an axis of a domain
abbrev axis_given : Domain → CoordinateName → Option Data
axis_given domain name = option_map (axis_data name) (axis_of domain name)

-- the datum of its tuples
abbrev tuples_given : Domain → Option Data
tuples_given domain = option_map (composite_data (coordinates_of domain)) (tuples_of domain)

-- all members of its axes
abbrev members_of : Domain → Members
members_of domain = members (tuples_given domain) (axis_given domain T) (axis_given domain X) (axis_given domain Y) (axis_given domain Z)

-- the axis of each name is found as it is written
axis_found : (domain : Domain) (name : CoordinateName) → get_member (axis_key (axis_name name)) (members_of domain) ≡ axis_given domain name
axis_found domain T = t_found (tuples_given domain) (axis_given domain T) (axis_given domain X) (axis_given domain Y) (axis_given domain Z)
axis_found domain Z = z_found (tuples_given domain) (axis_given domain T) (axis_given domain X) (axis_given domain Y) (axis_given domain Z)
axis_found domain Y = y_found (tuples_given domain) (axis_given domain T) (axis_given domain X) (axis_given domain Y) (axis_given domain Z)
axis_found domain X = x_found (tuples_given domain) (axis_given domain T) (axis_given domain X) (axis_given domain Y) (axis_given domain Z)

-- no written axis is turned
never_turned : (name : CoordinateName) → is_turned unturned name ≡ false
never_turned T = refl
never_turned Z = refl
never_turned Y = refl
never_turned X = refl

-- each axis of the domain is in the tree
axes_written : WrittenTimesAreInstants → (domain : Domain) → HasAxes domain → (name : CoordinateName) → HasSameAxis name (get (axis_key (axis_name name)) (object (members_of domain))) (is_turned unturned name) (axis_of domain name)
axes_written instants domain h name =
    let same = same_axis_written instants name (axis_of domain name) (h name) in
    let P : Option Data → Type 0 = λ found. HasSameAxis name found false (axis_of domain name) in
    let Q : Bool → Type 0 = λ turned. HasSameAxis name (get (axis_key (axis_name name)) (object (members_of domain))) turned (axis_of domain name) in
    subst Q (sym (never_turned name)) (subst P (sym (axis_found domain name)) same)

-- a domain is written by its type, with its axes and no others
pub domain_written : WrittenTimesAreInstants → (domain : Domain) (referencing : Referencing) → HasAxes domain → HasTuples domain
    → StandsForDomain (Some (string (domain_type domain))) (domain_data domain referencing) unturned domain
domain_written instants domain referencing axes tuples =
    let P : Option Data → Type 0 = λ found. HasSameTuples (coordinates_of domain) found (tuples_of domain) in
    let found = composite_found (tuples_given domain) (axis_given domain T) (axis_given domain X) (axis_given domain Y) (axis_given domain Z) in
    record {
      kind_is = refl;
      members = members_of domain;
      axes = refl;
      no_others = keys_are_axes (tuples_given domain) (axis_given domain T) (axis_given domain X) (axis_given domain Y) (axis_given domain Z);
      same_axes = axes_written instants domain axes;
      same_tuples = subst P (sym found) (same_tuples_written instants (coordinates_of domain) (tuples_of domain) tuples.tuples);
      once = tuples.once;
    }
