-- The tree of a valid domain tells the domain and its referencing.
use Rattle.std.proofs.Common.{◌≡◌, ℕ, ◌-◌, ℤ, pos, Bool, true, false, true≢false, bytes_eq, if◌then◌else◌, codes, List, [], ◌∷◌, length, All, Option, Some, None, IsSome, option_map, refl, ap, ap₂, sym}
use Rattle.std.specs.Prelude.{⊤, IsTrue}
use Rattle.std.proofs.lemmas.Slice.Eq.{bytes_eq-Decides}
use Rattle.serde_json.specs.Data.{Data, string, Items, no_items, Members, member, no_members}
use Rattle.edr_axes.specs.Axes.{value_at}
use Rattle.edr_axes.specs.Instants.{TextsTellTimes}
use Rattle.covjson_value.specs.declared.domains.CoordinateName.{CoordinateName}
use Rattle.covjson_value.specs.declared.domains.CoordinateName.TheVariants.{T, Z, Y, X}
use Rattle.covjson_value.specs.declared.domains.Domain.{Domain}
use Rattle.covjson_value.specs.declared.domains.Domain.TheVariants.{Grid, Point, PointSeries, VerticalProfile, MultiPoint, Trajectory}
use Rattle.covjson_value.specs.declared.coverages.Referencing.{Referencing}
use Rattle.covjson_value.specs.Domains.{single, axis_of, tuples_of, coordinates_of, level_if, has_coordinate}
use Rattle.covjson_value.specs.Coverages.{IsAxisValue, IsNamedAxis, HasAxes, HasTuples}
use Rattle.covjson_value.specs.Trees
use Rattle.covjson_value.specs.RegularLaws.{regular_is_one, IsSpanned, spanned_tells}
use Rattle.covjson_value.proofs.Telling.{Tells, any_given, integer_tells, option_tells, array_of_tells, IsApart, none_apart, member_apart, member_if_apart, member_if_tells}
use Rattle.covjson_value.proofs.TellingTuples.{axis_value_tells, SameTuples, composite_tells}

-- ---- axes

list_tells : TextsTellTimes → (name : CoordinateName) → Tells (All (IsAxisValue name)) (Trees.list_data name)
list_tells told name one other h k e = array_of_tells (IsAxisValue name) (Trees.axis_value_data name) (axis_value_tells told name) one other h k (cc)

span_tells : Tells (λ values. Trees.is_regular values ≡ true) Trees.span_data
span_tells one other h k e =
    let counts : pos (length one) ≡ pos (length other) = integer_tells (pos (length one)) (pos (length other)) (cc) in
    let firsts : value_at one 0 ≡ value_at other 0 = integer_tells (value_at one 0) (value_at other 0) (cc) in
    let lasts : value_at one (length one - 1) ≡ value_at other (length other - 1) = integer_tells (value_at one (length one - 1)) (value_at other (length other - 1)) (cc) in
    regular_is_one one other h k (cc) firsts lasts

-- the first members have unlike names
unlike : (name : CoordinateName) (one other : List ℤ) → Trees.span_data one ≡ Trees.list_data name other → ⊥
unlike name one other e =
    let names : codes "num" ≡ codes "values" = cc in
    true≢false (ap (bytes_eq (codes "num")) names)

abbrev chosen : CoordinateName → Bool → List ℤ → Data
chosen name short values = if short then Trees.span_data values else Trees.list_data name values

chosen_tells : TextsTellTimes → (name : CoordinateName) (short shorter : Bool) (one other : List ℤ) → (short ≡ true → IsSpanned name one) → (shorter ≡ true → IsSpanned name other)
    → All (IsAxisValue name) one → All (IsAxisValue name) other → chosen name short one ≡ chosen name shorter other → one ≡ other
chosen_tells told name true true one other h k within within₂ e = span_tells one other (h refl).regular (k refl).regular e
chosen_tells told name true false one other h k within within₂ e = absurd (unlike name one other e)
chosen_tells told name false true one other h k within within₂ e = absurd (unlike name other one (sym e))
chosen_tells told name false false one other h k within within₂ e = list_tells told name one other within within₂ e

axis_tells : TextsTellTimes → (name : CoordinateName) → Tells (IsNamedAxis name) (Trees.axis_data name)
axis_tells told name one other h k e =
    chosen_tells told name (Trees.is_spanned name one) (Trees.is_spanned name other) one other (spanned_tells name one) (spanned_tells name other) h.within k.within e

-- the members that follow an axis
abbrev after_y : Domain → Members
after_y domain = Trees.axis_member domain Z no_members

abbrev after_x : Domain → Members
after_x domain = Trees.axis_member domain Y (after_y domain)

abbrev after_t : Domain → Members
after_t domain = Trees.axis_member domain X (after_x domain)

after_y_apart : (domain : Domain) → IsApart (codes "y") (after_y domain)
after_y_apart domain = member_if_apart (codes "y") (codes "z") _ _ refl (none_apart (codes "y"))

after_x_apart : (domain : Domain) → IsApart (codes "x") (after_x domain)
after_x_apart domain = member_if_apart (codes "x") (codes "y") _ _ refl (member_if_apart (codes "x") (codes "z") _ _ refl (none_apart (codes "x")))

after_t_apart : (domain : Domain) → IsApart (codes "t") (after_t domain)
after_t_apart domain =
    member_if_apart (codes "t") (codes "x") _ _ refl (member_if_apart (codes "t") (codes "y") _ _ refl (member_if_apart (codes "t") (codes "z") _ _ refl (none_apart (codes "t"))))

abbrev after_composite : Domain → Members
after_composite domain = Trees.axis_member domain T (after_t domain)

after_composite_apart : (domain : Domain) → IsApart (codes "composite") (after_composite domain)
after_composite_apart domain =
    member_if_apart (codes "composite") (codes "t") _ _ refl
    (member_if_apart (codes "composite") (codes "x") _ _ refl
    (member_if_apart (codes "composite") (codes "y") _ _ refl
    (member_if_apart (codes "composite") (codes "z") _ _ refl (none_apart (codes "composite")))))

abbrev composite_given : Domain → Option Data
composite_given domain = option_map (Trees.composite_data (coordinates_of domain)) (tuples_of domain)

abbrev given : Domain → CoordinateName → Option Data
given domain name = option_map (Trees.axis_data name) (axis_of domain name)

abbrev HaveSame : Domain → Domain → CoordinateName → Type 0
HaveSame one other name = given one name ≡ given other name

-- the data of each axis are the same in both domains
record SameMembers (one other : Domain) : Type 0 where
  composite : composite_given one ≡ composite_given other
  each : (name : CoordinateName) → HaveSame one other name

members_tell : (one other : Domain) → Trees.axes_data one ≡ Trees.axes_data other → SameMembers one other
members_tell one other e =
    let composite = member_if_tells (codes "composite") (composite_given one) (composite_given other) (after_composite one) (after_composite other) (after_composite_apart one) (after_composite_apart other) (cc) in
    let t = member_if_tells (codes "t") (given one T) (given other T) (after_t one) (after_t other) (after_t_apart one) (after_t_apart other) composite.1 in
    let x = member_if_tells (codes "x") (given one X) (given other X) (after_x one) (after_x other) (after_x_apart one) (after_x_apart other) t.1 in
    let y = member_if_tells (codes "y") (given one Y) (given other Y) (after_y one) (after_y other) (after_y_apart one) (after_y_apart other) x.1 in
    let z = member_if_tells (codes "z") (given one Z) (given other Z) no_members no_members (none_apart (codes "z")) (none_apart (codes "z")) y.1 in
    record { composite = composite.0; each = λ name. elim name as (λ n. HaveSame one other n) [ T ↦ t.0 | Z ↦ z.0 | Y ↦ y.0 | X ↦ x.0 ] }

-- ---- domains

single_tells : Tells (λ _. ⊤) single
single_tells one other h k e = cc

one_value_tells : (one other : Option ℤ) → option_map single one ≡ option_map single other → one ≡ other
one_value_tells one other e = option_tells (λ _. ⊤) single single_tells one other (any_given one) (any_given other) e

level_tells : (one other : Bool) → level_if one ≡ level_if other → one ≡ other
level_tells true true e = refl
level_tells true false e = cc
level_tells false true e = cc
level_tells false false e = refl

-- domains of one type with the same axes and tuples are equal
axes_tell : (one other : Domain) → bytes_eq (Trees.domain_type one) (Trees.domain_type other) ≡ true → ((name : CoordinateName) → axis_of one name ≡ axis_of other name)
    → SameTuples (coordinates_of one) (coordinates_of other) (tuples_of one) (tuples_of other) → one ≡ other
axes_tell (Grid t z y x) (Grid t₂ z₂ y₂ x₂) e same tuples =
    let times : t ≡ t₂ = same T in
    let levels : z ≡ z₂ = same Z in
    let rows : y ≡ y₂ = cc (same Y) in
    let columns : x ≡ x₂ = cc (same X) in
    cc
axes_tell (Point t z y x) (Point t₂ z₂ y₂ x₂) e same tuples =
    let time : t ≡ t₂ = one_value_tells t t₂ (same T) in
    let level : z ≡ z₂ = one_value_tells z z₂ (same Z) in
    let row : y ≡ y₂ = cc (same Y) in
    let column : x ≡ x₂ = cc (same X) in
    cc
axes_tell (PointSeries t z y x) (PointSeries t₂ z₂ y₂ x₂) e same tuples =
    let times : t ≡ t₂ = cc (same T) in
    let level : z ≡ z₂ = one_value_tells z z₂ (same Z) in
    let row : y ≡ y₂ = cc (same Y) in
    let column : x ≡ x₂ = cc (same X) in
    cc
axes_tell (VerticalProfile t z y x) (VerticalProfile t₂ z₂ y₂ x₂) e same tuples =
    let time : t ≡ t₂ = one_value_tells t t₂ (same T) in
    let levels : z ≡ z₂ = cc (same Z) in
    let row : y ≡ y₂ = cc (same Y) in
    let column : x ≡ x₂ = cc (same X) in
    cc
axes_tell (MultiPoint t has_z spots) (MultiPoint t₂ has_z₂ spots₂) e same tuples =
    let time : t ≡ t₂ = one_value_tells t t₂ (same T) in
    let named : has_z ≡ has_z₂ = level_tells has_z has_z₂ (cc (tuples.same_names refl)) in
    let places : spots ≡ spots₂ = cc tuples.same_tuples in
    cc
axes_tell (Trajectory z has_z steps) (Trajectory z₂ has_z₂ steps₂) e same tuples =
    let level : z ≡ z₂ = one_value_tells z z₂ (same Z) in
    let named : has_z ≡ has_z₂ = level_tells has_z has_z₂ (cc (tuples.same_names refl)) in
    let places : steps ≡ steps₂ = cc tuples.same_tuples in
    cc
axes_tell one other e same tuples = absurd (true≢false (sym e))

pub domain_tells : TextsTellTimes → (one other : Domain) (referencing referencing₂ : Referencing) → HasAxes one → HasAxes other → HasTuples one → HasTuples other
    → Trees.domain_data one referencing ≡ Trees.domain_data other referencing₂ → one ≡ other
domain_tells told one other referencing referencing₂ h k tuples tuples₂ e =
    let axes : Trees.axes_data one ≡ Trees.axes_data other = cc in
    let types : Trees.domain_type one ≡ Trees.domain_type other = cc in
    let members = members_tell one other axes in
    axes_tell one other ((bytes_eq-Decides (Trees.domain_type one) (Trees.domain_type other)).1 types)
    (λ name. option_tells (IsNamedAxis name) (Trees.axis_data name) (axis_tells told name) (axis_of one name) (axis_of other name) (h name) (k name) (members.each name))
    (composite_tells told (coordinates_of one) (coordinates_of other) (tuples_of one) (tuples_of other) tuples.tuples tuples₂.tuples members.composite)

-- ---- referencing

string_tells : Tells (λ _. ⊤) string
string_tells one other h k e = cc

pub texts_tell : (one other : Option (List ℕ)) → option_map string one ≡ option_map string other → one ≡ other
texts_tell one other e = option_tells (λ _. ⊤) string string_tells one other (any_given one) (any_given other) e

system_tells : (kind : List ℕ) (one other : Option (List ℕ)) → Trees.system_data one kind ≡ Trees.system_data other kind → one ≡ other
system_tells kind one other e =
    let rest : Members = member (codes "type") (string kind) no_members in
    let apart : IsApart (codes "id") rest = member_apart (codes "id") (codes "type") _ _ refl in
    texts_tell one other (member_if_tells (codes "id") (option_map string one) (option_map string other) rest rest apart apart (cc)).0

crs_tells : (one other : List ℕ) → Trees.text_if_some one ≡ Trees.text_if_some other → one ≡ other
crs_tells [] [] e = refl
crs_tells [] (byte ∷ bytes) e = cc
crs_tells (byte ∷ bytes) [] e = cc
crs_tells (byte ∷ bytes) (byte₂ ∷ bytes₂) e = cc

vertical_tells : (has : Bool) (one other : Option (List ℕ)) (rest : Items) → (IsSome one → IsTrue has) → (IsSome other → IsTrue has)
    → Trees.item_if has (Trees.vertical_data one) rest ≡ Trees.item_if has (Trees.vertical_data other) rest → one ≡ other
vertical_tells true one other rest h k e = system_tells (codes "VerticalCRS") one other (cc)
vertical_tells false None None rest h k e = refl
vertical_tells false None (Some other) rest h k e = absurd (true≢false (sym (k refl)))
vertical_tells false (Some one) other rest h k e = absurd (true≢false (sym (h refl)))

same_referencing : (one other : Referencing) → one.crs ≡ other.crs → one.vertical ≡ other.vertical → one ≡ other
same_referencing one other crs vertical =
    let make : List ℕ → Option (List ℕ) → Referencing = λ crs vertical. record { crs = crs; vertical = vertical } in
    ap₂ make crs vertical

pub referencing_tells : (domain : Domain) (one other : Referencing) → (IsSome one.vertical → IsTrue (has_coordinate domain Z)) → (IsSome other.vertical → IsTrue (has_coordinate domain Z))
    → Trees.referencing_data domain one ≡ Trees.referencing_data domain other → one ≡ other
referencing_tells domain one other h k e =
    let horizontal : Trees.horizontal_data one.crs ≡ Trees.horizontal_data other.crs = cc in
    let crs = crs_tells one.crs other.crs (system_tells (codes "ProjectedCRS") (Trees.text_if_some one.crs) (Trees.text_if_some other.crs) (cc)) in
    let rest : Items = Trees.item_if (has_coordinate domain T) Trees.temporal_data no_items in
    let vertical = vertical_tells (has_coordinate domain Z) one.vertical other.vertical rest h k (cc) in
    same_referencing one other crs vertical
