-- The axes of a range: what was checked of them, and what stands.
use Rattle.std.proofs.Common.{◌≡◌, inl, inr, suc, ◌<◌, ◌≤◌, true, not, nat_le, List, [], ◌∷◌, length, All, option_and_then, Some, Ok, refl, ap, arith}
use Rattle.std.proofs.lemmas.Bool.{and_parts, and_from, or_right, or_left, not-true, not_from_false, leb-true, le-leb, cases_lt, or_cases}
use Rattle.std.proofs.lemmas.List.Elements.{All-cons, All-nil, All-head, All-tail}
use Rattle.serde_json.specs.Data.{Data, null, boolean, number, string, array, object, Items, no_items, item}
use Rattle.serde_json.specs.Find.{as_str}
use Rattle.covjson_value.specs.declared.domains.Domain.{Domain}
use Rattle.covjson_value.specs.declared.axis_names.AxisName.{AxisName}
use Rattle.covjson_value.specs.declared.axis_names.AxisName.TheVariants.{T, Z, Y, X, Composite}
use Rattle.edr_json.specs.Trees.{EachStands, count_items}
use Rattle.covjson_value.specs.AxisNames.{axis_by_name}
use Rattle.covjson_checks.specs.AxisNameLaws.{key_is}
use Rattle.covjson_ranges.specs.Ranges.{StandsForName, length_of, has_range_axis, is_named, AreDistinct, AreRangeAxes, IsOnePlace}
use Rattle.covjson_ranges.specs.RangeAnswers.{axis_named, are_distinct, are_owned, is_kept, are_range_axes, is_one_place}
use Rattle.edr_json.specs.AnswerLaws.{or_fault_ok}
use Rattle.covjson_ranges.proofs.PlaceNumbers.{each_axis}

-- as many items as values
pub stands_count : {V : Type 0} (R : Data → V → Type 0) (ds : Items) (vs : List V) → EachStands R ds vs → count_items ds ≡ length vs
stands_count R no_items [] h = refl
stands_count R no_items (v ∷ vs) h = absurd h
stands_count R (item d ds) [] h = absurd h
stands_count R (item d ds) (v ∷ vs) h = ap suc (stands_count R ds vs h.1)

-- ---- the names of axes

-- a datum that is found to be a name is the text of that name
name_is : (d : Data) (name : AxisName) → option_and_then axis_by_name (as_str d) ≡ Some name → StandsForName d name
name_is null name h = cc
name_is (boolean b) name h = cc
name_is (number n) name h = cc
name_is (string s) name h = ap string (key_is s name h)
name_is (array ds) name h = cc
name_is (object ms) name h = cc

-- a name that was read stands there
pub name_stands : (d : Data) (name : AxisName) → axis_named d ≡ Ok name → StandsForName d name
name_stands d name h = name_is d name (or_fault_ok (option_and_then axis_by_name (as_str d)) _ name h)

-- and a name that stands there is read
pub name_answers : (d : Data) (name : AxisName) → StandsForName d name → axis_named d ≡ Ok name
name_answers d T h = rw h refl
name_answers d Z h = rw h refl
name_answers d Y h = rw h refl
name_answers d X h = rw h refl
name_answers d Composite h = rw h refl

-- ---- the axes

-- names that pass the test are distinct
distinct_stand : (names : List AxisName) → are_distinct names ≡ true → AreDistinct names
distinct_stand [] h = tt
distinct_stand (name ∷ names) h =
    let both = and_parts (not (is_named name names)) (are_distinct names) h in
    (not-true (is_named name names) both.0, distinct_stand names both.1)

-- and distinct names pass it
distinct_answer : (names : List AxisName) → AreDistinct names → are_distinct names ≡ true
distinct_answer [] h = refl
distinct_answer (name ∷ names) h =
    and_from (not (is_named name names)) (are_distinct names) (not_from_false (is_named name names) h.0) (distinct_answer names h.1)

-- an axis of the domain
abbrev pub IsOwned : Domain → AxisName → Type 0
IsOwned domain name = has_range_axis domain name ≡ true

-- names that pass the test are those of axes of the domain
owned_stand : (domain : Domain) (names : List AxisName) → are_owned domain names ≡ true → All (IsOwned domain) names
owned_stand domain [] h = All-nil (IsOwned domain)
owned_stand domain (name ∷ names) h =
    let both = and_parts (has_range_axis domain name) (are_owned domain names) h in
    All-cons (IsOwned domain) name names both.0 (owned_stand domain names both.1)

-- and such names pass it
owned_answer : (domain : Domain) (names : List AxisName) → All (IsOwned domain) names → are_owned domain names ≡ true
owned_answer domain [] h = refl
owned_answer domain (name ∷ names) h =
    and_from (has_range_axis domain name) (are_owned domain names) (All-head (IsOwned domain) name names h)
    (owned_answer domain names (All-tail (IsOwned domain) name names h))

-- an axis that passes the test is named where it has several values
kept_long : (domain : Domain) (names : List AxisName) (name : AxisName) → is_kept domain names name ≡ true → 1 < length_of domain name → is_named name names ≡ true
kept_long domain names name h long =
    elim (or_cases (nat_le (length_of domain name) 1) (is_named name names) h) [
      | inl short ↦ absurd (omega (arith, leb-true (length_of domain name) 1 short))
      | inr named ↦ named
    ]

-- and an axis of which that holds passes it
long_kept : (domain : Domain) (names : List AxisName) (name : AxisName) → (1 < length_of domain name → is_named name names ≡ true) → is_kept domain names name ≡ true
long_kept domain names name long =
    elim (cases_lt 1 (length_of domain name)) [
      | inl several ↦ or_right (nat_le (length_of domain name) 1) (is_named name names) (long several)
      | inr short ↦ or_left (nat_le (length_of domain name) 1) (is_named name names) (le-leb (length_of domain name) 1 short)
    ]

-- names that pass the test are the axes of a range
pub axes_stand : (domain : Domain) (names : List AxisName) → are_range_axes domain names ≡ true → AreRangeAxes domain names
axes_stand domain names h =
    let kept = is_kept domain names in
    let tuple = and_parts _ (kept Composite) h in
    let x = and_parts _ (kept X) tuple.0 in
    let y = and_parts _ (kept Y) x.0 in
    let z = and_parts _ (kept Z) y.0 in
    let t = and_parts _ (kept T) z.0 in
    let before = and_parts (are_distinct names) (are_owned domain names) t.0 in
    let long = kept_long domain names in
    record {
      distinct = distinct_stand names before.0;
      owned = owned_stand domain names before.1;
      all_long = each_axis (λ name. 1 < length_of domain name → is_named name names ≡ true) (long T t.1) (long Z z.1) (long Y y.1) (long X x.1) (long Composite tuple.1);
    }

-- and the axes of a range pass it
pub axes_answer : (domain : Domain) (names : List AxisName) → AreRangeAxes domain names → are_range_axes domain names ≡ true
axes_answer domain names h =
    let kept : (name : AxisName) → is_kept domain names name ≡ true = λ name. long_kept domain names name (h.all_long name) in
    rw (distinct_answer names h.distinct, owned_answer domain names h.owned, kept T, kept Z, kept Y, kept X, kept Composite) refl

-- a domain that passes the test has one place
pub one_place_stands : (domain : Domain) → is_one_place domain ≡ true → IsOnePlace domain
one_place_stands domain h =
    let few = λ (name : AxisName). nat_le (length_of domain name) 1 in
    let tuple = and_parts _ (few Composite) h in
    let x = and_parts _ (few X) tuple.0 in
    let y = and_parts _ (few Y) x.0 in
    let z = and_parts (few T) (few Z) y.0 in
    let short : (name : AxisName) → few name ≡ true → length_of domain name ≤ 1 = λ name. leb-true (length_of domain name) 1 in
    each_axis (λ name. length_of domain name ≤ 1) (short T z.0) (short Z z.1) (short Y y.1) (short X x.1) (short Composite tuple.1)

-- and a domain of one place passes it
pub one_place_answers : (domain : Domain) → IsOnePlace domain → is_one_place domain ≡ true
one_place_answers domain h =
    let few : (name : AxisName) → nat_le (length_of domain name) 1 ≡ true = λ name. le-leb (length_of domain name) 1 (h name) in
    rw (few T, few Z, few Y, few X, few Composite) refl
