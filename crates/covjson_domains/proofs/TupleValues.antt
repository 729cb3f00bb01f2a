-- The values of a tuple, by the names of its coordinates.
use Rattle.std.specs.Prelude.{◌||◌, ⊤, bytes_eq}
use Rattle.std.proofs.Common.{◌≡◌, ℕ, ℤ, pos, List, [], ◌∷◌, Bool, true, false, true≢false, Option, Some, None, inl, inr, refl, sym, ◌∙◌, subst}
use Rattle.std.proofs.lemmas.Bool.{and_parts, and_from, or_left, or_right, or_parts, cases_Bool, cond-true, cond-false}
use Rattle.std.proofs.lemmas.Slice.Eq.{bytes_eq-Decides}
use Rattle.serde_json.specs.Data.{Data, Items, no_items, item}
use Rattle.edr_base.specs.declared.places.Position.{Position}
use Rattle.edr_axes.specs.InstantComputed.{InstantsAreRead}
use Rattle.covjson_value.specs.declared.domains.CoordinateName.{CoordinateName}
use Rattle.covjson_value.specs.declared.domains.CoordinateName.TheVariants.{T, Z, Y, X}
use Rattle.covjson_value.specs.Domains.{coordinate_key, coordinate, is_among}
use Rattle.covjson_value.specs.Coverages.{IsAxisValue, IsTupleValue, IsTuple}
use Rattle.covjson_domains.specs.declared.tuples.Test.{Test}
use Rattle.covjson_domains.specs.declared.tuples.Test.TheVariants.{Within}
use Rattle.covjson_domains.specs.Axes.{StandsForAxisValue}
use Rattle.covjson_domains.specs.Tuples.{EachCoordinate}
use Rattle.covjson_domains.specs.TupleRows.{EachNamed}
use Rattle.covjson_domains.specs.TupleAnswers.{passes, all_pass, value_of}
use Rattle.covjson_domains.proofs.TupleReads.{IsReadAs, value_passes, value_stands, value_read, none_read, none_zero}

-- ---- the value of a name

-- names of one key are one
pub same_name : (one other : CoordinateName) → bytes_eq (coordinate_key one) (coordinate_key other) ≡ true → one ≡ other
same_name T T e = refl
same_name Z Z e = refl
same_name Y Y e = refl
same_name X X e = refl
same_name one other e = absurd (true≢false (sym e))

-- a name that isn't the first is among the others
later_among : (here later : Bool) → here ≡ false → (here || later) ≡ true → later ≡ true
later_among true later h among = cc
later_among false later h among = among

-- a name among these has a datum, which is as the relation says
pub has_value : (P : CoordinateName → Data → Type 0) (name : CoordinateName) (names : List CoordinateName) (ds : Items) → EachNamed P names ds → is_among name names ≡ true
    → (d : Data) × (value_of name names ds ≡ Some d) × P name d
has_value P name [] ds each among = absurd (true≢false (sym among))
has_value P name (other ∷ names) no_items each among = absurd each
has_value P name (other ∷ names) (item d ds) each among =
    let test = bytes_eq (coordinate_key name) (coordinate_key other) in
    elim (cases_Bool test) [
      | inl same ↦ (d, cond-true test (Some d) (value_of name names ds) same, subst (λ (n : CoordinateName). P n d) (sym (same_name name other same)) each.0)
      | inr differs ↦
          let later = has_value P name names ds each.1 (later_among test (is_among name names) differs among) in
          (later.0, cond-false test (Some d) (value_of name names ds) differs ∙ later.1, later.2)
    ]

-- a name that isn't among these has none
pub no_value : (name : CoordinateName) (names : List CoordinateName) (ds : Items) → is_among name names ≡ false → value_of name names ds ≡ None
no_value name [] ds h = refl
no_value name (other ∷ names) no_items h = refl
no_value name (other ∷ names) (item d ds) h =
    let test = bytes_eq (coordinate_key name) (coordinate_key other) in
    let apart = or_parts test (is_among name names) h in
    cond-false test (Some d) (value_of name names ds) apart.0 ∙ no_value name names ds apart.1

-- ---- tuples

-- the data of a tuple pass each test
pub each_passes : (test : Test) (names : List CoordinateName) (ds : Items) (tuple : Position) → EachCoordinate names ds tuple
    → ((name : CoordinateName) → is_among name names ≡ true → IsAxisValue name (coordinate name tuple)) → all_pass test names ds ≡ true
each_passes test [] no_items tuple each within = refl
each_passes test [] (item d ds) tuple each within = absurd each
each_passes test (name ∷ names) no_items tuple each within = absurd each
each_passes test (name ∷ names) (item d ds) tuple each within =
    let own : bytes_eq (coordinate_key name) (coordinate_key name) ≡ true = (bytes_eq-Decides (coordinate_key name) (coordinate_key name)).1 refl in
    let here = value_passes test name d (coordinate name tuple) each.0 (within name (or_left _ (is_among name names) own)) in
    let later = each_passes test names ds tuple each.1 (λ other among. within other (or_right (bytes_eq (coordinate_key other) (coordinate_key name)) _ among)) in
    and_from (passes test name d) (all_pass test names ds) here later

-- the data of a tuple stand for its coordinates, name by name
each_stand : (names : List CoordinateName) (ds : Items) (tuple : Position) → EachCoordinate names ds tuple → EachNamed (λ name d. StandsForAxisValue name d (coordinate name tuple)) names ds
each_stand [] no_items tuple each = tt
each_stand [] (item d ds) tuple each = each
each_stand (name ∷ names) no_items tuple each = each
each_stand (name ∷ names) (item d ds) tuple each = (each.0, each_stand names ds tuple each.1)

-- data that pass the test pass it name by name
each_within : (names : List CoordinateName) (ds : Items) → all_pass Within names ds ≡ true → EachNamed (λ name d. passes Within name d ≡ true) names ds
each_within [] no_items pass = tt
each_within [] (item d ds) pass = true≢false (sym pass)
each_within (name ∷ names) no_items pass = true≢false (sym pass)
each_within (name ∷ names) (item d ds) pass =
    let parts = and_parts (passes Within name d) (all_pass Within names ds) pass in
    (parts.0, each_within names ds parts.1)

-- what is read of the data of a tuple is the tuple's
pub tuple_read : InstantsAreRead → (place : ℕ) (names : List CoordinateName) (ds : Items) (tuple : Position) → EachCoordinate names ds tuple → IsTuple names tuple
    → (name : CoordinateName) → IsReadAs place name (value_of name names ds) (coordinate name tuple)
tuple_read instants place names ds tuple each within name =
    let value = coordinate name tuple in
    elim (cases_Bool (is_among name names)) [
      | inl among ↦
          let found = has_value (λ n d. StandsForAxisValue n d (coordinate n tuple)) name names ds (each_stand names ds tuple each) among in
          subst (λ (o : Option Data). IsReadAs place name o value) (sym found.1) (value_read instants place name found.0 value found.2)
      | inr apart ↦
          let zero : value ≡ pos 0 = subst (λ (b : Bool). IsTupleValue b name value) apart (within name) in
          let none : IsReadAs place name None value = subst (λ (z : ℤ). IsReadAs place name None z) (sym zero) (none_read place name) in
          subst (λ (o : Option Data). IsReadAs place name o value) (sym (no_value name names ds apart)) none
    ]

-- what is read of data within the limits is a tuple
pub tuple_within : InstantsAreRead → (place : ℕ) (names : List CoordinateName) (ds : Items) (tuple : Position) → all_pass Within names ds ≡ true
    → ((name : CoordinateName) → IsReadAs place name (value_of name names ds) (coordinate name tuple)) → IsTuple names tuple
tuple_within instants place names ds tuple pass read name =
    let value = coordinate name tuple in
    elim (cases_Bool (is_among name names)) [
      | inl among ↦
          let found = has_value (λ n d. passes Within n d ≡ true) name names ds (each_within names ds pass) among in
          let here : IsReadAs place name (Some found.0) value = subst (λ (o : Option Data). IsReadAs place name o value) found.1 (read name) in
          subst (λ (b : Bool). IsTupleValue b name value) (sym among) (value_stands instants place name found.0 value here found.2).1
      | inr apart ↦
          let none : IsReadAs place name None value = subst (λ (o : Option Data). IsReadAs place name o value) (no_value name names ds apart) (read name) in
          subst (λ (b : Bool). IsTupleValue b name value) (sym apart) (none_zero place name value none)
    ]

-- each name has the datum at its place
abbrev pub HasEach : (CoordinateName → Option Data) → List CoordinateName → Items → Type 0
HasEach find [] no_items = ⊤
HasEach find [] (item d ds) = ⊥
HasEach find (name ∷ names) no_items = ⊥
HasEach find (name ∷ names) (item d ds) = (find name ≡ Some d) × HasEach find names ds

-- what is read of data within the limits is what they stand for
pub each_stands_read : InstantsAreRead → (place : ℕ) (find : CoordinateName → Option Data) (tuple : Position) → ((name : CoordinateName) → IsReadAs place name (find name) (coordinate name tuple))
    → (names : List CoordinateName) (ds : Items) → HasEach find names ds → all_pass Within names ds ≡ true → EachCoordinate names ds tuple
each_stands_read instants place find tuple read [] no_items has pass = tt
each_stands_read instants place find tuple read [] (item d ds) has pass = has
each_stands_read instants place find tuple read (name ∷ names) no_items has pass = has
each_stands_read instants place find tuple read (name ∷ names) (item d ds) has pass =
    let parts = and_parts (passes Within name d) (all_pass Within names ds) pass in
    let value = coordinate name tuple in
    let here : IsReadAs place name (Some d) value = subst (λ (o : Option Data). IsReadAs place name o value) has.0 (read name) in
    ((value_stands instants place name d value here parts.0).0, each_stands_read instants place find tuple read names ds has.1 parts.1)
