-- The tree of a composite axis tells its coordinates and its tuples.
use Rattle.std.proofs.Common.{◌≡◌, ℤ, Bool, true, false, true≢false, bytes_eq, List, [], ◌∷◌, map, Option, Some, None, IfSome, IsSome, option_map, inl, inr, refl, ap, ap₂, ◌∙◌, sym, subst}
use Rattle.std.specs.Prelude.{⊤}
use Rattle.std.proofs.lemmas.Bool.{or_cases}
use Rattle.std.proofs.lemmas.Slice.Eq.{bytes_eq-Decides}
use Rattle.serde_json.specs.Data.{Data, string}
use Rattle.serde_json.specs.View.{items_of}
use Rattle.edr_base.specs.declared.places.Position.{Position}
use Rattle.edr_axes.specs.Instants.{TextsTellTimes}
use Rattle.covjson_value.specs.declared.domains.CoordinateName.{CoordinateName}
use Rattle.covjson_value.specs.declared.domains.CoordinateName.TheVariants.{T, Z, Y, X}
use Rattle.covjson_value.specs.Domains.{coordinate_key, coordinate, is_among}
use Rattle.covjson_value.specs.Coverages.{IsAxisValue, IsTupleValue, IsTuple, AreTuples}
use Rattle.covjson_value.specs.Trees
use Rattle.covjson_value.proofs.Telling.{Tells, any_listed, integer_tells, array_of_tells}

pub axis_value_tells : TextsTellTimes → (name : CoordinateName) → Tells (IsAxisValue name) (Trees.axis_value_data name)
axis_value_tells told T one other h k e = told one other h k (cc)
axis_value_tells told Z one other h k e = integer_tells one other e
axis_value_tells told Y one other h k e = integer_tells one other e
axis_value_tells told X one other h k e = integer_tells one other e

-- ---- names

same_name : (one other : CoordinateName) → bytes_eq (coordinate_key one) (coordinate_key other) ≡ true → one ≡ other
same_name T T e = refl
same_name Z Z e = refl
same_name Y Y e = refl
same_name X X e = refl
same_name one other e = absurd (true≢false (sym e))

abbrev key_data : CoordinateName → Data
key_data name = string (coordinate_key name)

key_tells : Tells (λ _. ⊤) key_data
key_tells one other h k e =
    let keys : coordinate_key one ≡ coordinate_key other = cc in
    same_name one other ((bytes_eq-Decides (coordinate_key one) (coordinate_key other)).1 keys)

keys_tell : (names others : List CoordinateName) → Trees.keys_data names ≡ Trees.keys_data others → names ≡ others
keys_tell names others e = array_of_tells (λ _. ⊤) key_data key_tells names others (any_listed names) (any_listed others) e

-- ---- tuples

-- the data of a tuple's coordinate
abbrev part : Position → CoordinateName → Data
part tuple name = Trees.axis_value_data name (coordinate name tuple)

-- where the data of two tuples are equal, each of their parts is
parts_tell : (names : List CoordinateName) (one other : Position) → items_of (map (part one) names) ≡ items_of (map (part other) names)
    → (name : CoordinateName) → is_among name names ≡ true → part one name ≡ part other name
parts_tell [] one other e name among = absurd (true≢false (sym among))
parts_tell (first ∷ names) one other e name among =
    let here : part one first ≡ part other first = cc in
    let later : items_of (map (part one) names) ≡ items_of (map (part other) names) = cc in
    elim (or_cases (bytes_eq (coordinate_key name) (coordinate_key first)) (is_among name names) among) [
      | inl same ↦ let is : name ≡ first = same_name name first same in cc
      | inr further ↦ parts_tell names one other later name further
    ]

tuple_value_tells : TextsTellTimes → (among : Bool) (name : CoordinateName) (one other : ℤ) → IsTupleValue among name one → IsTupleValue among name other
    → (among ≡ true → Trees.axis_value_data name one ≡ Trees.axis_value_data name other) → one ≡ other
tuple_value_tells told true name one other h k e = axis_value_tells told name one other h k (e refl)
tuple_value_tells told false name one other h k e = h ∙ sym k

same_position : (one other : Position) → ((name : CoordinateName) → coordinate name one ≡ coordinate name other) → one ≡ other
same_position one other same =
    let first : ℤ → ℤ → Position = λ x y. record { x = x; y = y; z = one.z; m = one.m } in
    let second : ℤ → ℤ → Position = λ z m. record { x = other.x; y = other.y; z = z; m = m } in
    ap₂ first (same X) (same Y) ∙ ap₂ second (same Z) (same T)

tuple_tells : TextsTellTimes → (names : List CoordinateName) → Tells (IsTuple names) (Trees.tuple_data names)
tuple_tells told names one other h k e =
    let parts : items_of (map (part one) names) ≡ items_of (map (part other) names) = cc in
    same_position one other (λ name. tuple_value_tells told (is_among name names) name (coordinate name one) (coordinate name other) (h name) (k name) (parts_tell names one other parts name))

-- ---- composite axes

-- the same tuples or none, and tuples of the same coordinates
pub record SameTuples (names others : List CoordinateName) (one other : Option (List Position)) : Type 0 where
  pub same_tuples : one ≡ other
  pub same_names : IsSome one → names ≡ others

pub composite_tells : TextsTellTimes → (names others : List CoordinateName) (one other : Option (List Position)) → IfSome one (AreTuples names) → IfSome other (AreTuples others)
    → option_map (Trees.composite_data names) one ≡ option_map (Trees.composite_data others) other → SameTuples names others one other
composite_tells told names others None None h k e = record { same_tuples = refl; same_names = λ some. absurd (true≢false (sym some)) }
composite_tells told names others None (Some other) h k e = cc
composite_tells told names others (Some one) None h k e = cc
composite_tells told names others (Some one) (Some other) h k e =
    let keys : Trees.keys_data names ≡ Trees.keys_data others = cc in
    let same : names ≡ others = keys_tell names others keys in
    let back : Trees.array_of (Trees.tuple_data others) other ≡ Trees.array_of (Trees.tuple_data names) other = ap (λ (ns : List CoordinateName). Trees.array_of (Trees.tuple_data ns) other) (sym same) in
    let valid : AreTuples names other = subst (λ (ns : List CoordinateName). AreTuples ns other) (sym same) k in
    let values : Trees.array_of (Trees.tuple_data names) one ≡ Trees.array_of (Trees.tuple_data others) other = cc in
    record { same_tuples = ap Some (array_of_tells (IsTuple names) (Trees.tuple_data names) (tuple_tells told names) one other h.each valid.each (values ∙ back)); same_names = λ some. same }
