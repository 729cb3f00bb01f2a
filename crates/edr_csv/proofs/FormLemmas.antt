-- The fields of a record, column by column.
use Rattle.std.proofs.Common.{◌≡◌, ◌↔◌, ◌⊎◌, inl, inr, ℕ, zero, suc, ◌+◌, ◌<◌, ◌≤◌, ◌==◌, if◌then◌else◌, ℤ, pos, ◌<ℤ◌, List, [], ◌∷◌, length, get_or, All, IsUtf8, None, Some, refl, sym, ap, subst, ◌∙◌, arith}
use Rattle.std.proofs.lemmas.List.{get_or_default}
use Rattle.std.proofs.lemmas.Int.{ints}
use Rattle.std.specs.Int.RustNames.{unsigned_abs}
use Rattle.csv.specs.Records.{field_at}
use Rattle.csv.proofs.RecordFacts.{field-get}
use Rattle.edr_base.specs.FirstThatApplies.{IsLeast}
use Rattle.edr_base.specs.Numbers.{IsWhole}
use Rattle.edr_csv.specs.declared.observations.Column.{Column}
use Rattle.edr_csv.specs.declared.observations.Column.TheVariants as column
use Rattle.edr_csv.specs.Observations.{HasForm, columns, field_of, place_of}
use Rattle.edr_csv.specs.Forms.{HasColumns, IsWrong}

-- a field that is there, and one that isn't
pub field_some : (fields : List (List ℕ)) (i : ℕ) (x : List ℕ) → Some x ≡ field_at fields i → x ≡ get_or fields i []
field_some fields i x e = sym (field-get fields i x (sym e))

pub field_none : (fields : List (List ℕ)) (i : ℕ) → None ≡ field_at fields i → [] ≡ get_or fields i []
unfolding field_at
field_none [] i e = refl
field_none (f ∷ fields) zero e = cc e
field_none (f ∷ fields) (suc i) e = field_none fields i e

-- the texts of seven fields
pub texts_all : (fields : List (List ℕ)) (n : ℕ) → length fields ≡ n → ((k : ℕ) → k < n → IsUtf8 (get_or fields k [])) → All IsUtf8 fields
texts_all fields n long each k d inside =
    subst IsUtf8 (get_or_default fields k [] d inside) (each k (omega (arith, inside, long)))

-- seven fields, one by one
seven_fields : (fields : List (List ℕ)) → length fields ≡ 7
    → fields ≡ get_or fields 0 [] ∷ get_or fields 1 [] ∷ get_or fields 2 [] ∷ get_or fields 3 [] ∷ get_or fields 4 [] ∷ get_or fields 5 [] ∷ get_or fields 6 [] ∷ []
seven_fields [] h = absurd (omega (arith, h))
seven_fields (a ∷ []) h = absurd (omega (arith, h))
seven_fields (a ∷ b ∷ []) h = absurd (omega (arith, h))
seven_fields (a ∷ b ∷ c ∷ []) h = absurd (omega (arith, h))
seven_fields (a ∷ b ∷ c ∷ d ∷ []) h = absurd (omega (arith, h))
seven_fields (a ∷ b ∷ c ∷ d ∷ e ∷ []) h = absurd (omega (arith, h))
seven_fields (a ∷ b ∷ c ∷ d ∷ e ∷ f ∷ []) h = absurd (omega (arith, h))
seven_fields (a ∷ b ∷ c ∷ d ∷ e ∷ f ∷ g ∷ []) h = refl
seven_fields (a ∷ b ∷ c ∷ d ∷ e ∷ f ∷ g ∷ x ∷ rest) h = absurd (omega (arith, h))

pub columns_are : (fields : List (List ℕ)) → HasColumns fields ↔ (fields ≡ columns)
columns_are fields = (λ has. seven_fields fields has.0 ∙ cc has.1, there)
  where
    there : fields ≡ columns → HasColumns fields
    there e = subst HasColumns (sym e) (refl, refl, refl, refl, refl, refl, refl, refl)

-- a whole number beyond a limit is no other one
pub too_large : ((text : List ℕ) (v w : ℤ) → IsWhole text v → IsWhole text w → v ≡ w) → (text : List ℕ) (limit : ℤ) (n : ℕ) → limit ≡ pos n
    → ((v : ℤ) × IsWhole text v × (limit <ℤ pos (unsigned_abs v))) → (x : ℤ) → IsWhole text x → unsigned_abs x ≤ n → ⊥
too_large tell text limit n is (v, whole, big) x other within =
    let same : v ≡ x = tell text v x whole other in
    let far : pos n <ℤ pos (unsigned_abs x) = subst (λ (l : ℤ). l <ℤ pos (unsigned_abs x)) is (subst (λ (w : ℤ). limit <ℤ pos (unsigned_abs w)) same big) in
    grind (arith, ints)

-- a number below the next is below this one, or this one
pub below_or_at : (a b : ℕ) → a < b + 1 → (a < b) ⊎ (a ≡ b)
below_or_at zero zero h = inr refl
below_or_at zero (suc b) h = inl (omega arith)
below_or_at (suc a) zero h = absurd (omega (arith, h))
below_or_at (suc a) (suc b) h = elim (below_or_at a b (omega (arith, h))) [
  | inl less ↦ inl (omega (arith, less))
  | inr same ↦ inr (ap suc same)
]

-- ---- the columns in their order

column_at : ℕ → Column
column_at n =
    if n == 0 then column.Station
    else (if n == 1 then column.Label
    else (if n == 2 then column.X
    else (if n == 3 then column.Y
    else (if n == 4 then column.T
    else (if n == 5 then column.Parameter
    else column.Value)))))

back : (c : Column) → column_at (place_of c) ≡ c
unfolding column_at
back column.Station = refl
back column.Label = refl
back column.X = refl
back column.Y = refl
back column.T = refl
back column.Parameter = refl
back column.Value = refl

-- the fields before a place are of their forms
abbrev pub AreRight : List (List ℕ) → ℕ → Type 0
AreRight fields n = (c : Column) → place_of c < n → HasForm c (field_of c fields)

pub none_yet : (fields : List (List ℕ)) → AreRight fields 0
none_yet fields c before = absurd (omega (arith, before))

pub right_on : (fields : List (List ℕ)) (c : Column) → AreRight fields (place_of c) → HasForm c (field_of c fields) → AreRight fields (place_of c + 1)
right_on fields c right here other before = elim (below_or_at (place_of other) (place_of c) before) [
  | inl less ↦ right other less
  | inr same ↦ (let is : c ≡ other = sym (back c) ∙ ap column_at (sym same) ∙ back other in subst (λ (k : Column). HasForm k (field_of k fields)) is here)
]

-- the first that isn't
pub first_wrong : (fields : List (List ℕ)) (c : Column) → AreRight fields (place_of c) → ¬ (HasForm c (field_of c fields)) → IsLeast place_of (IsWrong fields) c
first_wrong fields c right wrong = record { applies = wrong; none_before = λ other before is. is (right other before) }

-- the last three columns, each where those before are right
module _ (fields : List (List ℕ)) (station : HasForm column.Station (field_of column.Station fields)) (label : HasForm column.Label (field_of column.Label fields))
    (x : HasForm column.X (field_of column.X fields)) (y : HasForm column.Y (field_of column.Y fields)) where
  right_places : AreRight fields 4
  right_places = right_on fields column.Y (right_on fields column.X (right_on fields column.Label (right_on fields column.Station (none_yet fields) station) label) x) y

  pub wrong_time : ¬ (HasForm column.T (field_of column.T fields)) → IsLeast place_of (IsWrong fields) column.T
  wrong_time bad = first_wrong fields column.T right_places bad

  pub wrong_parameter : HasForm column.T (field_of column.T fields) → ¬ (HasForm column.Parameter (field_of column.Parameter fields)) → IsLeast place_of (IsWrong fields) column.Parameter
  wrong_parameter t bad = first_wrong fields column.Parameter (right_on fields column.T right_places t) bad

  pub wrong_value : HasForm column.T (field_of column.T fields) → HasForm column.Parameter (field_of column.Parameter fields) → ¬ (HasForm column.Value (field_of column.Value fields)) → IsLeast place_of (IsWrong fields) column.Value
  wrong_value t parameter bad = first_wrong fields column.Value (right_on fields column.Parameter (right_on fields column.T right_places t) parameter) bad

-- the texts of more fields
pub texts_on : (fields : List (List ℕ)) (place : ℕ) → ((k : ℕ) → k < place → IsUtf8 (get_or fields k [])) → IsUtf8 (get_or fields place []) → (k : ℕ) → k < place + 1 → IsUtf8 (get_or fields k [])
texts_on fields place each here k before = elim (below_or_at k place before) [
  | inl less ↦ each k less
  | inr same ↦ subst (λ (n : ℕ). IsUtf8 (get_or fields n [])) (sym same) here
]
