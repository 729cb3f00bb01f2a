-- The records of a table, one after the other.
use Rattle.std.proofs.Common.{◌≡◌, ◌⊎◌, inl, inr, ℕ, ◌+◌, ◌<◌, ◌≤◌, List, [], ◌∷◌, ◌++◌, length, map, get_or, refl, sym, ap, subst, ◌∙◌, arith}
use Rattle.std.proofs.lemmas.List.{length-append, length-map, get_or-map, get_or_append_left, get_or_push}
use Rattle.csv.specs.Records.{Row, fields_of}
use Rattle.edr_base.specs.Names.{IsName}
use Rattle.edr_base.specs.FirstThatApplies.{IsLeast, IsFirstPlace}
use Rattle.edr_csv.specs.declared.observations.Observation.{Observation}
use Rattle.edr_csv.specs.declared.observations.Column.{Column}
use Rattle.edr_csv.specs.declared.observations.Column.TheVariants as column
use Rattle.edr_csv.specs.declared.observations.TableFault.{TableFault}
use Rattle.edr_csv.specs.declared.observations.TableFault.TheVariants.{NotHeader, BadRecord, BadField, PlaceDiffers, SameSample, NoRecords, OutOfMemory}
use Rattle.edr_csv.specs.Observations.{Applies, AreBehind, HasBadFields, HasForm, IsBadRecord, IsBehindHeader, IsHeaded, IsObservation, IsSeven, field_of, label_limit, rank}
use Rattle.edr_csv.specs.Forms.{AreSevens, IsFieldFault, IsFirstFieldFault}
use Rattle.edr_csv.proofs.FormLemmas.{below_or_at}

-- the fields of the record at a place
pub row_is : (records : List Row) (k : ℕ) (row : Row) → k < length records → row ≡ get_or records k row → get_or (map fields_of records) k [] ≡ fields_of row
row_is records k row inside is = get_or-map fields_of records k row [] inside ∙ ap fields_of (sym is)

pub is_behind : (records : List Row) (k : ℕ) → 0 < k → k < length records → IsBehindHeader (map fields_of records) k
is_behind records k behind inside = record { behind = behind; within = subst (λ (n : ℕ). k < n) (sym (length-map records fields_of)) inside }

module _ (rows : List (List (List ℕ))) where
  -- the records before a place have seven fields of text
  abbrev pub SevensBefore : ℕ → Type 0
  SevensBefore place = (k : ℕ) → 0 < k → k < place → IsSeven (get_or rows k [])

  pub no_sevens : SevensBefore 1
  no_sevens k behind before = absurd (omega (arith, before, behind))

  pub sevens_on : (place : ℕ) → SevensBefore place → IsSeven (get_or rows place []) → SevensBefore (place + 1)
  sevens_on place sevens seven k behind before = elim (below_or_at k place before) [
    | inl less ↦ sevens k behind less
    | inr same ↦ subst (λ (n : ℕ). IsSeven (get_or rows n [])) (sym same) seven
  ]

  pub bad_here : (place : ℕ) → SevensBefore place → IsBehindHeader rows place → ¬ (IsSeven (get_or rows place [])) → IsFirstPlace (IsBadRecord rows) place
  bad_here place sevens here bad = record { applies = (here, bad); none_before = λ k before other. other.1 (sevens k other.0.behind before) }

  pub all_sevens : (place : ℕ) → SevensBefore place → length rows ≤ place → AreSevens rows
  all_sevens place sevens all k here = sevens k here.behind (let within = here.within in omega (arith, within, all))

  -- ---- observations

  -- the fields of an observation's record are all of their forms
  pub all_right : (fields : List (List ℕ)) (o : Observation) → IsObservation fields o → (c : Column) → HasForm c (field_of c fields)
  all_right fields o is column.Station = subst IsName is.station.0 is.station.1
  all_right fields o is column.Label = subst (λ (t : List ℕ). length t ≤ label_limit) is.label.0 is.label.1
  all_right fields o is column.X = (o.x, is.x)
  all_right fields o is column.Y = (o.y, is.y)
  all_right fields o is column.T = (o.t, is.t)
  all_right fields o is column.Parameter = subst IsName is.parameter.0 is.parameter.1
  all_right fields o is column.Value = (o.value, is.value)

  abbrev pub AllRightBefore : ℕ → Type 0
  AllRightBefore place = (k : ℕ) → k < place → ¬ (HasBadFields rows k)

  pub none_wrong : AllRightBefore 1
  none_wrong k before bad = let behind = bad.1.0.behind in omega (arith, before, behind)

  pub right_on : (place : ℕ) (o : Observation) → AllRightBefore place → IsObservation (get_or rows place []) o → AllRightBefore (place + 1)
  right_on place o none is k before bad = elim (below_or_at k place before) [
    | inl less ↦ none k less bad
    | inr same ↦ bad.1.1 (all_right (get_or rows k []) o (subst (λ (n : ℕ). IsObservation (get_or rows n []) o) (sym same) is) bad.0)
  ]

  pub nothing_behind : AreBehind rows 1 []
  nothing_behind = record { as_many = refl; each = λ place d inside. absurd (omega (arith, inside)) }

  pub behind_on : (count : ℕ) (os : List Observation) (o : Observation) → AreBehind rows count os → IsObservation (get_or rows count []) o → AreBehind rows (count + 1) (os ++ o ∷ [])
  behind_on count os o are is = record {
    as_many = let before = are.as_many in omega (arith, before, length-append os (o ∷ []));
    each = λ place d inside. elim (below_or_at place (length os) (omega (arith, inside, length-append os (o ∷ [])))) [
      | inl less ↦ subst (λ (x : Observation). IsObservation (get_or rows (place + 1) []) x) (sym (get_or_append_left os (o ∷ []) d place less)) (are.each place d less)
      | inr same ↦ (let at : count ≡ place + 1 = are.as_many ∙ ap (λ (n : ℕ). n + 1) (sym same) in
          subst (λ (x : Observation). IsObservation (get_or rows (place + 1) []) x) (sym (get_or_push os o d place (sym same)))
          (subst (λ (n : ℕ). IsObservation (get_or rows n []) o) at is))
    ];
  }

  -- the first record with a field that isn't of its form
  pub wrong_here : (place : ℕ) (fault : TableFault) → AllRightBefore place → IsBehindHeader rows place → IsFieldFault (get_or rows place []) (place + 1) fault → IsFirstFieldFault rows fault
  wrong_here place fault none here (inl wants) = inl wants
  wrong_here place fault none here (inr (c, is, least)) =
      inr (place, c, is, record { applies = (c, (here, least.applies)); none_before = none }, record { applies = (here, least.applies); none_before = λ other before bad. least.none_before other before bad.1 })

  -- ---- the first fault

  before_header : (other : TableFault) → rank other < 1 → ¬ (Applies rows other)
  before_header NotHeader before = absurd (omega (arith, before))
  before_header (BadRecord n) before = absurd (omega (arith, before))
  before_header (BadField n c) before = absurd (omega (arith, before))
  before_header (PlaceDiffers n) before = absurd (omega (arith, before))
  before_header (SameSample n) before = absurd (omega (arith, before))
  before_header NoRecords before = absurd (omega (arith, before))
  before_header OutOfMemory before = absurd (omega (arith, before))

  pub not_header : ¬ (IsHeaded rows) → IsLeast rank (Applies rows) NotHeader
  not_header bad = record { applies = bad; none_before = before_header }

  before_records : IsHeaded rows → (other : TableFault) → rank other < 2 → ¬ (Applies rows other)
  before_records headed NotHeader before bad = bad headed
  before_records headed (BadRecord n) before bad = absurd (omega (arith, before))
  before_records headed (BadField n c) before bad = absurd (omega (arith, before))
  before_records headed (PlaceDiffers n) before bad = absurd (omega (arith, before))
  before_records headed (SameSample n) before bad = absurd (omega (arith, before))
  before_records headed NoRecords before bad = absurd (omega (arith, before))
  before_records headed OutOfMemory before bad = absurd (omega (arith, before))

  pub bad_record : IsHeaded rows → (place : ℕ) → IsFirstPlace (IsBadRecord rows) place → IsLeast rank (Applies rows) (BadRecord (place + 1))
  bad_record headed place first = record { applies = (place, first, refl); none_before = before_records headed }

  before_fields : IsHeaded rows → AreSevens rows → (other : TableFault) → rank other < 3 → ¬ (Applies rows other)
  before_fields headed none NotHeader before bad = bad headed
  before_fields headed none (BadRecord n) before bad = bad.1.applies.1 (none bad.0 bad.1.applies.0)
  before_fields headed none (BadField n c) before bad = absurd (omega (arith, before))
  before_fields headed none (PlaceDiffers n) before bad = absurd (omega (arith, before))
  before_fields headed none (SameSample n) before bad = absurd (omega (arith, before))
  before_fields headed none NoRecords before bad = absurd (omega (arith, before))
  before_fields headed none OutOfMemory before bad = absurd (omega (arith, before))

  pub bad_field : IsHeaded rows → AreSevens rows → (fault : TableFault) → IsFirstFieldFault rows fault → (fault ≡ OutOfMemory) ⊎ IsLeast rank (Applies rows) fault
  bad_field headed none fault (inl wants) = inl wants
  bad_field headed none fault (inr (place, c, is, first, least)) =
      inr (subst (IsLeast rank (Applies rows)) (sym is) (record { applies = (place, first, least, refl); none_before = before_fields headed none }))
