-- The lengths and the values of a range, after the checks that passed.
use Rattle.std.proofs.Common.{◌≡◌, ◌≢◌, ℕ, ℤ, List, [], ◌∷◌, length, map, codes, Option, Some, None, Ok, Err, refl, sym, ◌∙◌, subst}
use Rattle.std.specs.Prelude.{⊤}
use Rattle.std.proofs.lemmas.Bool.{eq-eqb, ne_eqb}
use Rattle.serde_json.specs.Data.{Data, Items}
use Rattle.serde_json.specs.Find.{get}
use Rattle.serde_json.specs.View.{items_of}
use Rattle.edr_samples.specs.Tokens.{sample_data}
use Rattle.covjson_value.specs.declared.domains.Domain.{Domain}
use Rattle.covjson_value.specs.declared.axis_names.AxisName.{AxisName}
use Rattle.covjson_checks.specs.declared.faults.Member.TheVariants.{AxisNames, Shape, Values}
use Rattle.covjson_checks.specs.declared.faults.CovFault.TheVariants.{WrongType, WrongCount}
use Rattle.covjson_checks.specs.declared.members.Wanted.TheVariants.{Naturals}
use Rattle.covjson_checks.specs.Answers.{each}
use Rattle.covjson_checks.specs.Members.{need, list_at, need_each}
use Rattle.covjson_ranges.specs.Ranges.{StandsForSample, length_of}
use Rattle.covjson_ranges.specs.RangeRows.{ValuesRows}
use Rattle.edr_json.specs.Trees.{count_items}
use Rattle.covjson_ranges.specs.RangeAnswers.{axis_named, lengths_are, shape_in, samples_of, samples_in}
use Rattle.covjson_ranges.proofs.RangeParts.{stands_count}
use Rattle.covjson_ranges.proofs.SampleLemmas.{values_lead, values_passed}

-- samples name no axes
pub named_some : (ss : List (Option ℤ)) → ¬ (length ss ≡ 0) → each axis_named (items_of (map sample_data ss)) ≡ Err (WrongType AxisNames)
named_some [] h = absurd (h refl)
named_some (None ∷ ss) h = refl
named_some (Some z ∷ ss) h = refl

-- ---- lengths

-- with as many lengths as names each is compared
pub shape_counted : (domain : Domain) (names : List AxisName) (o : Option Data) (list : Data) (ds : Items) (x : ⊤) → o ≡ Some list → list_at Shape list ≡ Ok ds
    → need_each Naturals (WrongType Shape) ds ≡ Ok x → count_items ds ≡ length names → shape_in domain names o ≡ lengths_are (map (length_of domain) names) ds
shape_counted domain names o list ds x some listed form counted = rw (some, listed, form, eq-eqb (count_items ds) (length names) counted) refl

-- with another count of lengths that is said
pub shape_miscounted : (domain : Domain) (names : List AxisName) (o : Option Data) (list : Data) (ds : Items) (x : ⊤) (found : ℕ) → o ≡ Some list → list_at Shape list ≡ Ok ds
    → need_each Naturals (WrongType Shape) ds ≡ Ok x → found ≡ count_items ds → found ≢ length names → Err (WrongCount Shape (length names) found) ≡ shape_in domain names o
shape_miscounted domain names o list ds x found some listed form is other =
    let apart : count_items ds ≢ length names = λ same. other (is ∙ same) in
    rw (is, some, listed, form, ne_eqb (count_items ds) (length names) apart) refl

-- ---- values

-- with as many values as are wanted they are read
pub samples_counted : (wanted : ℕ) (d list : Data) (ds : Items) → need (codes "values") Values d ≡ Ok list → list_at Values list ≡ Ok ds → count_items ds ≡ wanted
    → samples_in wanted d ≡ samples_of ds
samples_counted wanted d list ds needed listed counted = rw (needed, listed, eq-eqb (count_items ds) wanted counted) refl

-- with another count of values that is said
pub samples_miscounted : (wanted : ℕ) (d list : Data) (ds : Items) (found : ℕ) → need (codes "values") Values d ≡ Ok list → list_at Values list ≡ Ok ds
    → found ≡ count_items ds → found ≢ wanted → samples_in wanted d ≡ Err (WrongCount Values wanted found)
samples_miscounted wanted d list ds found needed listed is other =
    let apart : count_items ds ≢ wanted = λ same. other (is ∙ same) in
    rw (is, needed, listed, ne_eqb (count_items ds) wanted apart) refl

-- as many samples were read as are wanted
pub read_counted : (d : Data) (wanted count : ℕ) (values : List (Option ℤ)) → samples_in wanted d ≡ Ok values → wanted ≡ count → length values ≡ count
read_counted d wanted count values read is =
    let rows = subst (ValuesRows wanted (get (codes "values") d)) read (values_lead wanted d).follows in
    let samples = values_passed wanted (get (codes "values") d) values rows in
    sym (stands_count StandsForSample samples.items values samples.each_stand) ∙ samples.as_many ∙ is
