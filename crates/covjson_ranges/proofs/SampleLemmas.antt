-- The values of a range: the rows of their checks, and the computed answer.
use Rattle.std.proofs.Common.{◌≡◌, ◌==◌, inl, inr, ℕ, ℤ, Bool, true, false, true≢false, ◌||◌, if◌then◌else◌, codes, List, [], ◌∷◌, Option, Some, None, Ok, Err, refl, sym, ap, ap₂, ◌∙◌, subst, unsigned_abs}
use Rattle.std.specs.Prelude.{IfSome, is_some}
use Rattle.std.proofs.lemmas.Bool.{or_right, le-leb, leb-true, eqb-true, eq-eqb}
use Rattle.serde_json.specs.Data.{Data, null, boolean, number, string, array, object, Items, no_items, item, Num}
use Rattle.serde_json.specs.Find.{get, as_null, as_number, as_array}
use Rattle.edr_base.specs.FirstThatApplies.{Find, Gives, and_then}
use Rattle.edr_base.specs.Limits.{sample_limit, IsSample, AreSamples, HasSample}
use Rattle.edr_json.specs.Trees.{whole_of, count_items, EachStands}
use Rattle.edr_json.specs.AnswerLaws.{and_then_ok}
use Rattle.edr_json.specs.TreeLaws.{as_array_some}
use Rattle.covjson_checks.specs.declared.faults.Member.{Member}
use Rattle.covjson_checks.specs.declared.faults.Member.TheVariants.{Values}
use Rattle.covjson_checks.specs.declared.faults.CovFault.{CovFault}
use Rattle.covjson_checks.specs.declared.faults.CovFault.TheVariants.{Missing, WrongType, NotWhole, OutOfRangeAt, WrongCount}
use Rattle.covjson_checks.specs.declared.members.Wanted.TheVariants.{NumbersOrNulls, WholesOrNulls}
use Rattle.covjson_checks.specs.Answers.{Answer, each_from}
use Rattle.covjson_checks.specs.Members.{is_within, whole_within, whole_or_null, all_wanted}
use Rattle.covjson_checks.specs.CheckLaws.{from_stands, whole_within_stands, all_wanted_given}
use Rattle.covjson_checks.specs.Places.{EachItem, HasValue, CheckEach}
use Rattle.covjson_checks.specs.PlaceLaws.{values_had, values_all, values_each}
use Rattle.covjson_checks.specs.EachRows.{check_each_answers, Found, outcome}
use Rattle.covjson_checks.specs.RowLaws.{HaveAnswer, gives_answers}
use Rattle.covjson_ranges.specs.Ranges.{StandsForSample}
use Rattle.covjson_ranges.specs.RangeAnswers.{samples_of, samples_in}
use Rattle.covjson_ranges.specs.RangeRows.{StandsForNumber, ValuesRows}
use Rattle.covjson_ranges.proofs.CheckRows.{LeadTo, check_leads, find_leads, find_tested, row_passed, ok_err}
use Rattle.covjson_ranges.proofs.ShapeParts.{each_wanted}

-- ---- one sample

-- a whole number that was read stands there
number_stands : (m : Member) (limit place : ℕ) (d : Data) (v : Option ℤ) → and_then (whole_within m limit place d) (λ z. Ok (Some z)) ≡ Ok v → StandsForSample d v
number_stands m limit place d None h =
    let a = and_then_ok (whole_within m limit place d) _ None h in
    cc
number_stands m limit place d (Some z) h =
    let a = and_then_ok (whole_within m limit place d) _ (Some z) h in
    let same : a.0 ≡ z = cc in
    (whole_within_stands m limit place d z (a.1 ∙ ap Ok same)).0

-- and so does no value
null_stands : (v : Option ℤ) → ◌≡◌ {A = Answer (Option ℤ)} (Ok None) (Ok v) → StandsForSample null v
null_stands None h = refl
null_stands (Some z) h = cc

-- the sample that was read stands there
sample_stands : (m : Member) (limit place : ℕ) (d : Data) (v : Option ℤ) → whole_or_null m limit place d ≡ Ok v → StandsForSample d v
sample_stands m limit place null v h = null_stands v h
sample_stands m limit place (boolean b) v h = number_stands m limit place (boolean b) v h
sample_stands m limit place (number n) v h = number_stands m limit place (number n) v h
sample_stands m limit place (string s) v h = number_stands m limit place (string s) v h
sample_stands m limit place (array ds) v h = number_stands m limit place (array ds) v h
sample_stands m limit place (object ms) v h = number_stands m limit place (object ms) v h

-- ---- tests of items

-- an item that is a number or null
number_some : (d : Data) → (is_some (as_null d) || is_some (as_number d)) ≡ true → (v : Option Num) × StandsForNumber d v
number_some null h = (None, refl)
number_some (boolean b) h = cc
number_some (number n) h = (Some n, refl)
number_some (string s) h = cc
number_some (array ds) h = cc
number_some (object ms) h = cc

-- passes the test
number_wanted : (d : Data) (v : Option Num) → StandsForNumber d v → (is_some (as_null d) || is_some (as_number d)) ≡ true
number_wanted d None h = rw h refl
number_wanted d (Some n) h = rw h refl

-- an item that is held whole
whole_some : (o : Option ℤ) (d : Data) → whole_of d ≡ o → is_some o ≡ true → (v : Option ℤ) × StandsForSample d v
whole_some None d is h = cc
whole_some (Some z) d is h = (Some z, is)

-- or null
sample_some : (d : Data) → (is_some (as_null d) || is_some (whole_of d)) ≡ true → (v : Option ℤ) × StandsForSample d v
sample_some null h = (None, refl)
sample_some (boolean b) h = whole_some (whole_of (boolean b)) (boolean b) refl h
sample_some (number n) h = whole_some (whole_of (number n)) (number n) refl h
sample_some (string s) h = whole_some (whole_of (string s)) (string s) refl h
sample_some (array ds) h = whole_some (whole_of (array ds)) (array ds) refl h
sample_some (object ms) h = whole_some (whole_of (object ms)) (object ms) refl h

-- passes the test
sample_wanted : (d : Data) (v : Option ℤ) → StandsForSample d v → (is_some (as_null d) || is_some (whole_of d)) ≡ true
sample_wanted d None h = rw h refl
sample_wanted d (Some z) h = or_right (is_some (as_null d)) (is_some (whole_of d)) (ap is_some h)

-- a sample is a number or null
sample_number : (d : Data) (v : Option ℤ) → StandsForSample d v → (is_some (as_null d) || is_some (as_number d)) ≡ true
sample_number d None h = rw h refl
sample_number null (Some z) h = refl
sample_number (boolean b) (Some z) h = cc
sample_number (number n) (Some z) h = refl
sample_number (string s) (Some z) h = cc
sample_number (array ds) (Some z) h = cc
sample_number (object ms) (Some z) h = cc

-- items that were read one by one pass each check
pub samples_read : (ds : Items) (values : List (Option ℤ)) → each_from (whole_or_null Values sample_limit) 0 ds ≡ Ok values → samples_of ds ≡ Ok values
samples_read ds values h =
    let stand = from_stands (whole_or_null Values sample_limit) StandsForSample (sample_stands Values sample_limit) 0 ds values h in
    let numbers = all_wanted_given NumbersOrNulls StandsForSample sample_number ds values stand in
    let wholes = all_wanted_given WholesOrNulls StandsForSample sample_wanted ds values stand in
    rw (numbers, wholes) h

-- ---- the limit

-- a value within a limit, or none
abbrev is_short : ℕ → Option ℤ → Bool
is_short limit None = true
is_short limit (Some z) = is_within limit z

-- a whole number or the fault, by a test
by_test : (f : CovFault) (b : Bool) (z : ℤ) → and_then {U = Option ℤ} (if b then Ok z else Err f) (λ x. Ok (Some x)) ≡ (if b then Ok (Some z) else Err f)
by_test f true z = refl
by_test f false z = refl

-- the answer to an item that stands for a sample
sample_answer : (m : Member) (limit place : ℕ) (d : Data) (v : Option ℤ) → StandsForSample d v
    → whole_or_null m limit place d ≡ (if is_short limit v then Ok v else Err (OutOfRangeAt m place))
sample_answer m limit place d None h = rw h refl
sample_answer m limit place null (Some z) h = cc
sample_answer m limit place (boolean b) (Some z) h = cc
sample_answer m limit place (number n) (Some z) h = rw h (by_test (OutOfRangeAt m place) (is_within limit z) z)
sample_answer m limit place (string s) (Some z) h = cc
sample_answer m limit place (array ds) (Some z) h = cc
sample_answer m limit place (object ms) (Some z) h = cc

-- a value that passes the test is a sample
short_is : (v : Option ℤ) → is_short sample_limit v ≡ true → IfSome v IsSample
short_is None h = tt
short_is (Some z) h = leb-true (unsigned_abs z) sample_limit h

-- and a sample passes it
short_given : (v : Option ℤ) → IfSome v IsSample → is_short sample_limit v ≡ true
short_given None h = refl
short_given (Some z) h = le-leb (unsigned_abs z) sample_limit h

-- an item is one sample
null_whole : (d : Data) (z : ℤ) → d ≡ null → whole_of d ≡ Some z → ⊥
null_whole d z h k = let e : ◌≡◌ {A = Option ℤ} None (Some z) = ap whole_of (sym h) ∙ k in cc

sample_one : (d : Data) (v w : Option ℤ) → StandsForSample d v → StandsForSample d w → v ≡ w
sample_one d None None h k = refl
sample_one d None (Some z) h k = absurd (null_whole d z h k)
sample_one d (Some z) None h k = absurd (null_whole d z k h)
sample_one d (Some y) (Some z) h k = sym h ∙ k

-- the sample of an item is within the limit, or its place is the fault
sample_by : (place : ℕ) (d : Data) (v : Option ℤ) → StandsForSample d v → (b : Bool) → is_short sample_limit v ≡ b
    → Found (OutOfRangeAt Values) StandsForSample (HasValue StandsForSample HasSample) place d (if b then Ok v else Err (OutOfRangeAt Values place))
sample_by place d v stands true short = inl (v, refl, stands, (v, stands, short_is v short))
sample_by place d v stands false long =
    inr (
      (λ has.
          let short : is_short sample_limit v ≡ true = short_given v (subst HasSample (sample_one d has.0 v has.1 stands) has.2) in
          true≢false (sym short ∙ long)),
      refl,
    )

sample_found : (place : ℕ) (d : Data) → (v : Option ℤ) × StandsForSample d v
    → Found (OutOfRangeAt Values) StandsForSample (HasValue StandsForSample HasSample) place d (whole_or_null Values sample_limit place d)
sample_found place d has =
    subst (Found (OutOfRangeAt Values) StandsForSample (HasValue StandsForSample HasSample) place d) (sym (sample_answer Values sample_limit place d has.0 has.1))
    (sample_by place d has.0 has.1 (is_short sample_limit has.0) refl)

-- ---- the rows

-- the values for which items stand are one list
samples_one : (ds : Items) (vs ws : List (Option ℤ)) → EachStands StandsForSample ds vs → EachStands StandsForSample ds ws → vs ≡ ws
samples_one no_items [] [] h k = refl
samples_one no_items (v ∷ vs) ws h k = absurd h
samples_one no_items [] (w ∷ ws) h k = absurd k
samples_one (item d ds) [] ws h k = absurd h
samples_one (item d ds) (v ∷ vs) [] h k = absurd k
samples_one (item d ds) (v ∷ vs) (w ∷ ws) h k = ap₂ ◌∷◌ (sample_one d v w h.0 k.0) (samples_one ds vs ws h.1 k.1)

-- what follows of an answer without a check is the answer
only_then : {T : Type 0} (answer : Answer T) → and_then answer (λ x. Ok x) ≡ answer
only_then (Ok x) = refl
only_then (Err f) = refl

-- the last row, of items that stand for samples
abbrev LimitRow : Items → List (Option ℤ) → Answer (List (Option ℤ)) → Type 0
LimitRow ds vs = CheckEach (HasValue StandsForSample HasSample) (OutOfRangeAt Values) ds (Gives vs)

limit_leads : (ds : Items) (vs : List (Option ℤ)) → EachStands StandsForSample ds vs → LeadTo (LimitRow ds vs) (each_from (whole_or_null Values sample_limit) 0 ds)
limit_leads ds vs stand =
    let Within = HasValue StandsForSample HasSample in
    let run = each_from (whole_or_null Values sample_limit) in
    let found = outcome (OutOfRangeAt Values) (whole_or_null Values sample_limit) run (λ d. (v : Option ℤ) × StandsForSample d v) Within StandsForSample (λ place. refl) (λ place d es. refl)
    sample_found 0 ds (values_had StandsForSample ds vs stand) in
    let has : HaveAnswer (LimitRow ds vs) (run 0 ds) =
    subst (HaveAnswer (LimitRow ds vs)) (only_then (run 0 ds))
    (check_each_answers (OutOfRangeAt Values) StandsForSample Within ds (Gives vs) (run 0 ds) (λ ws. Ok ws) found (λ ws also.
    subst (λ (us : List (Option ℤ)). HaveAnswer {F = CovFault} (Gives vs) (Ok us)) (samples_one ds vs ws stand also) (gives_answers vs))) in
    record { follows = has.follows; only = has.only }

-- the rows of the items
items_lead : (ds : Items) → LeadTo (Find (EachStands StandsForNumber ds) (WrongType Values) (λ numbers.
    Find (EachStands StandsForSample ds) (NotWhole Values) (λ samples. LimitRow ds samples))) (samples_of ds)
items_lead ds =
    find_tested (all_wanted NumbersOrNulls ds) (EachStands StandsForNumber ds) (WrongType Values) _ _
    (each_wanted NumbersOrNulls StandsForNumber number_some ds) (all_wanted_given NumbersOrNulls StandsForNumber number_wanted ds)
    (λ numbers here. find_tested (all_wanted WholesOrNulls ds) (EachStands StandsForSample ds) (NotWhole Values) _ _
    (each_wanted WholesOrNulls StandsForSample sample_some ds) (all_wanted_given WholesOrNulls StandsForSample sample_wanted ds)
    (limit_leads ds))

-- the rows lead to what is computed
pub values_lead : (wanted : ℕ) (d : Data) → LeadTo (ValuesRows wanted (get (codes "values") d)) (samples_in wanted d)
values_lead wanted d =
    find_leads (get (codes "values") d) (λ list. get (codes "values") d ≡ Some list) (Missing Values) _ _ (λ list h. h) (λ list h. h)
    (λ list found. find_leads (as_array list) (λ items. list ≡ array items) (WrongType Values) _ _ (as_array_some list) (λ items h. ap as_array h)
    (λ items is. check_leads (count_items items == wanted) (count_items items ≡ wanted) (WrongCount Values wanted (count_items items)) _ _
    (eqb-true (count_items items) wanted) (eq-eqb (count_items items) wanted) (λ counted. items_lead items)))

-- a list of so many items that stand for these samples
pub record HasSamples (values : Option Data) (count : ℕ) (samples : List (Option ℤ)) : Type 0 where
  pub items : Items
  pub list : values ≡ Some (array items)
  pub as_many : count_items items ≡ count
  pub each_stand : EachStands StandsForSample items samples
  pub short : AreSamples samples

-- the row over each item is passed
each_passed : (ds : Items) (vs samples : List (Option ℤ)) → LimitRow ds vs (Ok samples) → EachItem (HasValue StandsForSample HasSample) ds × (◌≡◌ {A = Answer (List (Option ℤ))} (Ok samples) (Ok vs))
each_passed ds vs samples (inl h) = h
each_passed ds vs samples (inr h) = absurd (ok_err samples _ h.2)

-- the rows end in the samples that stand there
pub values_passed : (wanted : ℕ) (values : Option Data) (samples : List (Option ℤ)) → ValuesRows wanted values (Ok samples) → HasSamples values wanted samples
values_passed wanted values samples h =
    let list = row_passed samples (Missing Values) h in
    let items = row_passed samples (WrongType Values) list.2 in
    let counted = row_passed samples (WrongCount Values wanted (count_items items.0)) items.2 in
    let numbers = row_passed samples (WrongType Values) counted.1 in
    let found = row_passed samples (NotWhole Values) numbers.2 in
    let short = each_passed items.0 found.0 samples found.2 in
    let same : found.0 ≡ samples = cc (short.1) in
    record {
      items = items.0;
      list = list.1 ∙ ap Some items.1;
      as_many = counted.0;
      each_stand = subst (EachStands StandsForSample items.0) same found.1;
      short = subst AreSamples same (values_all StandsForSample HasSample sample_one items.0 found.0 found.1 short.0);
    }

pub values_pass : (wanted : ℕ) (values : Option Data) (samples : List (Option ℤ)) → HasSamples values wanted samples → ValuesRows wanted values (Ok samples)
values_pass wanted values samples h =
    let numbers = each_wanted NumbersOrNulls StandsForNumber number_some h.items (all_wanted_given NumbersOrNulls StandsForSample sample_number h.items samples h.each_stand) in
    inl (array h.items, h.list, inl (h.items, refl, inl (h.as_many, inl (numbers.0, numbers.1, inl (samples, h.each_stand, inl (values_each StandsForSample HasSample h.items samples h.each_stand h.short, refl))))))
