-- Rows of axes have the computed answer, and no other.
use Rattle.std.specs.Prelude.{not, is_some, option_and_then, ◌==◌, ◌||◌, ◌&&◌, ⊤, int_le, int_div, unsigned_abs}
use Rattle.std.proofs.Common.{◌≡◌, if◌then◌else◌, ℕ, zero, suc, ◌-◌, ◌<◌, ℤ, pos, negsuc, ◌-ℤ◌, ◌*ℤ◌, List, [], ◌∷◌, length, reverse, All, Bool, true, false, Decides, Option, Some, None, Ok, Err, inl, inr, refl, sym, ap, ap₂, ◌∙◌, subst, arith, codes}
use Rattle.std.proofs.lemmas.Bool.{false≢true, true≢false, eqb-true, eq-eqb, leb-true, le-leb, and_parts, and_from}
use Rattle.std.proofs.lemmas.Int.{ints}
use Rattle.std.proofs.lemmas.List.{length-reverse}
use Rattle.serde_json.specs.Data.{Data, null, boolean, number, string, array, object, Items, no_items, item, Members, Num}
use Rattle.serde_json.specs.Find.{get, as_object, as_array, as_number, as_str, as_integer}
use Rattle.edr_base.specs.FirstThatApplies.{Check, Find, Gives, and_then, or_fault, check, With}
use Rattle.edr_base.specs.Limits.{coordinate_limit, node_limit, IsCoordinate}
use Rattle.edr_axes.specs.InstantComputed.{instant_of, InstantsAreRead}
use Rattle.edr_json.specs.Trees.{count_items, EachStands, StandsForWhole, whole_of, IsObject, IsText, IsNumber}
use Rattle.edr_json.specs.AnswerLaws.{and_then_ok, or_fault_ok, and_then_given, or_fault_given}
use Rattle.edr_json.specs.TreeLaws.{as_object_some}
use Rattle.covjson_value.specs.declared.domains.CoordinateName.{CoordinateName}
use Rattle.covjson_value.specs.declared.domains.CoordinateName.TheVariants.{T, Z, Y, X}
use Rattle.covjson_checks.specs.declared.faults.Member.{Member}
use Rattle.covjson_checks.specs.declared.faults.Member.TheVariants.{T as TimeAxis}
use Rattle.covjson_checks.specs.declared.faults.CovFault.{CovFault}
use Rattle.covjson_checks.specs.declared.faults.CovFault.TheVariants.{Missing, WrongType, NotWhole, OutOfRange, OutOfRangeAt, BadTime, NotMonotonic, WrongCount}
use Rattle.covjson_checks.specs.declared.members.Wanted.TheVariants.{Texts, Numbers, Wholes}
use Rattle.covjson_checks.specs.Answers.{Answer, each_from}
use Rattle.covjson_checks.specs.Members.{part, object_at, list_at, number_at, held_whole, is_within, whole_within, is_wanted, all_wanted}
use Rattle.covjson_checks.specs.CheckLaws.{all_wanted_given}
use Rattle.covjson_checks.specs.Places.{EachItem, HasValue, CheckEach}
use Rattle.covjson_checks.specs.PlaceLaws.{each_decides, values_had}
use Rattle.covjson_checks.specs.EachRows.{Outcome, check_each_answers, Found, outcome}
use Rattle.covjson_checks.specs.RowLaws.{HaveAnswer, Finds, option_finds, find_answers, check_answers, then_within, check_within, gives_answers, told, and_then_assoc, ok_fault, option_fault, check_fault, then_fault}
use Rattle.covjson_domains.specs.declared.axes.ReadAxis.{ReadAxis}
use Rattle.covjson_domains.specs.declared.domain_types.Presence.{Presence}
use Rattle.covjson_domains.specs.DomainTypes.{member_of, IsNeeded, IsSingle}
use Rattle.covjson_domains.specs.Axes.{StandsForTime, HasWhole, IsRegular}
use Rattle.covjson_domains.specs.RowWords.{IfFound}
use Rattle.covjson_domains.specs.AxisRows.{HasItems, IsTimeText, TimeRows, ListRows, HasNumber, HasWholeSteps, IsSpan, SpanRows, ListedRows, NumberRows, ValueRows, IsMonotonic, AxisRows}
use Rattle.covjson_domains.specs.TypeAnswers.{is_needed, is_single, left_out}
use Rattle.covjson_domains.specs.AxisAnswers.{has_some, value_items, coordinates, time_at, times_from, axis_times, number_in, has_whole_steps, is_span_within, regular, spanned, axis_numbers, axis_values, ascends, in_direction, need_count, axis_if}
use Rattle.covjson_domains.proofs.AscendLemmas.{ascends_tells, ascends_given}
use Rattle.covjson_domains.proofs.OrderTests.{at_most_given}
use Rattle.covjson_domains.proofs.SpanLemmas.{span_tells, whole_count}
use Rattle.covjson_domains.proofs.AxisWholeSteps.{reached, steps_given}
use Rattle.covjson_domains.proofs.AxisRegular.{regular_stands, regular_one}
use Rattle.covjson_domains.proofs.AxisLists.{value_items_stand, value_items_given, whole_wanted}
use Rattle.covjson_domains.proofs.AxisDirections.{read_as}
use Rattle.covjson_domains.proofs.DomainTypes.{needed_decides, single_decides}
use Rattle.covjson_domains.proofs.DomainAxes.{count_is, count_given, not_true, not_given}

-- ---- forms of rows

-- a value of which there is one, and the rows after it
pub with_answers : {V T : Type 0} (Is : V → Type 0) (Next : V → Answer T → Type 0) (value : V) (answer : Answer T) → Is value → ((other : V) → Is other → other ≡ value)
    → HaveAnswer (Next value) answer → HaveAnswer (With Is Next) answer
with_answers Is Next value answer is unique has = record {
  follows = (value, is, has.follows);
  only = λ other h. has.only other (subst (λ v. Next v other) (unique h.0 h.1) h.2);
}

-- ---- what stands is one

-- the values for which items stand are one list, where each item stands for one
pub each_one : {V : Type 0} (R : Data → V → Type 0) → ((d : Data) (v w : V) → R d v → R d w → v ≡ w) → (ds : Items) (vs ws : List V) → EachStands R ds vs → EachStands R ds ws → vs ≡ ws
each_one R one no_items [] [] h k = refl
each_one R one no_items (v ∷ vs) ws h k = absurd h
each_one R one no_items [] (w ∷ ws) h k = absurd k
each_one R one (item d ds) [] ws h k = absurd h
each_one R one (item d ds) (v ∷ vs) [] h k = absurd k
each_one R one (item d ds) (v ∷ vs) (w ∷ ws) h k = ap₂ ◌∷◌ (one d v w h.0 k.0) (each_one R one ds vs ws h.1 k.1)

-- the time of a text is one
pub time_one : InstantsAreRead → (d : Data) (t u : ℤ) → StandsForTime d t → StandsForTime d u → t ≡ u
time_one instants d t u h k =
    let texts : string h.0 ≡ string k.0 = sym h.1 ∙ k.1 in
    let same : h.0 ≡ k.0 = cc in
    let times : ◌≡◌ {A = Option ℤ} (Some t) (Some u) = sym ((instants h.0 t).1 h.2) ∙ ap instant_of same ∙ (instants k.0 u).1 k.2 in
    cc

-- and so is a whole number
pub whole_one : (d : Data) (v w : ℤ) → StandsForWhole d v → StandsForWhole d w → v ≡ w
whole_one d v w h k = let same : ◌≡◌ {A = Option ℤ} (Some v) (Some w) = sym h ∙ k in cc

-- ---- objects and items

-- an object is one
object_by : (d : Data) (o : Option Members) → as_object d ≡ o → Decides (is_some o) (IsObject d)
object_by d None is = (λ e. absurd (false≢true e), λ h. let e : ◌≡◌ {A = Option Members} (Some h.0) None = sym (ap as_object h.1) ∙ is in cc)
object_by d (Some ms) is = (λ e. (ms, as_object_some d ms is), λ h. refl)

-- where nothing more is asked of it, an object is a test
object_test : {T : Type 0} (m : Member) (o : Option Members) (next : Answer T) → and_then (or_fault o (WrongType m)) (λ _. next) ≡ and_then (check (is_some o) (WrongType m)) (λ _. next)
object_test m None next = refl
object_test m (Some ms) next = refl

-- a row that asks for an object
pub object_answers : {T : Type 0} (m : Member) (d : Data) (Next : Answer T → Type 0) (next : Answer T) → (IsObject d → HaveAnswer Next next)
    → HaveAnswer (Check (IsObject d) (WrongType m) Next) (and_then (object_at m d) (λ _. next))
object_answers m d Next next rows =
    subst (HaveAnswer (Check (IsObject d) (WrongType m) Next)) (sym (object_test m (as_object d) next))
    (check_answers (IsObject d) (WrongType m) Next (is_some (as_object d)) (λ _. next) (object_by d (as_object d) refl) rows)

-- some items are counted
some_counted : (ds : Items) → has_some ds ≡ true → 0 < count_items ds
some_counted no_items h = absurd (false≢true h)
some_counted (item d ds) h = omega arith

-- and what is counted is some
counted_some : (ds : Items) → 0 < count_items ds → has_some ds ≡ true
counted_some no_items h = absurd (omega arith)
counted_some (item d ds) h = refl

-- the items of an axis are found exactly where it has some
pub items_found : (m : Member) (axis : Data) → Finds (HasItems axis) (WrongType m) (value_items m axis)
items_found m axis = record {
  found = λ ds h. let stand = value_items_stand m axis ds h in record { list = stand.0; some = some_counted ds stand.1 };
  finds = λ ds h. value_items_given m axis ds h.list (counted_some ds h.some);
  none = then_fault (WrongType m) (part (codes "values") m axis) _ (option_fault (WrongType m) (get (codes "values") axis)) (λ list.
      then_fault (WrongType m) (list_at m list) _ (option_fault (WrongType m) (as_array list)) (λ ds.
      then_fault (WrongType m) (check (has_some ds) (WrongType m)) _ (check_fault (WrongType m) (has_some ds)) (λ _. ok_fault (WrongType m) ds)));
}

-- ---- times

-- texts
pub text_decides : (d : Data) → Decides (is_some (as_str d)) (IsText d)
text_decides null = (λ e. absurd (false≢true e), λ h. let e = h.1 in cc)
text_decides (boolean b) = (λ e. absurd (false≢true e), λ h. let e = h.1 in cc)
text_decides (number n) = (λ e. absurd (false≢true e), λ h. let e = h.1 in cc)
text_decides (string s) = (λ e. (s, refl), λ h. refl)
text_decides (array ds) = (λ e. absurd (false≢true e), λ h. let e = h.1 in cc)
text_decides (object ms) = (λ e. absurd (false≢true e), λ h. let e = h.1 in cc)

-- all of a list
texts_decide : (ds : Items) → Decides (all_wanted Texts ds) (EachItem IsText ds)
texts_decide ds = each_decides IsText (is_wanted Texts) (all_wanted Texts) refl (λ d es. refl) text_decides ds

-- the time of a text is found, or there is none
pub time_by : InstantsAreRead → (m : Member) (place : ℕ) (d : Data) (text : List ℕ) → d ≡ string text → (o : Option ℤ) → instant_of text ≡ o → Found BadTime StandsForTime IsTimeText place d (time_at m place d)
time_by instants m place d text is None none =
    inr (
      (λ h.
          let texts : string text ≡ string h.1.0 = sym is ∙ h.1.1 in
          let same : text ≡ h.1.0 = cc in
          let some : instant_of text ≡ Some h.0 = ap instant_of same ∙ (instants h.1.0 h.0).1 h.1.2 in
          let e : ◌≡◌ {A = Option ℤ} None (Some h.0) = sym none ∙ some in cc),
      rw (is, none) refl,
    )
time_by instants m place d text is (Some t) some =
    let stands : StandsForTime d t = (text, is, (instants text t).0 some) in
    inl (t, rw (is, some) refl, stands, (t, stands))

-- each of a list
pub times_outcome : InstantsAreRead → (ds : Items) → EachItem IsText ds → Outcome BadTime StandsForTime IsTimeText ds 0 (times_from 0 ds)
times_outcome instants ds texts =
    outcome BadTime (time_at TimeAxis) times_from IsText IsTimeText StandsForTime (λ place. refl) (λ place d es. refl)
    (λ place d text. time_by instants TimeAxis place d text.0 text.1 (instant_of text.0) refl) 0 ds texts

-- what follows of an answer without a check is the answer
only_then : {T : Type 0} (answer : Answer T) → and_then answer (λ x. Ok x) ≡ answer
only_then (Ok x) = refl
only_then (Err f) = refl

-- an axis of times
time_rows : InstantsAreRead → (axis : Data) → HaveAnswer (TimeRows axis) (axis_times axis)
time_rows instants axis =
    object_answers TimeAxis axis _ _ (λ is.
    find_answers (HasItems axis) (WrongType TimeAxis) _ (value_items TimeAxis axis) _ (items_found TimeAxis axis) (λ ds has.
    check_answers (EachItem IsText ds) (WrongType TimeAxis) _ (all_wanted Texts ds) _ (texts_decide ds) (λ texts.
    subst (HaveAnswer (CheckEach IsTimeText BadTime ds (With (EachStands StandsForTime ds) Gives))) (only_then (times_from 0 ds))
    (check_each_answers BadTime StandsForTime IsTimeText ds (With (EachStands StandsForTime ds) Gives) (times_from 0 ds) (λ ts. Ok ts) (times_outcome instants ds texts) (λ ts stand.
    with_answers (EachStands StandsForTime ds) Gives ts (Ok ts) stand (λ other also. each_one StandsForTime (time_one instants) ds other ts also stand) (gives_answers ts))))))

-- ---- listed numbers

-- numbers
pub number_decides : (d : Data) → Decides (is_some (as_number d)) (IsNumber d)
number_decides null = (λ e. absurd (false≢true e), λ h. let e = h.1 in cc)
number_decides (boolean b) = (λ e. absurd (false≢true e), λ h. let e = h.1 in cc)
number_decides (number n) = (λ e. (n, refl), λ h. refl)
number_decides (string s) = (λ e. absurd (false≢true e), λ h. let e = h.1 in cc)
number_decides (array ds) = (λ e. absurd (false≢true e), λ h. let e = h.1 in cc)
number_decides (object ms) = (λ e. absurd (false≢true e), λ h. let e = h.1 in cc)

-- all of a list
numbers_decide : (ds : Items) → Decides (all_wanted Numbers ds) (EachItem IsNumber ds)
numbers_decide ds = each_decides IsNumber (is_wanted Numbers) (all_wanted Numbers) refl (λ d es. refl) number_decides ds

-- what is there
pub there_is : {V : Type 0} (o : Option V) → is_some o ≡ true → (v : V) × (o ≡ Some v)
there_is None h = absurd (false≢true h)
there_is (Some v) h = (v, refl)

-- whole numbers
wholes_there : (ds : Items) → all_wanted Wholes ds ≡ true → (vs : List ℤ) × EachStands StandsForWhole ds vs
wholes_there no_items h = ([], tt)
wholes_there (item d ds) h =
    let parts = and_parts (is_wanted Wholes d) (all_wanted Wholes ds) h in
    let here = there_is (whole_of d) parts.0 in
    let later = wholes_there ds parts.1 in
    (here.0 ∷ later.0, (here.1, later.1))

-- the whole number of an item is within the limit, or its place is the fault
whole_by : (m : Member) (place : ℕ) (d : Data) (v : ℤ) → whole_of d ≡ Some v → (b : Bool) → is_within coordinate_limit v ≡ b
    → Found (OutOfRangeAt m) StandsForWhole (HasValue StandsForWhole IsCoordinate) place d (if b then Ok v else Err (OutOfRangeAt m place))
whole_by m place d v stands true within = inl (v, refl, stands, (v, stands, leb-true (unsigned_abs v) coordinate_limit within))
whole_by m place d v stands false beyond =
    inr (
      (λ has.
          let within : is_within coordinate_limit v ≡ true = le-leb (unsigned_abs v) coordinate_limit (subst IsCoordinate (whole_one d has.0 v has.1 stands) has.2) in
          true≢false (sym within ∙ beyond)),
      refl,
    )

-- one by one, a whole number is tested
whole_tested : (m : Member) (place : ℕ) (d : Data) (v : ℤ) → whole_of d ≡ Some v
    → whole_within m coordinate_limit place d ≡ (if is_within coordinate_limit v then Ok v else Err (OutOfRangeAt m place))
whole_tested m place null v h = cc
whole_tested m place (boolean b) v h = cc
whole_tested m place (number n) v h = rw h refl
whole_tested m place (string s) v h = cc
whole_tested m place (array ds) v h = cc
whole_tested m place (object ms) v h = cc

whole_found_at : (m : Member) (place : ℕ) (d : Data) → (v : ℤ) × StandsForWhole d v
    → Found (OutOfRangeAt m) StandsForWhole (HasValue StandsForWhole IsCoordinate) place d (whole_within m coordinate_limit place d)
whole_found_at m place d has =
    subst (Found (OutOfRangeAt m) StandsForWhole (HasValue StandsForWhole IsCoordinate) place d) (sym (whole_tested m place d has.0 has.1))
    (whole_by m place d has.0 has.1 (is_within coordinate_limit has.0) refl)

-- the row of the limit
limit_row : (m : Member) (ds : Items) (vs : List ℤ) → EachStands StandsForWhole ds vs
    → HaveAnswer (CheckEach (HasValue StandsForWhole IsCoordinate) (OutOfRangeAt m) ds (Gives vs)) (each_from (whole_within m coordinate_limit) 0 ds)
limit_row m ds vs stand =
    let Within = HasValue StandsForWhole IsCoordinate in
    let run = each_from (whole_within m coordinate_limit) in
    let found = outcome (OutOfRangeAt m) (whole_within m coordinate_limit) run (λ d. (v : ℤ) × StandsForWhole d v) Within StandsForWhole (λ place. refl) (λ place d es. refl)
    (whole_found_at m) 0 ds (values_had StandsForWhole ds vs stand) in
    subst (HaveAnswer (CheckEach Within (OutOfRangeAt m) ds (Gives vs))) (only_then (run 0 ds))
    (check_each_answers (OutOfRangeAt m) StandsForWhole Within ds (Gives vs) (run 0 ds) (λ ws. Ok ws) found (λ ws also.
    subst (λ (us : List ℤ). HaveAnswer {F = CovFault} (Gives vs) (Ok us)) (each_one StandsForWhole whole_one ds vs ws stand also) (gives_answers vs)))

-- the rows of whole numbers
abbrev WholeRows : Member → Items → Answer (List ℤ) → Type 0
WholeRows m ds = Find (EachStands StandsForWhole ds) (NotWhole m) (λ values. CheckEach (HasValue StandsForWhole IsCoordinate) (OutOfRangeAt m) ds (Gives values))

whole_rows : (m : Member) (ds : Items) (b : Bool) → all_wanted Wholes ds ≡ b → HaveAnswer (WholeRows m ds) (and_then (check b (NotWhole m)) (λ _. each_from (whole_within m coordinate_limit) 0 ds))
whole_rows m ds true all =
    let vs = wholes_there ds all in
    let has = limit_row m ds vs.0 vs.1 in
    record {
      follows = inl (vs.0, vs.1, has.follows);
      only = λ other h. elim h [
        | inl w ↦ has.only other (subst (λ (ws : List ℤ). CheckEach (HasValue StandsForWhole IsCoordinate) (OutOfRangeAt m) ds (Gives ws) other) (each_one StandsForWhole whole_one ds w.0 vs.0 w.1 vs.1) w.2)
        | inr w ↦ absurd (w.0 vs.0 vs.1)
      ];
    }
whole_rows m ds false all =
    let gone : (vs : List ℤ) → EachStands StandsForWhole ds vs → ⊥ = λ vs stand. true≢false (sym (all_wanted_given Wholes StandsForWhole whole_wanted ds vs stand) ∙ all) in
    record {
      follows = inr (gone, refl);
      only = λ other h. elim h [ inl w ↦ absurd (gone w.0 w.1) | inr w ↦ w.1 ];
    }

-- an axis of listed numbers
list_rows : (m : Member) (axis : Data) → HaveAnswer (ListRows m axis) (coordinates m axis)
list_rows m axis =
    find_answers (HasItems axis) (WrongType m) _ (value_items m axis) _ (items_found m axis) (λ ds has.
    check_answers (EachItem IsNumber ds) (WrongType m) _ (all_wanted Numbers ds) _ (numbers_decide ds) (λ numbers.
    whole_rows m ds (all_wanted Wholes ds) refl))

-- ---- spanned numbers

-- what is taken for a number is one
as_number_some : (d : Data) (n : Num) → as_number d ≡ Some n → d ≡ number n
as_number_some null n h = cc
as_number_some (boolean b) n h = cc
as_number_some (number k) n h = cc
as_number_some (string s) n h = cc
as_number_some (array ds) n h = cc
as_number_some (object ms) n h = cc

-- a member that is a number
number_found : (m : Member) (key : List ℕ) (axis : Data) → Finds (HasNumber key axis) (WrongType m) (number_in key m axis)
number_found m key axis = record {
  found = λ n h.
      let d = and_then_ok (part key m axis) (number_at m) n h in
      or_fault_ok (get key axis) (WrongType m) d.0 d.1 ∙ ap Some (as_number_some d.0 n (or_fault_ok (as_number d.0) (WrongType m) n d.2));
  finds = λ n h. and_then_given (part key m axis) (number_at m) (number n) (Ok n) (or_fault_given (get key axis) (WrongType m) (number n) h) refl;
  none = then_fault (WrongType m) (part key m axis) (number_at m) (option_fault (WrongType m) (get key axis)) (λ d. option_fault (WrongType m) (as_number d));
}

-- and is whole
whole_found : (m : Member) (key : List ℕ) (axis : Data) (n : Num) → HasNumber key axis n → Finds (HasWhole key axis) (NotWhole m) (held_whole m n)
whole_found m key axis n has =
    let same : option_and_then whole_of (get key axis) ≡ as_integer n = ap (option_and_then whole_of) has in
    option_finds (HasWhole key axis) (NotWhole m) (as_integer n) (λ v h. same ∙ h) (λ v h. sym same ∙ h)

-- whether values lie in equal whole steps
steps_decide : (first last count : ℤ) → Decides (has_whole_steps first last count) (HasWholeSteps first last count)
steps_decide first last (pos zero) = (λ e some. absurd (omega (arith, ints, some)), λ h. refl)
steps_decide first last (pos (suc n)) =
    let count = suc n in
    let less : pos count -ℤ pos 1 ≡ pos (count - 1) = omega (arith, ints) in (
      λ e some. (int_div (last -ℤ first) (pos (count - 1)), subst (λ (d : ℤ). int_div (last -ℤ first) (pos (count - 1)) *ℤ d ≡ last -ℤ first) (sym less) (reached first last count (omega arith) e)),
      λ h.
          let step = h (omega (arith, ints)) in
          steps_given first last step.0 count (omega arith) (subst (λ (d : ℤ). step.0 *ℤ d ≡ last -ℤ first) less step.1),
    )
steps_decide first last (negsuc n) = (λ e some. absurd (omega (arith, ints, some)), λ h. refl)

-- whether the bounds of a span are within their limits
span_given : (first last count : ℤ) → IsSpan first last count → is_span_within first last count ≡ true
span_given first last count s =
    and_from (is_within coordinate_limit first && is_within coordinate_limit last && int_le (pos 1) count) (int_le count (pos node_limit))
    (and_from (is_within coordinate_limit first && is_within coordinate_limit last) (int_le (pos 1) count)
    (and_from (is_within coordinate_limit first) (is_within coordinate_limit last) (le-leb (unsigned_abs first) coordinate_limit s.first_in) (le-leb (unsigned_abs last) coordinate_limit s.last_in))
    (at_most_given (pos 1) count s.some)) (at_most_given count (pos node_limit) s.few)

-- the values of a span that passed
regular_there : (first last count : ℤ) → HasWholeSteps first last count → IsSpan first last count → IsRegular first last (unsigned_abs count) (regular first last (unsigned_abs count))
regular_there first last count steps s =
    let whole : pos (unsigned_abs count) ≡ count = whole_count count s.some in
    let even : has_whole_steps first last (pos (unsigned_abs count)) ≡ true = ap (has_whole_steps first last) whole ∙ (steps_decide first last count).1 steps in
    let some = s.some in
    regular_stands first last (unsigned_abs count) (omega (arith, ints, whole, some)) even

-- an axis of spanned numbers
span_rows : (m : Member) (axis : Data) → HaveAnswer (SpanRows m axis) (spanned m axis)
span_rows m axis =
    find_answers (HasNumber (codes "start") axis) (WrongType m) _ (number_in (codes "start") m axis) _ (number_found m (codes "start") axis) (λ start has_start.
    find_answers (HasNumber (codes "stop") axis) (WrongType m) _ (number_in (codes "stop") m axis) _ (number_found m (codes "stop") axis) (λ stop has_stop.
    find_answers (HasNumber (codes "num") axis) (WrongType m) _ (number_in (codes "num") m axis) _ (number_found m (codes "num") axis) (λ num has_num.
    find_answers (HasWhole (codes "start") axis) (NotWhole m) _ (held_whole m start) _ (whole_found m (codes "start") axis start has_start) (λ first is_first.
    find_answers (HasWhole (codes "stop") axis) (NotWhole m) _ (held_whole m stop) _ (whole_found m (codes "stop") axis stop has_stop) (λ last is_last.
    find_answers (HasWhole (codes "num") axis) (NotWhole m) _ (held_whole m num) _ (whole_found m (codes "num") axis num has_num) (λ count is_count.
    check_answers (HasWholeSteps first last count) (NotWhole m) _ (has_whole_steps first last count) _ (steps_decide first last count) (λ steps.
    check_answers (IsSpan first last count) (OutOfRange m) _ (is_span_within first last count) _ (span_tells first last count, span_given first last count) (λ span.
    let values = regular first last (unsigned_abs count) in
    let there = regular_there first last count steps span in
    with_answers (IsRegular first last (unsigned_abs count)) Gives values (Ok values) there (λ other also. regular_one first last (unsigned_abs count) other values also there) (gives_answers values)))))))))

-- ---- an axis

-- numbers, listed or spanned
listed_rows : (m : Member) (axis : Data) (o : Option Data) → HaveAnswer (ListedRows m axis o) (if is_some o then coordinates m axis else spanned m axis)
listed_rows m axis (Some list) = list_rows m axis
listed_rows m axis None = span_rows m axis

number_rows : (m : Member) (axis : Data) → HaveAnswer (NumberRows m axis) (axis_numbers m axis)
number_rows m axis = object_answers m axis _ _ (λ is. listed_rows m axis (get (codes "values") axis))

-- the values of an axis of any name
value_rows : InstantsAreRead → (name : CoordinateName) (axis : Data) → HaveAnswer (ValueRows name axis) (axis_values name axis)
value_rows instants T axis = time_rows instants axis
value_rows instants Z axis = number_rows (member_of Z) axis
value_rows instants Y axis = number_rows (member_of Y) axis
value_rows instants X axis = number_rows (member_of X) axis

-- whether there are as many as are wanted
count_decides : (wanted : Presence) (count : ℕ) → Decides (not (is_single wanted) || count == 1) (IsSingle wanted → count ≡ 1)
count_decides wanted count = (
  λ e single. eqb-true count 1 (count_is (is_single wanted) (count == 1) e ((single_decides wanted).1 single)),
  λ h. count_given (is_single wanted) (count == 1) (λ e. eq-eqb count 1 (h ((single_decides wanted).0 e))),
)

-- the rows of a count
abbrev CountRows : Presence → CoordinateName → ℕ → Answer ⊤ → Type 0
CountRows wanted name count = Check (IsSingle wanted → count ≡ 1) (WrongCount (member_of name) 1 count) (Gives tt)

count_row : (wanted : Presence) (name : CoordinateName) (read : ReadAxis) (count : ℕ) → length read.axis ≡ count
    → HaveAnswer (CountRows wanted name count) (told (and_then (need_count wanted name read) (λ _. Ok (Some read))))
count_row wanted name read count is =
    let fault : ℕ → CovFault = λ n. WrongCount (member_of name) 1 n in
    let Goal : ℕ → Type 0 = λ n. HaveAnswer (CountRows wanted name count) (told (and_then (check (not (is_single wanted) || n == 1) (fault n)) (λ _. Ok (Some read)))) in
    subst Goal (sym is) (check_within (IsSingle wanted → count ≡ 1) (fault count) (Gives tt) (not (is_single wanted) || count == 1) (λ _. Ok (Some read)) (λ _. Ok tt) (count_decides wanted count) (λ h. gives_answers tt))

-- the rows of an order
abbrev OrderRows : Presence → CoordinateName → List ℤ → Answer ⊤ → Type 0
OrderRows wanted name values = Check (IsMonotonic values) (NotMonotonic (member_of name)) (CountRows wanted name (length values))

-- what is left of an axis whose values are read
abbrev rest_of : Presence → CoordinateName → Answer ReadAxis → Answer ⊤
rest_of wanted name answer = told (and_then answer (λ read. and_then (need_count wanted name read) (λ _. Ok (Some read))))

order_row : (wanted : Presence) (name : CoordinateName) (values : List ℤ) (b c : Bool) → ascends values ≡ b → ascends (reverse values) ≡ c
    → HaveAnswer (OrderRows wanted name values) (rest_of wanted name (if b then Ok (read_as values false) else if c then Ok (read_as (reverse values) true) else Err (NotMonotonic (member_of name))))
order_row wanted name values true c rises other =
    let mono : IsMonotonic values = inl (ascends_tells values rises) in
    let has = count_row wanted name (read_as values false) (length values) refl in
    record {
      follows = inl (mono, has.follows);
      only = λ answer h. elim h [ inl w ↦ has.only answer w.1 | inr w ↦ absurd (w.0 mono) ];
    }
order_row wanted name values false true falls rises =
    let mono : IsMonotonic values = inr (ascends_tells (reverse values) rises) in
    let has = count_row wanted name (read_as (reverse values) true) (length values) (length-reverse values) in
    record {
      follows = inl (mono, has.follows);
      only = λ answer h. elim h [ inl w ↦ has.only answer w.1 | inr w ↦ absurd (w.0 mono) ];
    }
order_row wanted name values false false falls too =
    let gone : ¬ (IsMonotonic values) = λ mono. elim mono [
      | inl up ↦ true≢false (sym (ascends_given values up) ∙ falls)
      | inr down ↦ true≢false (sym (ascends_given (reverse values) down) ∙ too)
    ] in
    record {
      follows = inr (gone, refl);
      only = λ answer h. elim h [ inl w ↦ absurd (gone w.0) | inr w ↦ w.1 ];
    }

-- an axis that is found
pub axis_rows : InstantsAreRead → (wanted : Presence) (name : CoordinateName) (axis : Data) → HaveAnswer (AxisRows wanted name axis) (told (axis_if wanted name (Some axis)))
axis_rows instants wanted name axis =
    let direct = in_direction (member_of name) in
    let count = λ (read : ReadAxis). and_then (need_count wanted name read) (λ _. Ok (Some read)) in
    let nested = and_then_assoc (axis_values name axis) direct count in
    subst (λ a. HaveAnswer (AxisRows wanted name axis) (told a)) (sym nested)
    (then_within (ValueRows name axis) _ (axis_values name axis) _ _ (value_rows instants name axis) (λ values is.
    order_row wanted name values (ascends values) (ascends (reverse values)) refl refl))

-- ---- an axis that may be left out

-- whether it may
out_decides : (wanted : Presence) → Decides (not (is_needed wanted)) (¬ (IsNeeded wanted))
out_decides wanted = (
  λ e need. absurd (not_true (is_needed wanted) e ((needed_decides wanted).1 need)),
  λ h. not_given (is_needed wanted) (λ e. h ((needed_decides wanted).0 e)),
)

-- nothing where it isn't found
pub out_row : {V : Type 0} (wanted : Presence) (m : Member) (value : V) → HaveAnswer (Check (¬ (IsNeeded wanted)) (Missing m) (Gives tt)) (told (and_then (left_out wanted m) (λ _. Ok value)))
out_row wanted m value =
    check_within (¬ (IsNeeded wanted)) (Missing m) (Gives tt) (not (is_needed wanted)) (λ _. Ok value) (λ _. Ok tt) (out_decides wanted) (λ h. gives_answers tt)

-- an axis, found or not
pub axis_if_rows : InstantsAreRead → (wanted : Presence) (name : CoordinateName) (found : Option Data)
    → HaveAnswer (IfFound wanted (member_of name) found (AxisRows wanted name)) (told (axis_if wanted name found))
axis_if_rows instants wanted name None =
    let none : Option ReadAxis = None in
    out_row wanted (member_of name) none
axis_if_rows instants wanted name (Some axis) = axis_rows instants wanted name axis
