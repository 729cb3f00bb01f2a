-- The axes of a tree, as a domain type wants them: what is read of them stands for them.
use Rattle.std.specs.Prelude.{not, ◌==◌, ◌||◌, ⊤}
use Rattle.std.proofs.Common.{◌≡◌, ℤ, Bool, true, false, true≢false, List, length, Option, Some, None, inl, inr, Ok, refl, sym, ◌∙◌, subst}
use Rattle.std.proofs.lemmas.Bool.{false≢true, eqb-true, eq-eqb, cases_Bool}
use Rattle.serde_json.specs.Data.{Data}
use Rattle.edr_axes.specs.InstantComputed.{InstantsAreRead}
use Rattle.edr_json.specs.AnswerLaws.{and_then_ok, and_then_given, check_ok, check_given}
use Rattle.covjson_value.specs.declared.domains.CoordinateName.{CoordinateName}
use Rattle.covjson_checks.specs.declared.faults.Member.{Member}
use Rattle.covjson_checks.specs.declared.faults.CovFault.TheVariants.{Missing, WrongCount}
use Rattle.covjson_domains.specs.declared.axes.ReadAxis.{ReadAxis}
use Rattle.covjson_domains.specs.declared.domain_types.Presence.{Presence}
use Rattle.covjson_domains.specs.Axes.{HasSameAxis}
use Rattle.covjson_domains.specs.DomainTypes.{member_of}
use Rattle.covjson_domains.specs.TypeAnswers.{is_allowed, is_needed, is_single, left_out}
use Rattle.covjson_domains.specs.AxisAnswers.{axis_read, need_count, axis_if}
use Rattle.covjson_domains.specs.DomainAnswers.{is_turned_round, axis_in}
use Rattle.covjson_domains.proofs.AxisLaws.{axis_stands, axis_answers}
use Rattle.covjson_domains.proofs.DomainTypes.{Fits}

-- ---- counts and what is left out

-- a count is 1 where a single value is wanted
pub count_is : (wanted : Bool) (count : Bool) → (not wanted || count) ≡ true → wanted ≡ true → count ≡ true
count_is true count h e = h
count_is false count h e = absurd (false≢true e)

-- and then it is the wanted one
pub count_given : (wanted : Bool) (count : Bool) → (wanted ≡ true → count ≡ true) → (not wanted || count) ≡ true
count_given true count h = h refl
count_given false count h = refl

-- what isn't is not
pub not_true : (b : Bool) → not b ≡ true → b ≡ true → ⊥
not_true true h e = false≢true h
not_true false h e = false≢true e

-- where nothing is missing nothing is needed
pub not_missing : (wanted : Presence) (m : Member) (x : ⊤) → left_out wanted m ≡ Ok x → is_needed wanted ≡ true → ⊥
not_missing wanted m x h e = not_true (is_needed wanted) (check_ok (not (is_needed wanted)) (Missing m) x h) e

-- and what can't be isn't
pub not_given : (b : Bool) → (b ≡ true → ⊥) → not b ≡ true
not_given true h = absurd (h refl)
not_given false h = refl

-- nothing is missing where nothing is needed
pub left_out_given : (wanted : Presence) (values : Option (List ℤ)) → values ≡ None → Fits wanted values → not (is_needed wanted) ≡ true
left_out_given wanted None none fits = not_given (is_needed wanted) (λ e. false≢true (fits.needed e))
left_out_given wanted (Some vs) none fits = cc

-- ---- one axis

-- what was read of an axis by what its type wants
pub record IsRead (wanted : Presence) (name : CoordinateName) (found : Option Data) (read : Option ReadAxis) : Type 0 where
  pub same : HasSameAxis name found (is_turned_round read) (axis_in read)
  pub fits : Fits wanted (axis_in read)

-- none
read_none : (wanted : Presence) (name : CoordinateName) → axis_if wanted name None ≡ Ok None → IsRead wanted name None None
read_none wanted name h =
    let a = and_then_ok (left_out wanted (member_of name)) _ None h in record {
      same = refl;
      fits = record { needed = λ e. absurd (not_missing wanted (member_of name) a.0 a.1 e); single = λ e. tt; absent = λ e. refl };
    }

-- one
read_some : InstantsAreRead → (wanted : Presence) (name : CoordinateName) (axis : Data) (r : ReadAxis) → is_allowed wanted ≡ true → axis_read name axis ≡ Ok r
    → need_count wanted name r ≡ Ok tt → IsRead wanted name (Some axis) (Some r)
read_some instants wanted name axis r allowed h count = record {
  same = axis_stands instants name axis r h;
  fits = record {
    needed = λ e. refl;
    single = λ e. eqb-true (length r.axis) 1 (count_is (is_single wanted) (length r.axis == 1) (check_ok _ (WrongCount (member_of name) 1 (length r.axis)) tt count) e);
    absent = λ e. absurd (true≢false (sym allowed ∙ e));
  };
}

-- an axis that is there may be there
there : (wanted : Presence) (axis : Data) → (is_allowed wanted ≡ false → ◌≡◌ {A = Option Data} (Some axis) None) → is_allowed wanted ≡ true
there wanted axis only = elim (cases_Bool (is_allowed wanted)) [
  | inl here ↦ here
  | inr not ↦ let e = only not in cc
]

-- what was read of an axis stands there, and is as it is wanted
pub axis_if_stands : InstantsAreRead → (wanted : Presence) (name : CoordinateName) (found : Option Data) (read : Option ReadAxis) → (is_allowed wanted ≡ false → found ≡ None)
    → axis_if wanted name found ≡ Ok read → IsRead wanted name found read
axis_if_stands instants wanted name None None only h = read_none wanted name h
axis_if_stands instants wanted name None (Some r) only h =
    let a = and_then_ok (left_out wanted (member_of name)) _ (Some r) h in
    let e = a.2 in cc
axis_if_stands instants wanted name (Some axis) None only h =
    let a = and_then_ok (axis_read name axis) _ None h in
    let c = and_then_ok (need_count wanted name a.0) _ None a.2 in
    let e = c.2 in cc
axis_if_stands instants wanted name (Some axis) (Some r) only h =
    let a = and_then_ok (axis_read name axis) _ (Some r) h in
    let c = and_then_ok (need_count wanted name a.0) _ (Some r) a.2 in
    let same : a.0 ≡ r = let e = c.2 in cc in
    let allowed : is_allowed wanted ≡ true = there wanted axis only in
    let here : IsRead wanted name (Some axis) (Some a.0) = read_some instants wanted name axis a.0 allowed a.1 c.1 in
    subst (λ (q : ReadAxis). IsRead wanted name (Some axis) (Some q)) same here

-- values that were turned, or not
abbrev pub read_as : Bool → Option (List ℤ) → Option ReadAxis
read_as turned None = None
read_as turned (Some values) = Some (record { axis = values; turned = turned })

-- what stands there as it is wanted is read
pub axis_if_answers : InstantsAreRead → (wanted : Presence) (name : CoordinateName) (found : Option Data) (turned : Bool) (values : Option (List ℤ))
    → HasSameAxis name found turned values → Fits wanted values → axis_if wanted name found ≡ Ok (read_as turned values)
axis_if_answers instants wanted name None turned None same fits =
    and_then_given (left_out wanted (member_of name)) _ tt _ (check_given (not (is_needed wanted)) _ (left_out_given wanted None refl fits)) refl
axis_if_answers instants wanted name None turned (Some values) same fits = absurd same
axis_if_answers instants wanted name (Some axis) turned None same fits = absurd same
axis_if_answers instants wanted name (Some axis) turned (Some values) same fits =
    let r : ReadAxis = record { axis = values; turned = turned } in
    and_then_given (axis_read name axis) _ r _ (axis_answers instants name axis turned values same)
    (and_then_given (need_count wanted name r) _ tt _
    (check_given (not (is_single wanted) || length values == 1) _ (count_given (is_single wanted) (length values == 1) (λ e. eq-eqb (length values) 1 (fits.single e)))) refl)

-- whether an axis that stands there was turned
pub same_turned : (name : CoordinateName) (found : Option Data) (turned : Bool) (values : Option (List ℤ)) → HasSameAxis name found turned values → is_turned_round (read_as turned values) ≡ turned
same_turned name None turned None same = sym same
same_turned name None turned (Some values) same = absurd same
same_turned name (Some axis) turned None same = absurd same
same_turned name (Some axis) turned (Some values) same = refl

-- its values are those that are read
pub same_values : (turned : Bool) (values : Option (List ℤ)) → axis_in (read_as turned values) ≡ values
same_values turned None = refl
same_values turned (Some values) = refl

-- an axis that the domain hasn't isn't in the tree
pub none_there : (name : CoordinateName) (found : Option Data) (turned : Bool) (values : Option (List ℤ)) → HasSameAxis name found turned values → values ≡ None → found ≡ None
none_there name None turned values same none = refl
none_there name (Some axis) turned None same none = absurd same
none_there name (Some axis) turned (Some values) same none = cc
