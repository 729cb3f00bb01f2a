-- Tests of the items of a list, and what they tell of the items by their places.
use Rattle.std.proofs.Common.{◌≡◌, ℕ, zero, suc, ◌<◌, Bool, true, false, if◌then◌else◌, Option, Some, None, List, refl, sym, ap, ◌∙◌, subst, arith, inl, inr}
use Rattle.std.proofs.lemmas.Bool.{and_parts, and_from, or_cases, or_left, or_right}
use Rattle.std.proofs.lemmas.Slice.Eq.{bytes_eq-Decides}
use Rattle.serde_json.specs.Data.{Data, string, Items, no_items, item}
use Rattle.serde_json.specs.Find.{as_str}
use Rattle.edr_json.specs.Trees.{item_at, is_text}
use Rattle.edr_json.specs.TreeLaws.{as_str_some}
use Rattle.covjson_checks.specs.Places.{IsAmong, EachItem, NoItem, IsFirstItem}
use Rattle.covjson_checks.specs.PlaceLaws.{first_is, none_before, first_here, first_later}
use Rattle.covjson_read.specs.SystemAnswers.{all_that, first_that, has_text}

-- the test is passed by exactly those that are so
pub record Tells (test : Data → Bool) (Is : Data → Type 0) : Type 0 where
  pub tells : (d : Data) → test d ≡ true → Is d
  pub passes : (d : Data) → Is d → test d ≡ true

false_of : (b : Bool) → ¬ (b ≡ true) → b ≡ false
false_of true h = absurd (h refl)
false_of false h = refl

module _ (test : Data → Bool) (Is : Data → Type 0) (t : Tells test Is) where
  -- ---- each item

  all_at : (ds : Items) → all_that test ds ≡ true → (place : ℕ) (d : Data) → item_at ds place ≡ Some d → Is d
  all_at no_items h place d at = cc
  all_at (item e ds) h zero d at =
      let same : e ≡ d = cc in
      subst Is same (t.tells e (and_parts (test e) (all_that test ds) h).0)
  all_at (item e ds) h (suc place) d at = all_at ds (and_parts (test e) (all_that test ds) h).1 place d at

  pub all_tells : (ds : Items) → all_that test ds ≡ true → EachItem Is ds
  all_tells ds h d among = all_at ds h among.0 d among.1

  pub all_passes : (ds : Items) → EachItem Is ds → all_that test ds ≡ true
  all_passes no_items each = refl
  all_passes (item d ds) each =
      and_from (test d) (all_that test ds) (t.passes d (each d (0, refl))) (all_passes ds (λ e among. each e (suc among.0, among.1)))

  -- ---- the first that is so

  fails : (d : Data) → ¬ (Is d) → test d ≡ false
  fails d not = false_of (test d) (λ h. not (t.tells d h))

  first_by : (b : Bool) (d : Data) (ds : Items) (first : Data) → test d ≡ b → (first_that test ds ≡ Some first → IsFirstItem Is ds first)
      → (if b then Some d else first_that test ds) ≡ Some first → IsFirstItem Is (item d ds) first
  first_by true d ds first passed rest h =
      let same : d ≡ first = cc in
      subst (IsFirstItem Is (item d ds)) same (first_here Is d ds (t.tells d passed))
  first_by false d ds first passed rest h =
      let not : Is d → ⊥ = λ is. let e = t.passes d is in cc in
      first_later Is d ds first not (rest h)

  pub first_tells : (ds : Items) (first : Data) → first_that test ds ≡ Some first → IsFirstItem Is ds first
  first_tells no_items first h = cc
  first_tells (item d ds) first h = first_by (test d) d ds first refl (first_tells ds first) h

  first_at : (ds : Items) (place : ℕ) (first : Data) → item_at ds place ≡ Some first → Is first
      → ((earlier : ℕ) (other : Data) → earlier < place → item_at ds earlier ≡ Some other → ¬ (Is other)) → first_that test ds ≡ Some first
  first_at no_items place first at is none = cc
  first_at (item d ds) zero first at is none =
      let same : d ≡ first = cc in
      rw (t.passes d (subst Is (sym same) is)) at
  first_at (item d ds) (suc place) first at is none =
      rw (fails d (none 0 d (omega arith) refl)) (first_at ds place first at is (λ earlier other below here. none (suc earlier) other (omega arith) here))

  pub first_passes : (ds : Items) (first : Data) → IsFirstItem Is ds first → first_that test ds ≡ Some first
  first_passes ds first f = first_at ds f.place first f.here (first_is Is ds first f) (none_before Is ds first f)

  -- ---- where none is

  none_by : (b : Bool) (d : Data) (ds : Items) → test d ≡ b → (first_that test ds ≡ None → NoItem Is ds)
      → (if b then Some d else first_that test ds) ≡ None → (place : ℕ) (e : Data) → item_at (item d ds) place ≡ Some e → ¬ (Is e)
  none_by true d ds passed rest h place e at is = cc
  none_by false d ds passed rest h zero e at is = let same : d ≡ e = cc in let p = t.passes e is in cc
  none_by false d ds passed rest h (suc place) e at is = rest h e (place, at) is

  pub none_tells : (ds : Items) → first_that test ds ≡ None → NoItem Is ds
  none_tells no_items h e among is = let at : None ≡ Some e = among.1 in cc
  none_tells (item d ds) h e among is = none_by (test d) d ds refl (none_tells ds) h among.0 e among.1 is

  pub none_passes : (ds : Items) → NoItem Is ds → first_that test ds ≡ None
  none_passes no_items none = refl
  none_passes (item d ds) none = rw (fails d (none d (0, refl))) (none_passes ds (λ e among. none e (suc among.0, among.1)))

-- ---- texts among the items

text_tells : (text : List ℕ) (d : Data) (o : Option (List ℕ)) → as_str d ≡ o → is_text text o ≡ true → d ≡ string text
text_tells text d None found h = cc
text_tells text d (Some s) found h = as_str_some d s found ∙ ap string ((bytes_eq-Decides s text).0 h)

has_by : (text : List ℕ) (d : Data) (ds : Items) → (has_text text ds ≡ true → IsAmong (string text) ds) → has_text text (item d ds) ≡ true → IsAmong (string text) (item d ds)
has_by text d ds rest h = elim (or_cases (is_text text (as_str d)) (has_text text ds) h) [
  | inl here ↦ (0, ap Some (text_tells text d (as_str d) refl here))
  | inr there ↦ let r = rest there in (suc r.0, r.1)
]

pub has_tells : (text : List ℕ) (ds : Items) → has_text text ds ≡ true → IsAmong (string text) ds
has_tells text no_items h = cc
has_tells text (item d ds) h = has_by text d ds (has_tells text ds) h

has_at : (text : List ℕ) (ds : Items) (place : ℕ) → item_at ds place ≡ Some (string text) → has_text text ds ≡ true
has_at text no_items place at = cc
has_at text (item d ds) zero at =
    let same : d ≡ string text = cc in
    or_left (is_text text (as_str d)) (has_text text ds) (rw same ((bytes_eq-Decides text text).1 refl))
has_at text (item d ds) (suc place) at = or_right (is_text text (as_str d)) (has_text text ds) (has_at text ds place at)

pub has_passes : (text : List ℕ) (ds : Items) → IsAmong (string text) ds → has_text text ds ≡ true
has_passes text ds among = has_at text ds among.0 among.1
