-- Values in the order of the domain's axes.
use Rattle.std.proofs.Common.{◌≡◌, inl, inr, ℕ, zero, suc, ◌<◌, ℤ, false, List, [], ◌∷◌, length, get_or, All, Option, None, refl, sym, ap, ◌∙◌, subst, arith}
use Rattle.std.proofs.lemmas.Bool.{cases_lt}
use Rattle.std.proofs.lemmas.List.{get_or_append_left, get_or_push, get_or_default, get_or-map, ext_get_or, length-map, length_push}
use Rattle.covjson_value.specs.declared.domains.Domain.{Domain}
use Rattle.covjson_value.specs.Domains.{count_of}
use Rattle.covjson_checks.specs.declared.turned.Turned.{Turned}
use Rattle.covjson_ranges.specs.declared.places.Places.{Places}
use Rattle.covjson_value.specs.declared.axis_names.AxisName.{AxisName}
use Rattle.covjson_ranges.specs.Ranges.{length_of, is_named, AreInside, number_of, tree_number, AreRangeAxes, AreInOrder}
use Rattle.covjson_ranges.specs.Orders.{below, places_at, value_in_tree, ordered, IsUsual, IsUnturned}
use Rattle.covjson_ranges.proofs.KeptAxes.{kept, kept_number_of}
use Rattle.covjson_ranges.proofs.PlaceLemmas.{number_inside, tree_number_once, tree_number_inside, places_at_inside, places_at_number}

-- ---- the numbers below a bound

-- as many as that
pub length-below : (n : ℕ) → length (below n) ≡ n
length-below zero = refl
length-below (suc n) = omega (arith, length_push (below n) n, length-below n)

-- each at its own place
pub get_or-below : (n k d : ℕ) → k < n → get_or (below n) k d ≡ k
get_or-below zero k d h = absurd (omega arith)
get_or-below (suc n) k d h =
    elim (cases_lt k n) [
      | inl before ↦ get_or_append_left (below n) (n ∷ []) d k (omega (arith, length-below n)) ∙ get_or-below n k d before
      | inr here ↦
          let last : n ≡ k = omega arith in
          get_or_push (below n) n d k (length-below n ∙ last) ∙ last
    ]

-- ---- the values in order

-- as many as the domain has places
pub ordered_length : (domain : Domain) (turned : Turned) (names : List AxisName) (values : List (Option ℤ)) → length (ordered domain turned names values) ≡ count_of domain
ordered_length domain turned names values =
    length-map (below (count_of domain)) (λ number. value_in_tree domain turned names values (places_at domain number)) ∙ length-below (count_of domain)

-- the value of a number
pub ordered_at : (domain : Domain) (turned : Turned) (names : List AxisName) (values : List (Option ℤ)) (number : ℕ) → number < count_of domain
    → get_or (ordered domain turned names values) number None ≡ value_in_tree domain turned names values (places_at domain number)
ordered_at domain turned names values number inside =
    let value = λ (k : ℕ). value_in_tree domain turned names values (places_at domain k) in
    get_or-map value (below (count_of domain)) number 0 None (omega (arith, length-below (count_of domain)))
    ∙ ap value (get_or-below (count_of domain) number 0 inside)

-- they are in order
pub ordered_in_order : (domain : Domain) (turned : Turned) (names : List AxisName) (values : List (Option ℤ))
    → AreInOrder domain turned names values (ordered domain turned names values)
ordered_in_order domain turned names values = record {
  counted = ordered_length domain turned names values;
  each = λ places inside.
      let number = number_of domain places in
      let below = number_inside domain places inside in
      ordered_at domain turned names values number below
      ∙ ap (λ n. get_or values n None)
      (tree_number_once domain turned names (places_at domain number) places (places_at_inside domain number below) inside (places_at_number domain number));
}

-- and no other values are
pub in_order_is_ordered : (domain : Domain) (turned : Turned) (names : List AxisName) (values other : List (Option ℤ))
    → AreInOrder domain turned names values other → other ≡ ordered domain turned names values
in_order_is_ordered domain turned names values other in_order =
    ext_get_or None other (ordered domain turned names values) (in_order.counted ∙ sym (ordered_length domain turned names values))
    (λ number h.
    let inside : number < count_of domain = omega (arith, in_order.counted) in
    ap (λ n. get_or other n None) (sym (places_at_number domain number))
    ∙ in_order.each (places_at domain number) (places_at_inside domain number inside)
    ∙ sym (ordered_at domain turned names values number inside))

-- ---- the domain's own order

-- an axis that is left out has one value
left_out : (domain : Domain) (names : List AxisName) (places : Places) → AreRangeAxes domain names → AreInside domain places → (name : AxisName)
    → is_named name names ≡ false → length_of domain name ≡ 1
left_out domain names places axes inside name out =
    elim (cases_lt 1 (length_of domain name)) [
      | inl long ↦ cc (axes.all_long name long)
      | inr short ↦ omega (arith, inside name)
    ]

-- names are those that are kept of all, where names that are the same are
is_kept : (names others : List AxisName) → names ≡ others → others ≡ kept (λ name. is_named name others) → names ≡ kept (λ name. is_named name names)
is_kept names others same is = subst (λ (ns : List AxisName). ns ≡ kept (λ name. is_named name ns)) (sym same) is

-- names in the usual order are those that are kept of all
usual_kept : (names : List AxisName) → IsUsual names → names ≡ kept (λ name. is_named name names)
usual_kept names (inl e) = is_kept names _ e refl
usual_kept names (inr (inl e)) = is_kept names _ e refl
usual_kept names (inr (inr (inl e))) = is_kept names _ e refl
usual_kept names (inr (inr (inr (inl e)))) = is_kept names _ e refl
usual_kept names (inr (inr (inr (inr (inl e))))) = is_kept names _ e refl
usual_kept names (inr (inr (inr (inr (inr (inl e)))))) = is_kept names _ e refl
usual_kept names (inr (inr (inr (inr (inr (inr (inl e))))))) = is_kept names _ e refl
usual_kept names (inr (inr (inr (inr (inr (inr (inr e))))))) = is_kept names _ e refl

-- so that each value has its own number in the tree
usual_number : (domain : Domain) (turned : Turned) (names : List AxisName) (places : Places) → AreRangeAxes domain names → IsUsual names → IsUnturned turned
    → AreInside domain places → number_of domain places ≡ tree_number domain turned names places
usual_number domain turned names places axes in_order unturned inside =
    sym (ap (λ (ns : List AxisName). tree_number domain turned ns places) (usual_kept names in_order)
    ∙ kept_number_of domain turned (λ name. is_named name names) places unturned (left_out domain names places axes inside) inside)

-- values in that order stay as they are
pub usual_ordered : (domain : Domain) (turned : Turned) (names : List AxisName) (values : List (Option ℤ)) → AreRangeAxes domain names
    → length values ≡ count_of domain → IsUsual names → IsUnturned turned → ordered domain turned names values ≡ values
usual_ordered domain turned names values axes counted usual unturned =
    sym (in_order_is_ordered domain turned names values values (record {
      counted = counted;
      each = λ places inside. ap (λ n. get_or values n None) (usual_number domain turned names places axes usual unturned inside);
    }))

-- ---- what holds of each value

-- what holds of each value of the tree holds of each in order
pub ordered_all : (P : Option ℤ → Type 0) (domain : Domain) (turned : Turned) (names : List AxisName) (values : List (Option ℤ))
    → AreRangeAxes domain names → length values ≡ count_of domain → All P values → All P (ordered domain turned names values)
ordered_all P domain turned names values axes counted all k d below =
    let inside : k < count_of domain = omega (arith, ordered_length domain turned names values) in
    let places = places_at domain k in
    let n = tree_number domain turned names places in
    let same : get_or values n None ≡ get_or (ordered domain turned names values) k d =
    sym (ordered_at domain turned names values k inside) ∙ get_or_default (ordered domain turned names values) k None d below in
    subst P same (all n None (omega (arith, counted, tree_number_inside domain turned names places axes (places_at_inside domain k inside))))
