-- The names of the axes of a range and their lengths: the rows of their checks, and the computed answers.
use Rattle.std.proofs.Common.{◌≡◌, ◌≢◌, ◌==◌, inl, inr, ℕ, zero, suc, ◌<◌, Bool, true, false, List, [], ◌∷◌, length, map, Option, Some, None, Ok, Err, refl, sym, ap, ◌∙◌, subst, arith}
use Rattle.std.specs.Prelude.{Result, IfErr, ⊤, is_some, slice_get}
use Rattle.std.proofs.lemmas.Bool.{eqb-true, eqb-false, eq-eqb, and_parts}
use Rattle.std.proofs.lemmas.List.Elements.{All-nil}
use Rattle.std.proofs.lemmas.List.{length-map}
use Rattle.serde_json.specs.Data.{Data, Items, no_items, item}
use Rattle.serde_json.specs.Find.{as_array}
use Rattle.edr_base.specs.FirstThatApplies.{IsFirstPlace, Check, Find, Gives, and_then, or_fault, check}
use Rattle.edr_json.specs.Trees.{natural_of, count_items, EachStands}
use Rattle.edr_json.specs.AnswerLaws.{and_then_ok, check_ok}
use Rattle.edr_json.specs.TreeLaws.{as_array_some}
use Rattle.covjson_value.specs.declared.domains.Domain.{Domain}
use Rattle.covjson_value.specs.declared.axis_names.AxisName.{AxisName}
use Rattle.covjson_checks.specs.declared.faults.Member.TheVariants.{AxisNames, Shape}
use Rattle.covjson_checks.specs.declared.faults.CovFault.{CovFault}
use Rattle.covjson_checks.specs.declared.faults.CovFault.TheVariants.{Missing, WrongType, WrongCount}
use Rattle.covjson_checks.specs.declared.members.Wanted.{Wanted}
use Rattle.covjson_checks.specs.declared.members.Wanted.TheVariants.{Naturals}
use Rattle.covjson_checks.specs.Answers.{Answer, each}
use Rattle.covjson_checks.specs.Members.{list_at, is_wanted, all_wanted}
use Rattle.covjson_checks.specs.CheckLaws.{list_ok, each_stands, each_answers, all_wanted_given}
use Rattle.covjson_ranges.specs.Ranges.{StandsForName, StandsForLength, Lists, length_of, AreRangeAxes, IsOnePlace, NamesStand, ShapeStands}
use Rattle.covjson_ranges.specs.RangeAnswers.{axis_named, are_range_axes, is_one_place, names_in, length_is, lengths_are, shape_in}
use Rattle.covjson_ranges.specs.RangeRows.{NamesRows, DifferFirst, LengthsRow, ShapeRows}
use Rattle.covjson_ranges.proofs.CheckRows.{LeadTo, ok_err, gives_leads, check_leads, check_ends, find_tested, find_ends, row_passed, and_then_one, or_fault_one, check_one, each_one}
use Rattle.covjson_ranges.proofs.RangeParts.{stands_count, name_stands, name_answers, IsOwned, axes_stand, axes_answer, one_place_stands, one_place_answers}

-- ---- their names

-- no axes are those of a domain of one place
no_axes : (domain : Domain) → IsOnePlace domain → AreRangeAxes domain []
no_axes domain one = record {
  distinct = tt;
  owned = All-nil (IsOwned domain);
  all_long = λ name long. absurd (omega (arith, one name));
}

-- the names that were read stand there, and are the axes of a range
pub names_stand : (domain : Domain) (o : Option Data) (names : List AxisName) → names_in domain o ≡ Ok names → NamesStand domain o names × AreRangeAxes domain names
names_stand domain None names h =
    let a = and_then_ok (check (is_one_place domain) (Missing AxisNames)) _ names h in
    let one = one_place_stands domain (check_ok (is_one_place domain) _ a.0 a.1) in
    let none : [] ≡ names = cc (a.2) in
    ((sym none, one), subst (AreRangeAxes domain) none (no_axes domain one))
names_stand domain (Some d) names h =
    let a = and_then_ok (list_at AxisNames d) _ names h in
    let b = and_then_ok (each axis_named a.0) _ names a.2 in
    let c = and_then_ok (check (are_range_axes domain b.0) (WrongType AxisNames)) _ names b.2 in
    let same : b.0 ≡ names = cc (c.2) in
    let axes = axes_stand domain b.0 (check_ok (are_range_axes domain b.0) _ c.0 c.1) in (
      (a.0, list_ok AxisNames d a.0 a.1, subst (EachStands StandsForName a.0) same (each_stands axis_named StandsForName name_stands a.0 b.0 b.1)),
      subst (AreRangeAxes domain) same axes,
    )

-- and such names are read
pub names_answer : (domain : Domain) (o : Option Data) (names : List AxisName) → NamesStand domain o names → AreRangeAxes domain names → names_in domain o ≡ Ok names
names_answer domain None names h axes = rw (one_place_answers domain h.1, h.0) refl
names_answer domain (Some d) names h axes = rw (h.1, each_answers axis_named StandsForName name_answers h.0 names h.2, axes_answer domain names axes) refl

-- where there is a list they have one fault
names_one : (domain : Domain) (d : Data) → IfErr (names_in domain (Some d)) (λ f. f ≡ WrongType AxisNames)
names_one domain d =
    and_then_one (list_at AxisNames d) _ (WrongType AxisNames) (or_fault_one (as_array d) (WrongType AxisNames))
    (λ ds. and_then_one (each axis_named ds) _ (WrongType AxisNames) (each_one axis_named (WrongType AxisNames) (λ e. or_fault_one _ (WrongType AxisNames)) ds)
    (λ names. and_then_one (check (are_range_axes domain names) (WrongType AxisNames)) _ (WrongType AxisNames) (check_one (are_range_axes domain names) (WrongType AxisNames)) (λ u. tt)))

-- the rows lead to what is computed
pub names_lead : (domain : Domain) (o : Option Data) → LeadTo (NamesRows domain o) (names_in domain o)
names_lead domain None =
    check_leads (is_one_place domain) (IsOnePlace domain) (Missing AxisNames) (Gives []) (Ok []) (one_place_stands domain) (one_place_answers domain) (λ one. gives_leads [])
names_lead domain (Some d) =
    find_ends (names_in domain (Some d)) (λ names. NamesStand domain (Some d) names × AreRangeAxes domain names) (WrongType AxisNames) (names_stand domain (Some d))
    (λ names h. names_answer domain (Some d) names h.0 h.1) (names_one domain d)

-- ---- lists of which each item is what is wanted

-- each item stands for a value, where each is what is wanted
pub each_wanted : {V : Type 0} (wanted : Wanted) (R : Data → V → Type 0) → ((d : Data) → is_wanted wanted d ≡ true → (v : V) × R d v)
    → (ds : Items) → all_wanted wanted ds ≡ true → (vs : List V) × EachStands R ds vs
each_wanted wanted R one no_items h = ([], tt)
each_wanted wanted R one (item d ds) h =
    let both = and_parts (is_wanted wanted d) (all_wanted wanted ds) h in
    let first = one d both.0 in
    let rest = each_wanted wanted R one ds both.1 in
    (first.0 ∷ rest.0, (first.1, rest.1))

-- the rows of such a list, where it is a list
listed_lead : {T V : Type 0} (R : Data → V → Type 0) (wanted : Wanted) (f : CovFault) (d : Data) (Next : List V → Result T CovFault → Type 0) (next : Items → Answer T)
    → ((e : Data) → is_wanted wanted e ≡ true → (v : V) × R e v) → ((e : Data) (v : V) → R e v → is_wanted wanted e ≡ true)
    → ((ds : Items) (vs : List V) → EachStands R ds vs → LeadTo (Next vs) (next ds)) → (o : Option Items) → as_array d ≡ o
    → LeadTo (Find (Lists R d) f Next) (and_then (or_fault o f) (λ ds. and_then (check (all_wanted wanted ds) f) (λ _. next ds)))
listed_lead R wanted f d Next next tells given rest None none = record {
  follows = inr ((λ vs h. let there : as_array d ≡ Some h.0 = ap as_array h.1 in cc), refl);
  only = λ other h. elim h [ inl k ↦ (let there : as_array d ≡ Some k.1.0 = ap as_array k.1.1 in cc) | inr k ↦ k.1 ];
}
listed_lead R wanted f d Next next tells given rest (Some ds) some =
    let mine : (vs : List _) → Lists R d vs → EachStands R ds vs = λ vs h. (
    let there : as_array d ≡ Some h.0 = ap as_array h.1 in
    let same : h.0 ≡ ds = cc in
    subst (λ (es : Items). EachStands R es vs) same h.2) in
    find_tested (all_wanted wanted ds) (Lists R d) f Next (next ds)
    (λ all. let found = each_wanted wanted R tells ds all in (found.0, (ds, as_array_some d ds some, found.1)))
    (λ vs h. all_wanted_given wanted R given ds vs (mine vs h)) (λ vs h. rest ds vs (mine vs h))

-- ---- their lengths

-- what is natural is some length
natural_some : (o : Option ℕ) → is_some o ≡ true → (n : ℕ) × (o ≡ Some n)
natural_some None h = cc
natural_some (Some n) h = (n, refl)

-- an empty list has no number at any place
none_there : (place n : ℕ) → ¬ (slice_get [] place ≡ Some n)
none_there place n h = cc

-- numbers that differ first after an equal one differ first after that
none_earlier : (n : ℕ) (ws ns : List ℕ) (wanted other : ℕ) (h : DifferFirst ws ns wanted other) (earlier : ℕ) → earlier < suc h.place
    → ¬ (slice_get (n ∷ ws) earlier ≢ slice_get (n ∷ ns) earlier)
none_earlier n ws ns wanted other h zero low apart = apart refl
none_earlier n ws ns wanted other h (suc earlier) low apart = h.first.none_before earlier (omega (arith, low)) apart

differ_more : (n : ℕ) (ws ns : List ℕ) (wanted other : ℕ) → DifferFirst ws ns wanted other → DifferFirst (n ∷ ws) (n ∷ ns) wanted other
differ_more n ws ns wanted other h = record {
  place = suc h.place;
  wanted_here = h.wanted_here;
  found_here = h.found_here;
  first = record { applies = h.first.applies; none_before = none_earlier n ws ns wanted other h };
}

-- numbers that aren't the same aren't the same at a place
numbers_differ : (w n : ℕ) → n ≢ w → Some w ≢ Some n
numbers_differ w n apart e = let same : n ≡ w = cc in apart same

-- so where the first ones aren't, the lists differ first at them
differ_here : (w n : ℕ) (ws ns : List ℕ) → n ≢ w → DifferFirst (w ∷ ws) (n ∷ ns) w n
differ_here w n ws ns apart = record {
  place = 0;
  wanted_here = refl;
  found_here = refl;
  first = record { applies = numbers_differ w n apart; none_before = λ earlier low so. absurd (omega (arith, low)) };
}

module _ (w n : ℕ) (ws ns : List ℕ) (wanted other : ℕ) where
  -- behind an equal number those that differ first are among the rest
  rest_at : n ≡ w → (place : ℕ) → slice_get (w ∷ ws) place ≡ Some wanted → slice_get (n ∷ ns) place ≡ Some other
      → IsFirstPlace (λ at. slice_get (w ∷ ws) at ≢ slice_get (n ∷ ns) at) place → DifferFirst ws ns wanted other
  rest_at same zero here there first = absurd (first.applies (ap Some (sym same)))
  rest_at same (suc place) here there first = record {
    place = place;
    wanted_here = here;
    found_here = there;
    first = record { applies = first.applies; none_before = λ earlier low. first.none_before (suc earlier) (omega (arith, low)) };
  }

  differ_rest : n ≡ w → DifferFirst (w ∷ ws) (n ∷ ns) wanted other → DifferFirst ws ns wanted other
  differ_rest same h = rest_at same h.place h.wanted_here h.found_here h.first

  -- and another number is itself the first that differs
  here_at : n ≢ w → (place : ℕ) → slice_get (w ∷ ws) place ≡ Some wanted → slice_get (n ∷ ns) place ≡ Some other
      → IsFirstPlace (λ at. slice_get (w ∷ ws) at ≢ slice_get (n ∷ ns) at) place → (w ≡ wanted) × (n ≡ other)
  here_at apart zero here there first = (cc, cc)
  here_at apart (suc place) here there first = absurd (first.none_before 0 (omega arith) (numbers_differ w n apart))

  only_here : n ≢ w → DifferFirst (w ∷ ws) (n ∷ ns) wanted other → (w ≡ wanted) × (n ≡ other)
  only_here apart h = here_at apart h.place h.wanted_here h.found_here h.first

-- an equal number before both leaves the row
row_more : (w n : ℕ) (ws ns : List ℕ) (answer : Answer ⊤) → n ≡ w → LengthsRow ws ns answer → LengthsRow (w ∷ ws) (n ∷ ns) answer
row_more w n ws ns answer same (inl h) = inl (ap (λ (ks : List ℕ). n ∷ ks) h.0 ∙ ap (λ k. k ∷ ws) same, h.1)
row_more w n ws ns answer same (inr h) =
    inr (h.0, h.1, subst (λ k. DifferFirst (k ∷ ws) (n ∷ ns) h.0 h.1) same (differ_more n ws ns h.0 h.1 h.2), h.3)

-- also the other way
row_rest : (w n : ℕ) (ws ns : List ℕ) (answer : Answer ⊤) → n ≡ w → LengthsRow (w ∷ ws) (n ∷ ns) answer → LengthsRow ws ns answer
row_rest w n ws ns answer same (inl h) = inl (cc (h.0), h.1)
row_rest w n ws ns answer same (inr h) = inr (h.0, h.1, differ_rest w n ws ns h.0 h.1 same h.2, h.3)

-- another number is the first that differs
row_here : (w n : ℕ) (ws ns : List ℕ) (answer : Answer ⊤) → n ≢ w → LengthsRow (w ∷ ws) (n ∷ ns) answer → answer ≡ Err (WrongCount Shape w n)
row_here w n ws ns answer apart (inl h) = absurd (apart (cc (h.0)))
row_here w n ws ns answer apart (inr h) =
    let e = only_here w n ws ns h.0 h.1 apart h.2 in
    h.3 ∙ ap (λ k. Err (WrongCount Shape k h.1)) (sym e.0) ∙ ap (λ k. Err (WrongCount Shape w k)) (sym e.1)

-- the row of a number more
more_leads : (w n : ℕ) (ws ns : List ℕ) (rest : Answer ⊤) → LeadTo (LengthsRow ws ns) rest → (b : Bool) → (n == w) ≡ b
    → LeadTo (LengthsRow (w ∷ ws) (n ∷ ns)) (and_then (check b (WrongCount Shape w n)) (λ _. rest))
more_leads w n ws ns rest lead true test =
    let same = eqb-true n w test in
    record {
      follows = row_more w n ws ns rest same lead.follows;
      only = λ other h. lead.only other (row_rest w n ws ns other same h);
    }
more_leads w n ws ns rest lead false test =
    let apart : n ≢ w = eqb-false n w test in
    record {
      follows = inr (w, n, differ_here w n ws ns apart, refl);
      only = λ other h. row_here w n ws ns other apart h;
    }

-- the row of all numbers, of which there are as many as are wanted
lengths_lead : (lengths found : List ℕ) (ds : Items) → EachStands StandsForLength ds found → length found ≡ length lengths → LeadTo (LengthsRow lengths found) (lengths_are lengths ds)
lengths_lead [] [] ds stand counted = record {
  follows = inl (refl, refl);
  only = λ other h. elim h [ inl k ↦ k.1 | inr k ↦ absurd (none_there k.2.place k.0 k.2.wanted_here) ];
}
lengths_lead [] (n ∷ ns) ds stand counted = absurd (omega arith)
lengths_lead (w ∷ ws) [] ds stand counted = absurd (omega arith)
lengths_lead (w ∷ ws) (n ∷ ns) no_items stand counted = absurd stand
lengths_lead (w ∷ ws) (n ∷ ns) (item d ds) stand counted =
    let rest = lengths_lead ws ns ds stand.1 (omega arith) in
    let here : check (n == w) (WrongCount Shape w n) ≡ length_is w d = rw stand.0 refl in
    subst (λ (a : Answer ⊤). LeadTo (LengthsRow (w ∷ ws) (n ∷ ns)) (and_then a (λ _. lengths_are ws ds))) here (more_leads w n ws ns (lengths_are ws ds) rest (n == w) refl)

-- the lengths of these axes, where they are listed
listed_lengths : (domain : Domain) (names : List AxisName) (ds : Items) (found : List ℕ) → EachStands StandsForLength ds found
    → LeadTo (Check (length found ≡ length names) (WrongCount Shape (length names) (length found)) (LengthsRow (map (length_of domain) names) found))
    (and_then (check (count_items ds == length names) (WrongCount Shape (length names) (count_items ds))) (λ _. lengths_are (map (length_of domain) names) ds))
listed_lengths domain names ds found stand =
    let lengths = map (length_of domain) names in
    let rows : Answer ⊤ → Type 0 = Check (length found ≡ length names) (WrongCount Shape (length names) (length found)) (LengthsRow lengths found) in
    subst (λ (n : ℕ). LeadTo rows (and_then (check (n == length names) (WrongCount Shape (length names) n)) (λ _. lengths_are lengths ds)))
    (sym (stands_count StandsForLength ds found stand))
    (check_leads (length found == length names) (length found ≡ length names) (WrongCount Shape (length names) (length found)) (LengthsRow lengths found) (lengths_are lengths ds)
    (eqb-true (length found) (length names)) (eq-eqb (length found) (length names))
    (λ counted. lengths_lead lengths found ds stand (counted ∙ sym (length-map names (length_of domain)))))

-- the rows lead to what is computed
pub shape_leads : (domain : Domain) (names : List AxisName) (o : Option Data) → LeadTo (ShapeRows domain names o) (shape_in domain names o)
shape_leads domain names None = check_ends (is_one_place domain) (IsOnePlace domain) (Missing Shape) (one_place_stands domain) (one_place_answers domain)
shape_leads domain names (Some d) =
    listed_lead StandsForLength Naturals (WrongType Shape) d
    (λ found. Check (length found ≡ length names) (WrongCount Shape (length names) (length found)) (LengthsRow (map (length_of domain) names) found))
    (λ ds. and_then (check (count_items ds == length names) (WrongCount Shape (length names) (count_items ds))) (λ _. lengths_are (map (length_of domain) names) ds))
    (λ e h. natural_some (natural_of e) h) (λ e n h. ap is_some h) (listed_lengths domain names) (as_array d) refl

-- and end well exactly where the lengths stand
pub shape_passed : (domain : Domain) (names : List AxisName) (o : Option Data) (u : ⊤) → ShapeRows domain names o (Ok u) → ShapeStands domain o names
shape_passed domain names None u h = (row_passed u (Missing Shape) h).0
shape_passed domain names (Some d) u h =
    let found = row_passed u (WrongType Shape) h in
    let counted = row_passed u (WrongCount Shape (length names) (length found.0)) found.2 in
    elim (counted.1) [
      | inl k ↦ subst (λ (ns : List ℕ). Lists StandsForLength d ns) k.0 found.1
      | inr k ↦ absurd (ok_err u (WrongCount Shape k.0 k.1) k.3)
    ]

pub shape_passes : (domain : Domain) (names : List AxisName) (o : Option Data) → ShapeStands domain o names → ShapeRows domain names o (Ok tt)
shape_passes domain names None h = inl (h, refl)
shape_passes domain names (Some d) h = inl (map (length_of domain) names, h, inl (length-map names (length_of domain), inl (refl, refl)))
