-- The times of a station, read one after another.
use Rattle.std.proofs.Common.{◌≡◌, ◌≢◌, ◌⊎◌, inl, inr, ℕ, zero, suc, ◌+◌, ◌-◌, ◌<◌, ◌≤◌, List, [], ◌∷◌, ◌++◌, length, get_or, ℤ, pos, Ordering, Less, Equal, Greater, refl, sym, ap, ◌∙◌, subst, arith}
use Rattle.std.specs.Prelude.{Contains, ◌<ℤ◌, Result, Ok, Err, IfOk}
use Rattle.std.specs.Ordering.{int_cmp}
use Rattle.std.proofs.Math.Nat.{not-suc-le-zero}
use Rattle.std.proofs.Math.Seq.{get_or-append_seam}
use Rattle.std.proofs.lemmas.Bool.{cases_lt}
use Rattle.std.proofs.lemmas.Cmp.{int_ranked}
use Rattle.std.proofs.lemmas.List.{get_or_append_left, length-append}
use Rattle.std.proofs.lemmas.List.Elements.{Contains-append_left, Contains-append_right, Contains-append_cases}
use Rattle.edr_axes.specs.Axes.{IsAscending, value_at}
use Rattle.edr_base.specs.Names.{order}
use Rattle.edr_ids.specs.ListLaws.{order_itself, order_same}
use Rattle.edr_csv.specs.declared.observations.Observation.{Observation}
use Rattle.edr_import.specs.Sorting.{AreSorted}
use Rattle.edr_import.specs.Times.{IsFirstOf, Ends, PutsTime, AreTimesOf}
use Rattle.edr_import.specs.Tables.{AreTimes}
use Rattle.edr_import.proofs.OrderLemmas.{item_at, station_not_above, time_not_above}

-- ---- one time more

-- of the times so far the last is below it
pub record IsBehind (times : List ℤ) (t : ℤ) : Type 0 where
  pub above : (l : ℤ) → Ends times l → l <ℤ t

ends_there : (times : List ℤ) (t : ℤ) → Ends times t → Contains times t
ends_there times t e = subst (λ (ts : List ℤ). Contains ts t) (sym e.is) (Contains-append_right e.front (t ∷ []) t (0, omega arith, refl))

last_is : (times : List ℤ) (k : ℕ) → k + 1 ≡ length times → Ends times (value_at times k)
last_is [] k e = absurd (omega (arith, e))
last_is (t ∷ []) zero e = record { front = []; is = refl }
last_is (t ∷ []) (suc k) e = absurd (omega (arith, e))
last_is (t ∷ u ∷ ts) zero e = absurd (omega (arith, e))
last_is (t ∷ u ∷ ts) (suc k) e =
    let rest = last_is (u ∷ ts) k (omega (arith, e)) in
    record { front = t ∷ rest.front; is = ap (λ (xs : List ℤ). t ∷ xs) rest.is }

pub ascends_on : (times : List ℤ) (t : ℤ) → IsAscending times → IsBehind times t → IsAscending (times ++ t ∷ [])
ascends_on times t up behind k inside = elim (cases_lt (k + 1) (length times)) [
  | inl before ↦ subst (λ (v : ℤ). v <ℤ value_at (times ++ t ∷ []) (k + 1)) (sym (get_or_append_left times (t ∷ []) (pos 0) k (omega (arith, before))))
      (subst (λ (v : ℤ). value_at times k <ℤ v) (sym (get_or_append_left times (t ∷ []) (pos 0) (k + 1) before)) (up k before))
  | inr from ↦ (let end : k + 1 ≡ length times = omega (arith, from, inside, length-append times (t ∷ [])) in
      let here : value_at (times ++ t ∷ []) (k + 1) ≡ t = ap (λ (n : ℕ). value_at (times ++ t ∷ []) n) end ∙ get_or-append_seam times t [] (pos 0) in
      subst (λ (v : ℤ). v <ℤ value_at (times ++ t ∷ []) (k + 1)) (sym (get_or_append_left times (t ∷ []) (pos 0) k (omega (arith, end))))
      (subst (λ (v : ℤ). value_at times k <ℤ v) (sym here) (behind.above (value_at times k) (last_is times k end))))
]

below_if : (a b : ℤ) → int_cmp a b ≢ Greater → a ≢ b → a <ℤ b
below_if a b not differ = by_case (int_cmp a b) refl
  where
    by_case : (o : Ordering) → int_cmp a b ≡ o → a <ℤ b
    by_case Less e = int_ranked a b Less (sym e)
    by_case Equal e = absurd (differ (int_ranked a b Equal (sym e)))
    by_case Greater e = absurd (not e)

-- ---- the observations of a station

-- those from the first place to before another were read
pub record IsRead (xs : List Observation) (id : List ℕ) (first place : ℕ) (times : List ℤ) : Type 0 where
  pub within : (first ≤ place) × (place ≤ length xs)
  pub own : (k : ℕ) (d : Observation) → first ≤ k → k < place → (get_or xs k d).station ≡ id
  pub ascending : IsAscending times
  pub told : (t : ℤ) → Contains times t → (k : ℕ) × (first ≤ k) × (k < place) × ((d : Observation) → (get_or xs k d).t ≡ t)
  pub there : (k : ℕ) (d : Observation) → first ≤ k → k < place → Contains times (get_or xs k d).t
  pub last : (d : Observation) (l : ℤ) → Ends times l → (first < place) × ((get_or xs (place - 1) d).t ≡ l)

nothing_ends : (l : ℤ) → ¬ (Ends [] l)
nothing_ends l e = (let none : 0 ≡ length (e.front ++ l ∷ []) = ap length e.is in omega (arith, none, length-append e.front (l ∷ [])))

pub none_read : (xs : List Observation) (id : List ℕ) (first : ℕ) → first ≤ length xs → IsRead xs id first first []
none_read xs id first within = record {
  within = (omega arith, within);
  own = λ k d from before. absurd (omega (arith, from, before));
  ascending = λ k inside. omega (arith, inside);
  told = λ t has. absurd (not-suc-le-zero has.1);
  there = λ k d from before. absurd (omega (arith, from, before));
  last = λ d l e. absurd (nothing_ends l e);
}

module _ (xs : List Observation) (up : AreSorted xs) (id : List ℕ) (first place : ℕ) (times : List ℤ) (x : Observation) (read : IsRead xs id first place times)
    (inside : place < length xs) (at : (d : Observation) → get_or xs place d ≡ x) (own : x.station ≡ id) where
  own_more : (k : ℕ) (d : Observation) → first ≤ k → k < place + 1 → (get_or xs k d).station ≡ id
  own_more k d from before = elim (cases_lt k place) [
    | inl earlier ↦ read.own k d from earlier
    | inr later ↦ (let here : k ≡ place = omega (arith, before, later) in
        ap (λ (n : ℕ). (get_or xs n d).station) here ∙ ap (λ (o : Observation). o.station) (at d) ∙ own)
  ]

  told_more : (new : List ℤ) → ((t : ℤ) → Contains new t → Contains times t ⊎ (t ≡ x.t)) → (t : ℤ) → Contains new t
      → (k : ℕ) × (first ≤ k) × (k < place + 1) × ((d : Observation) → (get_or xs k d).t ≡ t)
  told_more new from t has = by_case (from t has)
    where
      by_case : Contains times t ⊎ (t ≡ x.t) → (k : ℕ) × (first ≤ k) × (k < place + 1) × ((d : Observation) → (get_or xs k d).t ≡ t)
      by_case (inl earlier) = (let old = read.told t earlier in (old.0, old.1, omega (arith, old.2), old.3))
      by_case (inr here) = (let within = read.within in (place, within.0, omega arith, λ d. ap (λ (o : Observation). o.t) (at d) ∙ sym here))

  there_more : (new : List ℤ) → ((t : ℤ) → Contains times t → Contains new t) → Contains new x.t → (k : ℕ) (d : Observation) → first ≤ k → k < place + 1
      → Contains new (get_or xs k d).t
  there_more new keeps has k d from before = elim (cases_lt k place) [
    | inl earlier ↦ keeps _ (read.there k d from earlier)
    | inr later ↦ (let here : k ≡ place = omega (arith, before, later) in
        subst (Contains new) (sym (ap (λ (n : ℕ). (get_or xs n d).t) here ∙ ap (λ (o : Observation). o.t) (at d))) has)
  ]

  last_more : (new : List ℤ) → Ends new x.t → (d : Observation) (l : ℤ) → Ends new l → (first < place + 1) × ((get_or xs (place + 1 - 1) d).t ≡ l)
  last_more new ends d l e =
      let within = read.within in
      let here : place + 1 - 1 ≡ place = omega arith in
      (omega (arith, within.0), ap (λ (n : ℕ). (get_or xs n d).t) here ∙ ap (λ (o : Observation). o.t) (at d) ∙ one_end new x.t l ends e)
    where
      one_end : (ts : List ℤ) (a b : ℤ) → Ends ts a → Ends ts b → a ≡ b
      one_end ts a b p q = (let same : p.front ++ a ∷ [] ≡ q.front ++ b ∷ [] = sym p.is ∙ q.is in ends_same p.front q.front a b same)
        where
          ends_same : (ps qs : List ℤ) (a b : ℤ) → ps ++ a ∷ [] ≡ qs ++ b ∷ [] → a ≡ b
          ends_same [] [] a b e = cc
          ends_same [] (q ∷ []) a b e = cc
          ends_same [] (q ∷ r ∷ qs) a b e = cc
          ends_same (p ∷ []) [] a b e = cc
          ends_same (p ∷ r ∷ ps) [] a b e = cc
          ends_same (p ∷ ps) (q ∷ qs) a b e = (let rest : ps ++ a ∷ [] ≡ qs ++ b ∷ [] = cc in ends_same ps qs a b rest)

  -- the time is above the last one, or is it
  behind_last : ¬ (Ends times x.t) → IsBehind times x.t
  behind_last not = record {
    above = λ l e.
        let was = read.last x l e in
        let n : ℕ = place - 1 in
        let back : n ≤ place = omega arith in
        let low : first ≤ n = omega (arith, was.0) in
        let under : n < place = omega (arith, was.0) in
        let same : (get_or xs n x).station ≡ (get_or xs place x).station = read.own n x low under ∙ sym (ap (λ (o : Observation). o.station) (at x) ∙ own) in
        let order_is : int_cmp (get_or xs n x).t (get_or xs place x).t ≢ Greater = time_not_above xs up n place x back inside same in
        below_if l x.t (subst (λ (v : ℤ). int_cmp l v ≢ Greater) (ap (λ (o : Observation). o.t) (at x)) (subst (λ (v : ℤ). int_cmp v (get_or xs place x).t ≢ Greater) was.1 order_is))
        (λ same_time. not (subst (Ends times) same_time e));
  }

  pub read_more : (new : List ℤ) → PutsTime times x.t new → IsRead xs id first (place + 1) new
  read_more new (inl puts) = record {
    within = (let within = read.within in (omega (arith, within.0), omega (arith, inside)));
    own = own_more;
    ascending = subst IsAscending (sym puts.1) read.ascending;
    told = told_more new (λ t has. inl (subst (λ (ts : List ℤ). Contains ts t) puts.1 has));
    there = there_more new (λ t has. subst (λ (ts : List ℤ). Contains ts t) (sym puts.1) has) (subst (λ (ts : List ℤ). Contains ts x.t) (sym puts.1) (ends_there times x.t puts.0));
    last = last_more new (subst (λ (ts : List ℤ). Ends ts x.t) (sym puts.1) puts.0);
  }
  read_more new (inr puts) = record {
    within = (let within = read.within in (omega (arith, within.0), omega (arith, inside)));
    own = own_more;
    ascending = subst IsAscending (sym puts.1) (ascends_on times x.t read.ascending (behind_last puts.0));
    told = told_more new (λ t has. in_new t (subst (λ (ts : List ℤ). Contains ts t) puts.1 has));
    there = there_more new (λ t has. subst (λ (ts : List ℤ). Contains ts t) (sym puts.1) (Contains-append_left times (x.t ∷ []) t has))
        (subst (λ (ts : List ℤ). Contains ts x.t) (sym puts.1) (Contains-append_right times (x.t ∷ []) x.t (0, omega arith, refl)));
    last = last_more new (record { front = times; is = puts.1 });
  }
    where
      alone : (t : ℤ) → Contains (x.t ∷ []) t → t ≡ x.t
      alone t has = by_place has.0 has.1 has.2
        where
          by_place : (k : ℕ) → k < 1 → get_or (x.t ∷ []) k t ≡ t → t ≡ x.t
          by_place zero within e = sym e
          by_place (suc k) within e = absurd (omega (arith, within))

      in_new : (t : ℤ) → Contains (times ++ x.t ∷ []) t → Contains times t ⊎ (t ≡ x.t)
      in_new t has = by_case (Contains-append_cases times (x.t ∷ []) t has)
        where
          by_case : Contains times t ⊎ Contains (x.t ∷ []) t → Contains times t ⊎ (t ≡ x.t)
          by_case (inl earlier) = inl earlier
          by_case (inr here) = inr (alone t here)

-- where the next one is of another station, or there is none
module _ (xs : List Observation) (up : AreSorted xs) (id : List ℕ) (first place : ℕ) (times : List ℤ) (from : IsFirstOf xs id first) (read : IsRead xs id first place times)
    (stops : (d : Observation) → place < length xs → (get_or xs place d).station ≢ id) where
  not_behind : (k : ℕ) (d : Observation) → place ≤ k → k < length xs → (get_or xs k d).station ≢ id
  not_behind k d later inside same = by_case (order (get_or xs place d).station (get_or xs k d).station) refl
    where
      within : (first ≤ place) × (place ≤ length xs)
      within = read.within

      here : place < length xs
      here = omega (arith, later, inside)

      own : order (get_or xs place d).station (get_or xs k d).station ≡ order (get_or xs place d).station id
      own = ap (order (get_or xs place d).station) same

      by_case : (o : Ordering) → order (get_or xs place d).station (get_or xs k d).station ≡ o → ⊥
      by_case Less e = from.from place d within.0 here (sym own ∙ e)
      by_case Equal e = stops d here (order_same _ id (sym own ∙ e))
      by_case Greater e = station_not_above xs up place k d later inside e

  in_place : (k : ℕ) (o : Observation) → k < length xs → get_or xs k o ≡ o → o.station ≡ id → (first ≤ k) × (k < place)
  in_place k o inside at own = (low (cases_lt k first), high (cases_lt k place))
    where
      mine : (get_or xs k o).station ≡ id
      mine = ap (λ (x : Observation). x.station) at ∙ own

      low : (k < first) ⊎ (first ≤ k) → first ≤ k
      low (inl before) = (let less : order (get_or xs k o).station id ≡ Less = from.below k o before in
          let equal : order (get_or xs k o).station id ≡ Equal = ap (λ (s : List ℕ). order s id) mine ∙ order_itself id in
          cc)
      low (inr behind) = behind

      high : (k < place) ⊎ (place ≤ k) → k < place
      high (inl before) = before
      high (inr behind) = absurd (not_behind k o behind inside mine)

  pub times_read : AreTimesOf xs id times
  times_read = record {
    ascending = read.ascending;
    each = λ t. (
      (λ has.
          let old = read.told t has in
          let within = read.within in
          let inside : old.0 < length xs = omega (arith, old.2, within.1) in
          let item = item_at xs old.0 inside in (
            item.0,
            (old.0, inside, item.1 item.0),
            sym (ap (λ (o : Observation). o.station) (item.1 item.0)) ∙ read.own old.0 item.0 old.1 old.2,
            sym (ap (λ (o : Observation). o.t) (item.1 item.0)) ∙ old.3 item.0,
          )),
      (λ some.
          let o : Observation = some.0 in
          let place_of = in_place some.1.0 o some.1.1 some.1.2 some.2 in
          subst (Contains times) (ap (λ (x : Observation). x.t) some.1.2 ∙ some.3) (read.there some.1.0 o place_of.0 place_of.1)),
    );
  }

-- the times of an observation's station are an axis
pub axis_read : (xs : List Observation) (o : Observation) (times : List ℤ) → Contains xs o → AreTimesOf xs o.station times → AreTimes xs o.station times
axis_read xs o times among are =
    let has : Contains times o.t = (are.each o.t).1 (o, among, refl, refl) in
    (record { some = omega (arith, has.1); ascending = are.ascending }, are.each)

pub ok_times : {E : Type 0} (xs : List Observation) (id : List ℕ) (r : Result (List ℤ) E) (told times : List ℤ) → told ≡ times → AreTimes xs id times
    → IfOk r (λ axis. axis ≡ told) → IfOk r (AreTimes xs id)
ok_times xs id (Ok axis) told times e are is = subst (AreTimes xs id) (sym (is ∙ e)) are
ok_times xs id (Err f) told times e are is = tt
