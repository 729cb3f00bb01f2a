-- The values of stations, one after another.
use Rattle.std.proofs.Common.{◌≡◌, inl, inr, ℕ, ◌+◌, ◌<◌, List, [], ◌∷◌, ◌++◌, length, get_or, ℤ, Option, None, refl, sym, ap, ◌∙◌, subst, arith}
use Rattle.std.proofs.Math.Seq.{get_or-append_seam}
use Rattle.std.proofs.lemmas.Bool.{cases_lt}
use Rattle.std.proofs.lemmas.List.{get_or_append_left, length-append}
use Rattle.covjson_value.specs.declared.coverages.NdArray.{NdArray}
use Rattle.edr_axes.specs.Axes.{value_at}
use Rattle.edr_csv.specs.declared.observations.Observation.{Observation}
use Rattle.edr_import.specs.declared.names.Name.{Name}
use Rattle.edr_import.specs.declared.sites.Site.{Site}
use Rattle.edr_import.specs.Tables.{IsValueAt, AreValues, AreSeries, name_id}

-- each item of a list that is put together one after another
pub each_more : {X : Type 0} (P : ℕ → X → Type 0) (xs : List X) (x : X) (n : ℕ) → length xs ≡ n → ((k : ℕ) (d : X) → k < n → P k (get_or xs k d)) → P n x
    → (k : ℕ) (d : X) → k < n + 1 → P k (get_or (xs ++ x ∷ []) k d)
each_more P xs x n long each last k d inside = elim (cases_lt k n) [
  | inl before ↦ subst (P k) (sym (get_or_append_left xs (x ∷ []) d k (omega (arith, before, long)))) (each k d before)
  | inr behind ↦ (let is : k ≡ n = omega (arith, inside, behind) in
      let at : get_or (xs ++ x ∷ []) k d ≡ x = ap (λ (m : ℕ). get_or (xs ++ x ∷ []) m d) (is ∙ sym long) ∙ get_or-append_seam xs x [] d in
      subst (P k) (sym at) (subst (λ (m : ℕ). P m x) (sym is) last))
]

pub long_more : {X : Type 0} (xs : List X) (x : X) (n : ℕ) → length xs ≡ n → length (xs ++ x ∷ []) ≡ n + 1
long_more xs x n long = omega (arith, long, length-append xs (x ∷ []))

-- the first values of a parameter
pub record HasValues (xs : List Observation) (site : Site) (parameter : List ℕ) (n : ℕ) (values : List (Option ℤ)) : Type 0 where
  pub count : length values ≡ n
  pub each : (k : ℕ) (d : Option ℤ) → k < n → IsValueAt xs site.id (value_at site.times k) parameter (get_or values k d)

pub no_values : (xs : List Observation) (site : Site) (parameter : List ℕ) → HasValues xs site parameter 0 []
no_values xs site parameter = record { count = refl; each = λ k d inside. absurd (omega (arith, inside)) }

pub values_on : (xs : List Observation) (site : Site) (parameter : List ℕ) (n : ℕ) (values : List (Option ℤ)) (value : Option ℤ) → HasValues xs site parameter n values
    → IsValueAt xs site.id (value_at site.times n) parameter value → HasValues xs site parameter (n + 1) (values ++ value ∷ [])
values_on xs site parameter n values value has is = record {
  count = long_more values value n has.count;
  each = each_more (λ k v. IsValueAt xs site.id (value_at site.times k) parameter v) values value n has.count has.each is;
}

pub all_values : (xs : List Observation) (site : Site) (parameter : List ℕ) (n : ℕ) (values : List (Option ℤ)) → HasValues xs site parameter n values → n ≡ length site.times
    → AreValues xs site parameter values
all_values xs site parameter n values has e = record {
  count = has.count ∙ e;
  each = λ k inside. has.each k None (omega (arith, inside, e));
}

-- the values of the first parameters
pub record HasSeries (xs : List Observation) (names : List Name) (site : Site) (n : ℕ) (ranges : List NdArray) : Type 0 where
  pub count : length ranges ≡ n
  pub each : (k : ℕ) (range : NdArray) → k < n → (name : Name) → AreValues xs site (name_id (get_or names k name)) (get_or ranges k range).values

pub no_series : (xs : List Observation) (names : List Name) (site : Site) → HasSeries xs names site 0 []
no_series xs names site = record { count = refl; each = λ k d inside. absurd (omega (arith, inside)) }

pub series_on : (xs : List Observation) (names : List Name) (site : Site) (n : ℕ) (ranges : List NdArray) (range : NdArray) → HasSeries xs names site n ranges
    → ((name : Name) → AreValues xs site (name_id (get_or names n name)) range.values) → HasSeries xs names site (n + 1) (ranges ++ range ∷ [])
series_on xs names site n ranges range has is = record {
  count = long_more ranges range n has.count;
  each = each_more (λ k (r : NdArray). (name : Name) → AreValues xs site (name_id (get_or names k name)) r.values) ranges range n has.count has.each is;
}

pub all_series : (xs : List Observation) (names : List Name) (site : Site) (n : ℕ) (ranges : List NdArray) → HasSeries xs names site n ranges → n ≡ length names
    → AreSeries xs names site ranges
all_series xs names site n ranges has e = record {
  count = has.count ∙ e;
  each = λ k name range inside. has.each k range (omega (arith, inside, e)) name;
}
