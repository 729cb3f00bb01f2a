-- Observations that differ from earlier ones, or repeat them.
use Rattle.std.proofs.Common.{◌≡◌, inl, inr, ℕ, ◌+◌, ◌<◌, Bool, true, false, ℤ, List, [], ◌∷◌, ◌++◌, length, take, get_or, Option, Some, None, All, IsTrue, ◌↔◌, MatchOption, refl, sym, ap, ap₂, subst, ◌∙◌, arith}
use Rattle.std.specs.List.{Contains}
use Rattle.std.proofs.lemmas.Bool.{false≢true}
use Rattle.std.proofs.lemmas.List.{take_more, get_or-take, get_or_default, length-take-le}
use Rattle.edr_base.specs.Names.{IsName}
use Rattle.edr_base.specs.CutLaws.{cut_unique}
use Rattle.edr_base.specs.FirstThatApplies.{IsFirstPlace}
use Rattle.edr_axes.specs.Instants.{TextsTellTimes, instant_text}
use Rattle.edr_ids.specs.Ids.{AreById, item_of, with_item}
use Rattle.edr_ids.specs.ListLaws.{item_found}
use Rattle.edr_csv.specs.declared.observations.Observation.{Observation}
use Rattle.edr_csv.specs.declared.sites.Site.{Site}
use Rattle.edr_csv.specs.declared.keys.Key.{Key}
use Rattle.edr_csv.specs.Observations.{DiffersAt, IsSamePlace, IsSameSample, RepeatsAt, station_of}
use Rattle.edr_csv.specs.Notes.{IsAtSite, IsKeyed, key_id, key_of, site_id, site_of}
use Rattle.edr_csv.proofs.FormLemmas.{below_or_at}
use Rattle.edr_csv.proofs.NoteLemmas.{AreNoted, first_noted, none_before, not_among, noted_id, notes_on, notes_stay}

-- nothing of this kind stands before a place
abbrev pub NoneBefore : (ℕ → Type 0) → ℕ → Type 0
NoneBefore P place = (k : ℕ) → k < place → ¬ (P k)

pub none_at_first : (P : ℕ → Type 0) → NoneBefore P 0
none_at_first P k before = absurd (omega (arith, before))

pub none_on : (P : ℕ → Type 0) (place : ℕ) → NoneBefore P place → ¬ (P place) → NoneBefore P (place + 1)
none_on P place none here k before at = elim (below_or_at k place before) [
  | inl less ↦ none k less at
  | inr same ↦ here (subst P same at)
]

pub first_at : (P : ℕ → Type 0) (place : ℕ) → NoneBefore P place → P place → IsFirstPlace P place
first_at P place none at = record { applies = at; none_before = none }

module _ (os : List Observation) (place : ℕ) (o : Observation) (inside : place < length os) (is : o ≡ get_or os place o) where
  -- the observation at the place, whatever the default
  here : (d : Observation) → get_or os place d ≡ o
  here d = get_or_default os place d o inside ∙ sym is

  more : take (place + 1) os ≡ take place os ++ o ∷ []
  more = take_more os place o inside ∙ ap (λ (x : Observation). take place os ++ x ∷ []) (sym is)

  -- ---- stations

  -- a new station
  pub site_on : AreById site_id → (sites : List Site) → AreNoted site_id site_of sites (take place os) → item_of site_id o.station sites ≡ None
      → ¬ (DiffersAt os place) × AreNoted site_id site_of (with_item site_id (site_of o) sites) (take (place + 1) os)
  site_on laws sites are new =
      let none : item_of (noted_id site_id site_of) o.station (take place os) ≡ None = none_before site_id site_of sites (take place os) are o.station new in (
        (λ differs.
            let found : item_of station_of o.station (take place os) ≡ Some differs.first = subst (λ (x : Observation). item_of station_of (station_of x) (take place os) ≡ Some differs.first) (here differs.first) differs.first_is in
            let both : None ≡ Some differs.first = sym none ∙ found in
            cc both),
        subst (AreNoted site_id site_of (with_item site_id (site_of o) sites)) (sym more) (notes_on site_id site_of sites (take place os) are laws o new),
      )

  -- a station that is noted
  pub site_stays : (sites : List Site) (site : Site) → AreNoted site_id site_of sites (take place os) → item_of site_id o.station sites ≡ Some site → IsAtSite site o
      → ¬ (DiffersAt os place) × AreNoted site_id site_of sites (take (place + 1) os)
  site_stays sites site are known at =
      let first = first_noted site_id site_of sites (take place os) are o.station site known in (
        (λ differs.
            let found : item_of station_of o.station (take place os) ≡ Some differs.first = subst (λ (x : Observation). item_of station_of (station_of x) (take place os) ≡ Some differs.first) (here differs.first) differs.first_is in
            let both : Some first.0 ≡ Some differs.first = sym first.1 ∙ found in
            let same : first.0 ≡ differs.first = cc both in
            let own : IsSamePlace differs.first o = subst (λ (x : Observation). IsSamePlace x o) same (subst (λ (s : Site). IsAtSite s o) first.2 at) in
            differs.differs (subst (IsSamePlace differs.first) (sym (here differs.first)) own)),
        subst (AreNoted site_id site_of sites) (sym more) (notes_stay site_id site_of sites (take place os) are o site known),
      )

  pub differs_here : (sites : List Site) (site : Site) → AreNoted site_id site_of sites (take place os) → item_of site_id o.station sites ≡ Some site → ¬ (IsAtSite site o) → DiffersAt os place
  differs_here sites site are known not =
      let first = first_noted site_id site_of sites (take place os) are o.station site known in
      record {
        within = inside;
        first = first.0;
        first_is = subst (λ (x : Observation). item_of station_of (station_of x) (take place os) ≡ Some first.0) (sym (here first.0)) first.1;
        differs = λ same. not (subst (λ (s : Site). IsAtSite s o) (sym first.2) (subst (IsSamePlace first.0) (here first.0) same));
      }

  -- ---- keys

  -- a new key
  pub key_on : AreById key_id → (keys : List Key) → AreNoted key_id key_of keys (take place os) → item_of key_id (key_id (key_of o)) keys ≡ None
      → ¬ (RepeatsAt os place) × AreNoted key_id key_of (with_item key_id (key_of o) keys) (take (place + 1) os)
  key_on laws keys are new =
      let none : item_of (noted_id key_id key_of) (key_id (key_of o)) (take place os) ≡ None = none_before key_id key_of keys (take place os) are (key_id (key_of o)) new in (
        (λ repeats.
            let early : get_or (take place os) repeats.earlier o ≡ get_or os repeats.earlier o = get_or-take place os repeats.earlier o repeats.before in
            let long : length (take place os) ≡ place = length-take-le place os (omega (arith, inside)) in
            let same : IsSameSample (get_or os repeats.earlier o) o = subst (IsSameSample (get_or os repeats.earlier o)) (here o) (repeats.same o) in
            let before = repeats.before in
            not_among (noted_id key_id key_of) (key_id (key_of o)) (take place os) repeats.earlier o none (omega (arith, long, before))
            (ap (λ (x : Observation). key_id (key_of x)) early ∙ same_key (get_or os repeats.earlier o) same)),
        subst (AreNoted key_id key_of (with_item key_id (key_of o) keys)) (sym more) (notes_on key_id key_of keys (take place os) are laws o new),
      )
    where
      same_key : (e : Observation) → IsSameSample e o → key_id (key_of e) ≡ key_id (key_of o)
      same_key e (s, t, p) = ap₂ (λ (a : List ℕ) (b : List ℕ). a ++ b) (ap instant_text t) (ap₂ (λ (a : List ℕ) (b : List ℕ). a ++ 44 ∷ b) s p)

  -- a key that is noted
  pub repeats_here : ((a b : Observation) → IsKeyed a → IsKeyed b → key_id (key_of a) ≡ key_id (key_of b) → IsSameSample a b) → All IsKeyed os → (keys : List Key) (key : Key)
      → AreNoted key_id key_of keys (take place os) → item_of key_id (key_id (key_of o)) keys ≡ Some key → RepeatsAt os place
  repeats_here tell keyed keys key are known =
      let first = first_noted key_id key_of keys (take place os) are (key_id (key_of o)) key known in
      let found = item_found (noted_id key_id key_of) (key_id (key_of o)) (take place os) first.0 first.1 in
      let k : ℕ = found.0.0 in
      let long : length (take place os) ≡ place = length-take-le place os (omega (arith, inside)) in
      let short = found.0.1 in
      let before : k < place = omega (arith, long, short) in
      let at : (d : Observation) → get_or os k d ≡ first.0 = λ d. get_or_default os k d first.0 (omega (arith, before, inside)) ∙ sym (get_or-take place os k first.0 before) ∙ found.0.2 in
      let early : IsKeyed first.0 = subst IsKeyed (at o) (keyed k o (omega (arith, before, inside))) in
      let late : IsKeyed o = subst IsKeyed (here o) (keyed place o inside) in
      let same : IsSameSample first.0 o = tell first.0 o early late found.1 in
      record {
        within = inside;
        earlier = k;
        before = before;
        same = λ d. subst (λ (x : Observation). IsSameSample x (get_or os place d)) (sym (at d)) (subst (IsSameSample first.0) (sym (here d)) same);
      }

-- ---- a key tells its time, its station and its parameter

-- texts of one length before others
heads : (a b c d : List ℕ) → length a ≡ length c → a ++ b ≡ c ++ d → (a ≡ c) × (b ≡ d)
heads [] b [] d same e = (refl, e)
heads [] b (y ∷ c) d same e = absurd (omega (arith, same))
heads (x ∷ a) b [] d same e = absurd (omega (arith, same))
heads (x ∷ a) b (y ∷ c) d same e =
    let rest = heads a b c d (omega (arith, same)) (cc e) in
    (cc (e, rest.0), rest.1)

no_comma : (text : List ℕ) → IsName text → ¬ (Contains text 44)
no_comma text name (k, inside, at) = (name.bytes k 44 inside).no_comma at

written_long : (t : ℤ) → length (instant_text t) ≡ 20
unfolding instant_text
written_long t = refl

pub keys_tell : TextsTellTimes → (a b : Observation) → IsKeyed a → IsKeyed b → key_id (key_of a) ≡ key_id (key_of b) → IsSameSample a b
keys_tell tell a b p q e =
    let cut = heads (instant_text a.t) (a.station ++ 44 ∷ a.parameter) (instant_text b.t) (b.station ++ 44 ∷ b.parameter) (written_long a.t ∙ sym (written_long b.t)) e in
    let rest = cut_unique 44 a.station a.parameter b.station b.parameter (no_comma a.station p.station) (no_comma b.station q.station) cut.1 in
    (rest.0, tell a.t b.t p.t q.t cut.0, rest.1)

-- ---- the steps of the loops

module _ (os : List Observation) (place : ℕ) (o : Observation) (inside : place < length os) (is : o ≡ get_or os place o) where
  abbrev pub SiteStep : Bool → List Site → List Site → Type 0
  SiteStep at sites new =
      MatchOption (item_of site_id o.station sites)
      ((at ≡ true) × (new ≡ with_item site_id (site_of o) sites))
      (λ site. (IsTrue at ↔ IsAtSite site o) × (new ≡ sites))

  pub site_step : AreById site_id → (at : Bool) (sites new : List Site) → AreNoted site_id site_of sites (take place os) → SiteStep at sites new → at ≡ true
      → ¬ (DiffersAt os place) × AreNoted site_id site_of new (take (place + 1) os)
  site_step laws at sites new are step true_ = by_case (item_of site_id o.station sites) refl
    where
      by_case : (found : Option Site) → item_of site_id o.station sites ≡ found → ¬ (DiffersAt os place) × AreNoted site_id site_of new (take (place + 1) os)
      by_case None e =
          let told : (at ≡ true) × (new ≡ with_item site_id (site_of o) sites) = rw e at step in
          let on = site_on os place o inside is laws sites are e in
          (on.0, subst (λ (s : List Site). AreNoted site_id site_of s (take (place + 1) os)) (sym told.1) on.1)
      by_case (Some site) e =
          let told : (IsTrue at ↔ IsAtSite site o) × (new ≡ sites) = rw e at step in
          let on = site_stays os place o inside is sites site are e (told.0.0 true_) in
          (on.0, subst (λ (s : List Site). AreNoted site_id site_of s (take (place + 1) os)) (sym told.1) on.1)

  pub site_stop : (at : Bool) (sites new : List Site) → AreNoted site_id site_of sites (take place os) → SiteStep at sites new → at ≡ false → DiffersAt os place
  site_stop at sites new are step false_ = by_case (item_of site_id o.station sites) refl
    where
      by_case : (found : Option Site) → item_of site_id o.station sites ≡ found → DiffersAt os place
      by_case None e = (let told : (at ≡ true) × (new ≡ with_item site_id (site_of o) sites) = rw e at step in absurd (false≢true (sym false_ ∙ told.0)))
      by_case (Some site) e =
          let told : (IsTrue at ↔ IsAtSite site o) × (new ≡ sites) = rw e at step in
          differs_here os place o inside is sites site are e (λ same. false≢true (sym false_ ∙ told.0.1 same))

  abbrev pub KeyStep : Bool → List Key → List Key → Type 0
  KeyStep new keys after =
      MatchOption (item_of key_id (key_id (key_of o)) keys)
      ((new ≡ true) × (after ≡ with_item key_id (key_of o) keys))
      (λ key. new ≡ false)

  pub key_step : AreById key_id → (new : Bool) (keys after : List Key) → AreNoted key_id key_of keys (take place os) → KeyStep new keys after → new ≡ true
      → ¬ (RepeatsAt os place) × AreNoted key_id key_of after (take (place + 1) os)
  key_step laws new keys after are step true_ = by_case (item_of key_id (key_id (key_of o)) keys) refl
    where
      by_case : (found : Option Key) → item_of key_id (key_id (key_of o)) keys ≡ found → ¬ (RepeatsAt os place) × AreNoted key_id key_of after (take (place + 1) os)
      by_case None e =
          let told : (new ≡ true) × (after ≡ with_item key_id (key_of o) keys) = rw e at step in
          let on = key_on os place o inside is laws keys are e in
          (on.0, subst (λ (s : List Key). AreNoted key_id key_of s (take (place + 1) os)) (sym told.1) on.1)
      by_case (Some key) e = (let told : new ≡ false = rw e at step in absurd (false≢true (sym told ∙ true_)))

  pub key_stop : TextsTellTimes → All IsKeyed os → (new : Bool) (keys after : List Key) → AreNoted key_id key_of keys (take place os) → KeyStep new keys after → new ≡ false → RepeatsAt os place
  key_stop tell keyed new keys after are step false_ = by_case (item_of key_id (key_id (key_of o)) keys) refl
    where
      by_case : (found : Option Key) → item_of key_id (key_id (key_of o)) keys ≡ found → RepeatsAt os place
      by_case None e = (let told : (new ≡ true) × (after ≡ with_item key_id (key_of o) keys) = rw e at step in absurd (false≢true (sym false_ ∙ told.0)))
      by_case (Some key) e = repeats_here os place o inside is (keys_tell tell) keyed keys key are e

-- nothing of this kind stands anywhere
pub none_ever : (P : ℕ → Type 0) (count : ℕ) → NoneBefore P count → ((k : ℕ) → P k → k < count) → (k : ℕ) → ¬ (P k)
none_ever P count none within k at = none k (within k at) at
