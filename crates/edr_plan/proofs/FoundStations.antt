-- Places of stations that have all that pass: those in a box, those of an id; and what is taken at such places is all that is taken.
use Rattle.std.proofs.Common.{All, Bool, Contains, List, None, Some, [], ap, arith, cond, false, inl, inr, int_le, length, map, refl, subst, suc, sym, true, zero, ℕ, ℤ, ◌+◌, ◌<ℤ◌, ◌<◌, ◌||◌, ◌∙◌, ◌∷◌, ◌≡◌, ◌≤◌}
use Rattle.std.specs.List.{enumerate_from, filter, flat_map, list_any, range_with_len}
use Rattle.std.proofs.lemmas.Bool.{and_from, cases_lt, false_from_ne_true, false≢true}
use Rattle.std.proofs.lemmas.Int.{by_lt_z, ints}
use Rattle.std.proofs.lemmas.List.Concat.{flat_map_single}
use Rattle.std.proofs.lemmas.List.Elements.{All-cons, All-filter, All-head, All-map, All-nil, All-tail, All-weaker}
use Rattle.std.proofs.lemmas.List.FromFn.{get_or-enumerate_from, length-enumerate_from}
use Rattle.std.proofs.lemmas.List.Kept.{AllPairs-cons}
use Rattle.std.proofs.lemmas.Slice.Eq.{bytes_eq-Decides}
use Rattle.edr_base.specs.declared.places.Spot.{Spot}
use Rattle.edr_edition.specs.Values.{CollectionValue}
use Rattle.edr_geometry.specs.Planar.{in_disc}
use Rattle.edr_ids.specs.Ids.{AscendBy, item_of}
use Rattle.edr_ids.specs.ListLaws.{item_found, item_of-found}
use Rattle.edr_query.specs.Values.{QueryValue}
use Rattle.edr_query.specs.declared.shapes.Shape.{Shape}
use Rattle.edr_select.specs.ListLaws.{all_member, any-map, flat_map-cond, member_here, member_later, no_member}
use Rattle.edr_select.specs.Listings.{NumbersRise}
use Rattle.edr_select.specs.Masks.{IsArea, IsCentre, LiesIn, takes_spot}
use Rattle.edr_select.specs.declared.reaches.Reach.{Reach}
use Rattle.edr_station.specs.Boxes.{Placed, is_inside, is_placed_inside, place_of, places_from, places_inside}
use Rattle.edr_station.specs.Stations.{StationValue, nowhere, station_at, station_id}
use Rattle.edr_wkt.specs.Geometries.{positions_of}
use Rattle.edr_wkt.specs.declared.geometry.Geometry.{Geometry}
use Rattle.edr_plan.specs.StationPlaces.{HasAll, is_taken, spot_of, takes_station}
use Rattle.edr_plan.specs.StationPlans.{all_series, series_of, series_where_taken}
use Rattle.edr_plan.proofs.StationCells.{rise_head, rise_tail}
use Rattle.edr_plan.proofs.StationIds.{one_station}
use Rattle.edr_query.specs.declared.shapes.Shape.TheVariants as at
use Rattle.edr_geometry.specs.Planar as plane

-- ---- in a box

-- the places of the stations inside, among all places
inside_below : (lo hi : Spot) (first : ℕ) (stations : List StationValue) → All (λ k. k < first + length stations) (places_from first lo hi stations)
inside_below lo hi first stations =
    All-map (λ k. k < first + length stations) place_of (filter (is_placed_inside lo hi) (enumerate_from first stations))
    (All-filter (is_placed_inside lo hi) (λ (p : Placed). place_of p < first + length stations) (enumerate_from first stations)
    (λ k d l.
    let inside : k < length stations = omega (arith, l, length-enumerate_from first stations) in
    omega (arith, ap place_of (get_or-enumerate_from first stations k d inside), inside)))

from_first : (lo hi : Spot) (first : ℕ) (stations : List StationValue) → All (λ k. first ≤ k) (places_from first lo hi stations)
from_first lo hi first [] = All-nil (λ k. first ≤ k)
from_first lo hi first (s ∷ stations) =
    here (is_inside lo hi s) (All-weaker (λ k. first + 1 ≤ k) (λ k. first ≤ k) (λ k h. omega (arith, h)) (places_from (first + 1) lo hi stations) (from_first lo hi (first + 1) stations))
  where
    here : (b : Bool) → All (λ k. first ≤ k) (places_from (first + 1) lo hi stations)
        → All (λ k. first ≤ k) (map (λ (placed : ℕ × StationValue). placed.0) (cond b ((first, s) ∷ filter (λ (placed : ℕ × StationValue). is_inside lo hi placed.1) (enumerate_from (first + 1) stations))
        (filter (λ (placed : ℕ × StationValue). is_inside lo hi placed.1) (enumerate_from (first + 1) stations))))
    here true rest = All-cons (λ k. first ≤ k) first (places_from (first + 1) lo hi stations) (omega arith) rest
    here false rest = rest

places_rise : (lo hi : Spot) (first : ℕ) (stations : List StationValue) → NumbersRise (places_from first lo hi stations)
places_rise lo hi first [] = λ i j d lt l. absurd (omega (arith, l))
places_rise lo hi first (s ∷ stations) =
    here (is_inside lo hi s) (places_rise lo hi (first + 1) stations)
  where
    here : (b : Bool) → NumbersRise (places_from (first + 1) lo hi stations)
        → NumbersRise (map (λ (placed : ℕ × StationValue). placed.0) (cond b ((first, s) ∷ filter (λ (placed : ℕ × StationValue). is_inside lo hi placed.1) (enumerate_from (first + 1) stations))
        (filter (λ (placed : ℕ × StationValue). is_inside lo hi placed.1) (enumerate_from (first + 1) stations))))
    here true rest =
        AllPairs-cons (λ x y. x < y) first (places_from (first + 1) lo hi stations)
        (All-weaker (λ k. first + 1 ≤ k) (λ k. first < k) (λ k h. omega (arith, h)) (places_from (first + 1) lo hi stations) (from_first lo hi (first + 1) stations)) rest
    here false rest = rest

inside_contained : (lo hi : Spot) (first : ℕ) (stations : List StationValue) (k : ℕ) → k < length stations → is_inside lo hi (station_at stations k) ≡ true
    → Contains (places_from first lo hi stations) (first + k)
inside_contained lo hi first [] k l h = absurd (omega arith)
inside_contained lo hi first (s ∷ stations) k l h = here (is_inside lo hi s) k l h refl (λ j m. inside_contained lo hi (first + 1) stations j m)
  where
    none : (a : ℕ) → a ≡ a + 0
    none a = omega arith

    next : (a j : ℕ) → (a + 1) + j ≡ a + suc j
    next a j = omega arith

    here : (b : Bool) (k : ℕ) → k < length (s ∷ stations) → is_inside lo hi (station_at (s ∷ stations) k) ≡ true → is_inside lo hi s ≡ b
        → ((j : ℕ) → j < length stations → is_inside lo hi (station_at stations j) ≡ true → Contains (places_from (first + 1) lo hi stations) ((first + 1) + j))
        → Contains (map (λ (placed : ℕ × StationValue). placed.0) (cond b ((first, s) ∷ filter (λ (placed : ℕ × StationValue). is_inside lo hi placed.1) (enumerate_from (first + 1) stations))
        (filter (λ (placed : ℕ × StationValue). is_inside lo hi placed.1) (enumerate_from (first + 1) stations)))) (first + k)
    here true zero l h e later = subst (Contains (first ∷ places_from (first + 1) lo hi stations)) (none first) (member_here first (places_from (first + 1) lo hi stations))
    here false zero l h e later = absurd (false≢true (sym e ∙ h))
    here true (suc j) l h e later =
        subst (Contains (first ∷ places_from (first + 1) lo hi stations)) (next first j)
        (member_later first ((first + 1) + j) (places_from (first + 1) lo hi stations) (later j (omega (arith, l)) h))
    here false (suc j) l h e later = subst (Contains (places_from (first + 1) lo hi stations)) (next first j) (later j (omega (arith, l)) h)

-- the places in a box have each station that passes, where only stations inside pass
pub box_has : (lo hi : Spot) (stations : List StationValue) (t : ℕ → Bool) → ((k : ℕ) → t k ≡ true → is_inside lo hi (station_at stations k) ≡ true)
    → (places : List ℕ) → places ≡ places_inside lo hi stations → HasAll stations t places
box_has lo hi stations t inside places is = record {
  below =
      subst (All (λ k. k < length stations)) (sym is)
      (All-weaker (λ k. k < 0 + length stations) (λ k. k < length stations) (λ k l. omega arith) (places_inside lo hi stations) (inside_below lo hi 0 stations));
  rise = subst NumbersRise (sym is) (places_rise lo hi 0 stations);
  has = λ k l h. subst (λ (ps : List ℕ). Contains ps k) (sym is) (subst (Contains (places_inside lo hi stations)) (zero_more k) (inside_contained lo hi 0 stations k l (inside k h)));
}
  where
    zero_more : (k : ℕ) → 0 + k ≡ k
    zero_more k = omega arith

-- of fewer stations too
pub has_fewer : (stations : List StationValue) (t u : ℕ → Bool) → ((k : ℕ) → u k ≡ true → t k ≡ true) → (places : List ℕ) → HasAll stations t places → HasAll stations u places
has_fewer stations t u fewer places has = record { below = has.below; rise = has.rise; has = λ k l h. has.has k l (fewer k h) }

-- ---- in the box round a shape

-- a shape of places takes a station where it takes its place
takes_is : (shape : Shape) → IsArea shape → (s : StationValue) → takes_station shape s ≡ takes_spot shape (spot_of s)
takes_is (at.Position geometry) area s = absurd area
takes_is (at.Radius geometry within) area s = refl
takes_is (at.Area geometry) area s = refl
takes_is (at.Cube lo hi levels) area s = refl
takes_is (at.Trajectory geometry) area s = absurd area
takes_is (at.Corridor geometry width height) area s = absurd area
takes_is (at.Location id) area s = absurd area

or_none : (b : Bool) → (b || false) ≡ b
or_none true = refl
or_none false = refl

-- the disc round a point takes what is in the disc round its place
pub takes_disc : (geometry : Geometry) (within : ℤ) (centre spot : Spot) → IsCentre geometry centre → takes_spot (at.Radius geometry within) spot ≡ in_disc spot centre within
takes_disc geometry within centre spot is =
    sym (any-map (λ s. in_disc spot s within) plane.spot_of (positions_of geometry))
    ∙ ap (list_any (λ s. in_disc spot s within)) is.alone ∙ or_none (in_disc spot centre within)

from_low : (low value : ℤ) (b : Bool) → (value <ℤ low → b ≡ false) → b ≡ true → int_le low value ≡ true
from_low low value b h taken = by_lt_z value low (λ below. cc (h below)) (λ above. grind (arith, ints))

to_high : (high value : ℤ) (b : Bool) → (high <ℤ value → b ≡ false) → b ≡ true → int_le value high ≡ true
to_high high value b h taken = by_lt_z high value (λ above. cc (h above)) (λ below. grind (arith, ints))

-- from the left to the right of a reach, and from its low to its high
pub record IsBoxRound (reach : Reach) (lo hi : Spot) : Type 0 where
  pub left : lo.x ≡ reach.left
  pub right : hi.x ≡ reach.right
  pub low : lo.y ≡ reach.low
  pub high : hi.y ≡ reach.high

pub taken_inside : (shape : Shape) (reach : Reach) (lo hi : Spot) → IsArea shape → LiesIn shape reach → IsBoxRound reach lo hi → (s : StationValue)
    → takes_station shape s ≡ true → is_inside lo hi s ≡ true
taken_inside shape reach lo hi area lies round s taken =
    let spot = spot_of s in
    let takes : takes_spot shape spot ≡ true = sym (takes_is shape area s) ∙ taken in
    and_from _ _
    (and_from _ _ (from_low lo.x s.x (takes_spot shape spot) (λ below. lies.before spot (subst (λ v. s.x <ℤ v) round.left below)) takes)
    (to_high hi.x s.x (takes_spot shape spot) (λ above. lies.behind spot (subst (λ v. v <ℤ s.x) round.right above)) takes))
    (and_from _ _ (from_low lo.y s.y (takes_spot shape spot) (λ below. lies.below spot (subst (λ v. s.y <ℤ v) round.low below)) takes)
    (to_high hi.y s.y (takes_spot shape spot) (λ above. lies.above spot (subst (λ v. v <ℤ s.y) round.high above)) takes))

-- ---- of an id

abbrev is_of : Shape → List StationValue → ℕ → Bool
is_of shape stations k = takes_station shape (station_at stations k)

module _ (shape : Shape) (id : List ℕ) (stations : List StationValue) (is : shape ≡ at.Location id) (up : AscendBy station_id stations) where
  same_id : (k : ℕ) → is_of shape stations k ≡ true → (station_at stations k).id ≡ id
  same_id k h =
      sym ((bytes_eq-Decides id (station_at stations k).id).0 (sym (ap (λ (shape : Shape). takes_station shape (station_at stations k)) is) ∙ h))

  pub id_alone : (place : ℕ) → place < length stations → Some (station_at stations place) ≡ item_of station_id id stations → HasAll stations (is_of shape stations) (place ∷ [])
  id_alone place inside found = record {
    below = All-cons (λ k. k < length stations) place [] inside (All-nil (λ k. k < length stations));
    rise = λ i j d lt l. absurd (omega (arith, lt, l));
    has = λ k l h.
        subst (Contains (place ∷ []))
        (one_station stations up place k inside l ((item_found station_id id stations (station_at stations place) (sym found)).1 ∙ sym (same_id k h)))
        (member_here place []);
  }

  pub id_missing : None ≡ item_of station_id id stations → HasAll stations (is_of shape stations) []
  id_missing none = record {
    below = All-nil (λ k. k < length stations);
    rise = λ i j d lt l. absurd (omega (arith, l));
    has = λ k l h.
        let there : item_of station_id id stations ≡ Some (station_at stations k) = item_of-found station_id id stations k nowhere up l (same_id k h) in cc;
  }

-- ---- of places that rise and have all that pass, those that pass are all

none_kept : (t : ℕ → Bool) (a n : ℕ) → ((k : ℕ) → a ≤ k → k < a + n → t k ≡ false) → filter t (range_with_len a n) ≡ []
none_kept t a zero h = refl
none_kept t a (suc n) h =
    ap (λ b. cond b (a ∷ filter t (range_with_len (a + 1) n)) (filter t (range_with_len (a + 1) n))) (h a (omega arith) (omega arith))
    ∙ none_kept t (a + 1) n (λ k l m. h k (omega (arith, l)) (omega (arith, m)))

among_later : (x k : ℕ) (xs : List ℕ) → Contains (x ∷ xs) k → (x ≡ k → ⊥) → Contains xs k
among_later x k xs (zero, l, e) differs = absurd (differs e)
among_later x k xs (suc i, l, e) differs = (i, omega (arith, l), e)

-- a number below all of them isn't among them
not_among : (a p : ℕ) (places : List ℕ) → a < p → NumbersRise (p ∷ places) → Contains (p ∷ places) a → ⊥
not_among a p places above rise c =
    let from : p ≤ a = all_member (λ k. p ≤ k) (p ∷ places) a
    (All-cons (λ k. p ≤ k) p places (omega arith) (All-weaker (λ k. p < k) (λ k. p ≤ k) (λ k h. omega (arith, h)) places (rise_head p places rise))) c in
    absurd (omega (arith, above, from))

rising_kept : (t : ℕ → Bool) (a n : ℕ) (places : List ℕ) → NumbersRise places → All (λ k. a ≤ k) places → All (λ k. k < a + n) places
    → ((k : ℕ) → a ≤ k → k < a + n → t k ≡ true → Contains places k) → filter t places ≡ filter t (range_with_len a n)
rising_kept t a zero [] rise low high has = refl
rising_kept t a zero (p ∷ places) rise low high has =
    absurd (omega (arith, All-head (λ k. a ≤ k) p places low, All-head (λ k. k < a + 0) p places high))
rising_kept t a (suc n) [] rise low high has = sym (none_kept t a (suc n) (λ k l h. false_from_ne_true (t k) (λ e. no_member [] k refl (has k l h e))))
rising_kept t a (suc n) (p ∷ places) rise low high has =
    let first : a ≤ p = All-head (λ k. a ≤ k) p places low in
    let behind : All (λ k. p < k) places = rise_head p places rise in
    elim (cases_lt a p) [
      | inl above ↦
          rising_kept t (a + 1) n (p ∷ places) rise
          (All-cons (λ k. a + 1 ≤ k) p places (omega (arith, above)) (All-weaker (λ k. p < k) (λ k. a + 1 ≤ k) (λ k h. omega (arith, h, above)) places behind))
          (All-weaker (λ k. k < a + suc n) (λ k. k < (a + 1) + n) (λ k h. omega (arith, h)) (p ∷ places) high)
          (λ k l h e. has k (omega (arith, l)) (omega (arith, h)) e)
          ∙ sym (ap (λ b. cond b (a ∷ filter t (range_with_len (a + 1) n)) (filter t (range_with_len (a + 1) n)))
          (false_from_ne_true (t a) (λ e. not_among a p places above rise (has a (omega arith) (omega arith) e))))
      | inr from ↦
          let same : p ≡ a = omega (arith, from, first) in
          ap (λ (r : List ℕ). cond (t p) (p ∷ r) r)
          (rising_kept t (a + 1) n places (rise_tail p places rise) (All-weaker (λ k. p < k) (λ k. a + 1 ≤ k) (λ k h. omega (arith, h, same)) places behind)
          (All-weaker (λ k. k < a + suc n) (λ k. k < (a + 1) + n) (λ k h. omega (arith, h)) places (All-tail (λ k. k < a + suc n) p places high))
          (λ k l h e. among_later p k places (has k (omega (arith, l)) (omega (arith, h)) e) (λ f. absurd (omega (arith, l, f, same)))))
          ∙ ap (λ (x : ℕ). cond (t x) (x ∷ filter t (range_with_len (a + 1) n)) (filter t (range_with_len (a + 1) n))) same
    ]

-- so the coverages of these stations are all
pub found_are_all : (collection : CollectionValue) (q : QueryValue) (places : List ℕ) → HasAll collection.stations (is_taken collection q) places
    → flat_map (series_where_taken collection q) places ≡ all_series collection q
found_are_all collection q places has =
    flat_map-cond (is_taken collection q) (λ k. series_of collection q k ∷ []) places
    ∙ (ap (flat_map (λ k. series_of collection q k ∷ []))
    (rising_kept (is_taken collection q) 0 (length collection.stations) places has.rise (λ k d l. omega arith)
    (All-weaker (λ k. k < length collection.stations) (λ k. k < 0 + length collection.stations) (λ k h. omega (arith, h)) places has.below)
    (λ k l h e. has.has k (omega (arith, h)) e))
    ∙ flat_map_single (series_of collection q) (filter (is_taken collection q) (range_with_len 0 (length collection.stations))))
