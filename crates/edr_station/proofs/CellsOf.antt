-- The stations in cells after one of them is set or taken out.
use Rattle.std.proofs.Common.{◌≡◌, ◌≢◌, ◌⊎◌, ℕ, ◌<◌, ◌≤◌, Bool, true, false, ◌&&◌, inl, inr, List, [], length, get_or, Contains, Option, Some, None, MatchOption, option_map, bytes_eq, refl, sym, ap, ap₂, ◌∙◌, subst, arith}
use Rattle.std.specs.Prelude.{◌↔◌}
use Rattle.std.specs.Ordering.{int_eq}
use Rattle.std.proofs.lemmas.Bool.{cases_Bool, false≢true, and_parts}
use Rattle.std.proofs.lemmas.Bool.Decides.{Decides-int_eq}
use Rattle.std.proofs.lemmas.Slice.Eq.{bytes_eq-Decides}
use Rattle.edr_base.specs.declared.places.Spot.{Spot}
use Rattle.edr_ids.specs.Ids.{AscendBy, AreById, item_of, with_item, without_id}
use Rattle.edr_ids.specs.ListLaws.{AscendBy-with_item, AscendBy-without_id, without_id-none}
use Rattle.edr_near.specs.Near.{is_it, distance_of, Nearest}
use Rattle.edr_near.specs.Cells.{CellValue, AreCells, Has, distances}
use Rattle.edr_near.specs.Looks.{AreLooks}
use Rattle.edr_station.specs.Stations.{StationValue, station_id, station_spot, station_at}
use Rattle.edr_station.specs.Nearest.{HaveThese, AreLookedAt}
use Rattle.edr_station.specs.Places.{IsSpanOf}
use Rattle.edr_station.proofs.SortedPlaces.{none_found}

is_one : (a b : StationValue) → Some a ≡ Some b → a ≡ b
is_one a b e = cc

not_none : (a : StationValue) → Some a ≡ None → ⊥
not_none a e = cc

same_id : (a b : List ℕ) → bytes_eq a b ≡ true → a ≡ b
same_id a b h = (bytes_eq-Decides a b).0 h

other_id : (a b : List ℕ) → bytes_eq a b ≡ false → a ≢ b
other_id a b h e = false≢true (sym h ∙ (bytes_eq-Decides a b).1 e)

module _ (by : AreById station_id) (stations : List StationValue) (up : AscendBy station_id stations) where
  found_in : (list : List StationValue) → AscendBy station_id list → (s : StationValue) → Contains list s → item_of station_id s.id list ≡ Some s
  found_in list ascend s there = (by.found s.id list s ascend).1 (there, refl)

  there_in : (list : List StationValue) → AscendBy station_id list → (s : StationValue) → item_of station_id s.id list ≡ Some s → Contains list s
  there_in list ascend s found = ((by.found s.id list s ascend).0 found).0

  -- ---- without the station of an id

  module _ (id : List ℕ) where
    abbrev left : List StationValue
    left = without_id station_id id stations

    left_up : AscendBy station_id left
    left_up = AscendBy-without_id station_id id stations up

    -- what is left has other ids
    left_differs : (s : StationValue) → Contains left s → s.id ≢ id
    left_differs s there own = not_none s (sym (found_in left left_up s there) ∙ (ap (λ k. item_of station_id k left) own ∙ by.taken_out id stations))

    was_there : (s : StationValue) → Contains left s → Contains stations s
    was_there s there = there_in stations up s (sym (by.left s.id id stations (left_differs s there)) ∙ found_in left left_up s there)

    stays : (s : StationValue) → Contains stations s → s.id ≢ id → Contains left s
    stays s there differs = there_in left left_up s (by.left s.id id stations differs ∙ found_in stations up s there)

    -- the station that is taken out
    module _ (gone : StationValue) (there : Contains stations gone) (own : gone.id ≡ id) where
      abbrev test : StationValue → Bool
      test = is_it station_id station_spot (station_spot gone) id

      gone_is : test gone ≡ true
      gone_is =
          ap₂ (λ a b. a && b) ((bytes_eq-Decides gone.id id).1 own)
          (ap₂ (λ a b. a && b) ((Decides-int_eq gone.x gone.x).1 refl) ((Decides-int_eq gone.y gone.y).1 refl))

      passes : (s : StationValue) → s.id ≢ id → test s ≡ false
      passes s differs = elim (cases_Bool (test s)) [
        | inl is ↦ absurd (differs (same_id s.id id (and_parts (bytes_eq s.id id) (int_eq s.x gone.x && int_eq s.y gone.y) is).0))
        | inr other ↦ other
      ]

      differs_from : (s : StationValue) → Contains stations s → test s ≡ false → s.id ≢ id
      differs_from s stands other same =
          let is : s ≡ gone = is_one s gone (sym (found_in stations up s stands) ∙ (ap (λ k. item_of station_id k stations) (same ∙ sym own) ∙ found_in stations up gone there)) in
          false≢true (sym other ∙ (ap test is ∙ gone_is))

      pub left_has : (s : StationValue) → Contains left s ↔ (Contains stations s × (test s ≡ false))
      left_has s = (
        λ h. (was_there s h, passes s (left_differs s h)),
        λ h. stays s h.0 (differs_from s h.0 h.1),
      )

  -- ---- with a station

  module _ (new : StationValue) where
    abbrev more : List StationValue
    more = with_item station_id new stations

    more_up : AscendBy station_id more
    more_up = AscendBy-with_item station_id new stations up

    new_there : Contains more new
    new_there = there_in more more_up new (by.set new stations)

    others_stay : (s : StationValue) → s.id ≢ new.id → item_of station_id s.id more ≡ item_of station_id s.id stations
    others_stay s differs = by.set_others s.id new stations (λ e. differs (sym e))

    is_or_was : (s : StationValue) → Contains more s → (s ≡ new) ⊎ Contains (left new.id) s
    is_or_was s there = elim (cases_Bool (bytes_eq s.id new.id)) [
      | inl same ↦
          inl (is_one s new (sym (found_in more more_up s there) ∙ (ap (λ k. item_of station_id k more) (same_id s.id new.id same) ∙ by.set new stations)))
      | inr lacks ↦
          (let differs = other_id s.id new.id lacks in
          inr (stays new.id s (there_in stations up s (sym (others_stay s differs) ∙ found_in more more_up s there)) differs))
    ]

    pub more_has : (s : StationValue) → Contains more s ↔ ((s ≡ new) ⊎ Contains (left new.id) s)
    more_has s = (
      is_or_was s,
      λ either. elim either [
        | inl is ↦ subst (Contains more) (sym is) new_there
        | inr had ↦ there_in more more_up s (others_stay s (left_differs new.id s had) ∙ found_in stations up s (was_there new.id s had))
      ],
    )

  -- where no station has the id
  pub nothing_left : (id : List ℕ) (place end : ℕ) → IsSpanOf id stations place end → end ≤ place → without_id station_id id stations ≡ stations
  nothing_left id place end (inl span) h = without_id-none station_id id stations (none_found id stations place span.1.1 span.1.2)
  nothing_left id place end (inr span) h = absurd (omega (arith, span.0, h))

  -- where one has it
  pub span_one : (id : List ℕ) (place end : ℕ) → IsSpanOf id stations place end → place < end → (place < length stations) × ((d : StationValue) → (get_or stations place d).id ≡ id)
  span_one id place end (inl span) h = absurd (omega (arith, span.0, h))
  span_one id place end (inr span) h = span.1

-- ---- cells

-- cells that have others
pub left_these : (cells new : List (CellValue StationValue)) (stations others : List StationValue) (test : StationValue → Bool) → HaveThese cells stations
    → ((s : StationValue) → Has new s ↔ (Has cells s × (test s ≡ false))) → ((s : StationValue) → Contains others s ↔ (Contains stations s × (test s ≡ false))) → HaveThese new others
left_these cells new stations others test have took are s = (
  λ h. (let both = (took s).0 h in (are s).1 ((have s).0 both.0, both.1)),
  λ h. (let both = (are s).0 h in (took s).1 ((have s).1 both.0, both.1)),
)

pub more_these : (cells new : List (CellValue StationValue)) (stations all : List StationValue) (item : StationValue) → HaveThese cells stations
    → ((s : StationValue) → Has new s ↔ ((s ≡ item) ⊎ Has cells s)) → ((s : StationValue) → Contains all s ↔ ((s ≡ item) ⊎ Contains stations s)) → HaveThese new all
more_these cells new stations all item have put are s = (
  λ h. elim ((put s).0 h) [
    | inl is ↦ (are s).1 (inl is)
    | inr had ↦ (are s).1 (inr ((have s).0 had))
  ],
  λ h. elim ((are s).0 h) [
    | inl is ↦ (put s).1 (inl is)
    | inr had ↦ (put s).1 (inr ((have s).1 had))
  ],
)

-- none
pub none_these : (cells : List (CellValue StationValue)) (stations : List StationValue) → cells ≡ [] → stations ≡ [] → HaveThese cells stations
none_these cells stations none nobody s = (
  λ has. absurd (let there = has.there.1 in omega (arith, there, ap length none)),
  λ there. absurd (let low = there.1 in omega (arith, low, ap length nobody)),
)

-- ---- the nearest station

module _ (spot : Spot) (cells : List (CellValue StationValue)) (stations : List StationValue) (have : HaveThese cells stations) where
  pub nearest_of : (found : Option StationValue) → Nearest station_id station_spot spot (Has cells) found → Nearest station_id station_spot spot (Contains stations) found
  nearest_of None h = λ s there. h s ((have s).1 there)
  nearest_of (Some s) h = record { one = (have s).0 h.one; least = λ other there. h.least other ((have other).1 there) }

  pub looked_of : (found : Option StationValue) (numbers : List ℕ) → AreCells station_spot cells
      → MatchOption found (numbers ≡ []) (λ s. AreLooks (distances spot cells) (distance_of station_id station_spot spot s) numbers) → AreLookedAt spot stations found numbers
  looked_of found numbers are looked = record { cells = cells; stand = record { are = are; have = have }; looked = looked }

-- the place of the id of a station is its own
pub own_place : (by : AreById station_id) (stations : List StationValue) (id : List ℕ) (s : StationValue) (found : Option ℕ) → AscendBy station_id stations → Contains stations s → id ≡ s.id
    → option_map (λ place. station_at stations place) found ≡ item_of station_id id stations → option_map (λ place. station_at stations place) found ≡ Some s
own_place by stations id s found up there own is = is ∙ (ap (λ k. item_of station_id k stations) own ∙ (by.found s.id stations s up).1 (there, refl))
