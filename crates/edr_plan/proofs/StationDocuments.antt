-- The document of a query of stations is that of the coverages of the stations that something is taken of.
use Rattle.std.proofs.Common.{Bool, List, Some, [], ap, arith, false, length, map, refl, sym, true, ℕ, ◌<◌, ◌∙◌, ◌∷◌, ◌≡◌, ◌≢◌}
use Rattle.std.specs.List.{list_any}
use Rattle.std.proofs.lemmas.Bool.{false_from_ne_true}
use Rattle.std.proofs.lemmas.List.{length-map}
use Rattle.std.proofs.lemmas.Slice.Eq.{bytes_eq-Decides}
use Rattle.covjson_value.specs.Coverages.{coverages_in}
use Rattle.covjson_value.specs.declared.coverages.Coverage.{Coverage}
use Rattle.covjson_value.specs.declared.coverages.Parameter.{Parameter}
use Rattle.edr_edition.specs.Editions.{IsCollection}
use Rattle.edr_edition.specs.Stores.{Subject}
use Rattle.edr_edition.specs.Values.{CollectionValue}
use Rattle.edr_query.specs.Values.{QueryValue}
use Rattle.edr_query.specs.declared.shapes.Shape.{Shape}
use Rattle.edr_select.specs.Checks.{stations_in}
use Rattle.edr_select.specs.Choices.{parameter_places}
use Rattle.edr_select.specs.Documents.{coverage_over, document, document_over}
use Rattle.edr_select.specs.Heads.{Head, first_alone, heads_of_stations, heads_on_stations, is_some_stored}
use Rattle.edr_select.specs.KeptLaws.{contains_kept, kept_below, kept_passes, one_kept}
use Rattle.edr_select.specs.ListLaws.{map-map, map_agree_in, no_member, some_member}
use Rattle.edr_select.specs.Listings.{document_of}
use Rattle.edr_select.specs.Samples.{Stored, id_at}
use Rattle.edr_select.specs.Selections.{is_asked, picked}
use Rattle.edr_select.specs.Series.{SeriesReplyValue, StationSeriesValue, series_coverage, series_document}
use Rattle.edr_station.specs.Stations.{StationValue, station_at}
use Rattle.edr_plan.specs.StationPlaces.{IsOfStations, is_taken, takes_at, takes_station}
use Rattle.edr_plan.specs.StationPlans.{all_series, is_many, series_of}
use Rattle.edr_plan.proofs.EachTaken.{taken_by_shape}
use Rattle.edr_plan.proofs.SelectedSamples.{some_stored}
use Rattle.edr_plan.proofs.SelectedStations.{SelectsBy, found_pick, pick_found}
use Rattle.edr_plan.proofs.StationCells.{some_taken_at, taken_at}
use Rattle.edr_plan.proofs.StationCoverages.{coverage_is}
use Rattle.edr_plan.proofs.StationHeads.{head_of_taken, heads_are, places, station_selects}
use Rattle.edr_plan.proofs.StationIds.{one_station}
use Rattle.edr_query.specs.declared.shapes.Shape.TheVariants as at

-- of a list of heads, whether it is alone or not, these are the coverages
covers : (cover : Head → Coverage) (hs : List Head) → coverages_in (document_over cover (first_alone hs)) ≡ map cover hs
covers cover [] = refl
covers cover (h ∷ []) = refl
covers cover (h ∷ other ∷ hs) = refl

covered : (cover : Head → Coverage) (ss : List StationValue) (shape : Shape) (picks : List Stored)
    → coverages_in (document_over cover (heads_on_stations ss shape picks)) ≡ map cover (heads_of_stations ss picks)
covered cover ss (at.Position geometry) picks = refl
covered cover ss (at.Radius geometry within) picks = refl
covered cover ss (at.Area geometry) picks = refl
covered cover ss (at.Cube lo hi levels) picks = refl
covered cover ss (at.Trajectory geometry) picks = refl
covered cover ss (at.Corridor geometry width height) picks = refl
covered cover ss (at.Location id) picks = covers cover (heads_of_stations ss picks)

-- coverages together, or one alone
told : (cover : Head → Coverage) (ss : List StationValue) (shape : Shape) (picks : List Stored) → (is_many shape ≡ false → length (heads_of_stations ss picks) ≡ 1)
    → document_of (is_many shape) (map cover (heads_of_stations ss picks)) ≡ Some (document_over cover (heads_on_stations ss shape picks))
told cover ss (at.Position geometry) picks one = refl
told cover ss (at.Radius geometry within) picks one = refl
told cover ss (at.Area geometry) picks one = refl
told cover ss (at.Cube lo hi levels) picks one = refl
told cover ss (at.Trajectory geometry) picks one = refl
told cover ss (at.Corridor geometry width height) picks one = refl
told cover ss (at.Location id) picks one = alone_told (heads_of_stations ss picks) (one refl)
  where
    alone_told : (hs : List Head) → length hs ≡ 1 → document_of false (map cover hs) ≡ Some (document_over cover (first_alone hs))
    alone_told [] e = absurd (omega (arith, e))
    alone_told (h ∷ []) e = refl
    alone_told (h ∷ other ∷ hs) e = absurd (omega (arith, e))

module _ (collection : CollectionValue) (q : QueryValue) (is : IsCollection collection)
    (some : parameter_places q.parameters collection.parameters ≢ []) where
  abbrev ps : List Parameter
  ps = collection.parameters

  abbrev ss : List StationValue
  ss = collection.stations

  abbrev s : Subject
  s = stations_in collection

  abbrev asked : List ℕ
  asked = parameter_places q.parameters ps

  abbrev taken : List ℕ
  taken = places collection q is some

  abbrev cover : Head → Coverage
  cover = coverage_over s q (picked s q)

  abbrev pub planned : List StationSeriesValue
  planned = all_series collection q

  covers_are : map cover (heads_of_stations ss (picked s q)) ≡ map (series_coverage ss asked) planned
  covers_are =
      ap (map cover) (heads_are collection q is some)
      ∙ (map-map cover (head_of_taken collection q) taken
      ∙ (map_agree_in (λ k. cover (head_of_taken collection q k)) (λ k. series_coverage ss asked (series_of collection q k)) taken (coverage_is collection q is some)
      ∙ sym (map-map (series_coverage ss asked) (series_of collection q) taken)))

  pub coverages_are : coverages_in (document s q) ≡ map (series_coverage ss asked) planned
  coverages_are = covered cover ss q.shape (picked s q) ∙ covers_are

  heads_count : length (heads_of_stations ss (picked s q)) ≡ length taken
  heads_count = ap (λ (hs : List Head). length hs) (heads_are collection q is some) ∙ length-map taken (head_of_taken collection q)

  -- the document of a reply, where only one coverage may stand alone
  pub document_is : (reply : SeriesReplyValue) → reply.parameters ≡ asked → reply.many ≡ is_many q.shape → reply.series ≡ planned → (is_many q.shape ≡ false → length taken ≡ 1)
      → series_document ss reply ≡ Some (document s q)
  document_is reply parameters many series one =
      ap (λ (b : Bool). document_of b (map (series_coverage ss reply.parameters) reply.series)) many
      ∙ (ap (λ (p : List ℕ). document_of (is_many q.shape) (map (series_coverage ss p) reply.series)) parameters
      ∙ (ap (λ (x : List StationSeriesValue). document_of (is_many q.shape) (map (series_coverage ss asked) x)) series
      ∙ (ap (document_of (is_many q.shape)) (sym covers_are)
      ∙ told cover ss q.shape (picked s q) (λ e. heads_count ∙ one e))))

  -- ---- one station of an id

  of_id : (shape : Shape) → is_many shape ≡ false → (k l : ℕ) → takes_station shape (station_at ss k) ≡ true → takes_station shape (station_at ss l) ≡ true
      → (station_at ss k).id ≡ (station_at ss l).id
  of_id (at.Location id) e k l hk hl = sym ((bytes_eq-Decides id (station_at ss k).id).0 hk) ∙ (bytes_eq-Decides id (station_at ss l).id).0 hl
  of_id (at.Position geometry) e k l hk hl = cc
  of_id (at.Radius geometry within) e k l hk hl = cc
  of_id (at.Area geometry) e k l hk hl = cc
  of_id (at.Cube lo hi levels) e k l hk hl = cc
  of_id (at.Trajectory geometry) e k l hk hl = cc
  of_id (at.Corridor geometry width height) e k l hk hl = cc

  of_stations : (shape : Shape) → is_many shape ≡ false → IsOfStations shape
  of_stations (at.Location id) e = tt
  of_stations (at.Position geometry) e = cc
  of_stations (at.Radius geometry within) e = cc
  of_stations (at.Area geometry) e = cc
  of_stations (at.Cube lo hi levels) e = cc
  of_stations (at.Trajectory geometry) e = cc
  of_stations (at.Corridor geometry width height) e = cc

  pub alone_taken : taken ≢ [] → is_many q.shape ≡ false → length taken ≡ 1
  alone_taken there e =
      let one = some_member taken there in
      let k : ℕ = one.item in
      let inside : k < length ss = kept_below (is_taken collection q) (length ss) k one.among in
      let passes : is_taken collection q k ≡ true = kept_passes (is_taken collection q) (length ss) k one.among in
      let shape : IsOfStations q.shape = of_stations q.shape e in
      ap (λ (xs : List ℕ). length xs) (one_kept (is_taken collection q) 0 (length ss) k (omega arith) (omega (arith, inside)) passes
      (λ l low high h. one_station ss is.stations.are.ascending l k (omega (arith, high)) inside
      (of_id q.shape e l k (taken_by_shape collection q shape l h) (taken_by_shape collection q shape k passes))))

  -- ---- whether anything is picked

  selects : SelectsBy s q ps ss (takes_at collection q)
  selects = station_selects collection q

  pub some_picked : taken ≢ [] → is_some_stored (picked s q) ≡ true
  some_picked there =
      let one = some_member taken there in
      let k : ℕ = one.item in
      let station : StationValue = station_at ss k in
      let at = taken_at station (takes_at collection q k) (kept_passes (is_taken collection q) (length ss) k one.among) in
      let parameter = some_member asked some in
      some_stored (picked s q)
      ∙ found_pick s q ps ss refl is.stations.are.each (takes_at collection q) selects (λ x. true) k parameter.item at.time at.level
      (record {
        station = kept_below (is_taken collection q) (length ss) k one.among;
        parameter = kept_below (λ p. is_asked q.parameters (id_at ps p)) (length ps) parameter.item parameter.among;
        time = at.time_in;
        level = at.level_in;
      }) (kept_passes (λ p. is_asked q.parameters (id_at ps p)) (length ps) parameter.item parameter.among) at.taken refl

  pub none_picked : taken ≡ [] → is_some_stored (picked s q) ≡ false
  none_picked none =
      some_stored (picked s q)
      ∙ false_from_ne_true (list_any (λ x. true) (picked s q)) (λ h.
      let f = pick_found s q ps ss refl is.stations.are.each (takes_at collection q) selects (λ x. true) h in
      let at = f.1.place in
      no_member taken f.0 none
      (contains_kept (is_taken collection q) (length ss) f.0 at.station (some_taken_at (station_at ss f.0) (takes_at collection q f.0) f.1.time f.1.level at.time at.level f.1.taken)))
