-- The reply to a query of stations, and the refusals from that of samples on.
use Rattle.std.proofs.Common.{All, Bool, List, None, Some, [], ap, ap₂, arith, cond, false, inl, inr, length, map, refl, subst, sum_by, sym, true, ℕ, ◌<◌, ◌^◌, ◌||◌, ◌∙◌, ◌∷◌, ◌≡◌, ◌≢◌, ◌≤◌}
use Rattle.std.specs.List.{filter, flat_map, range_with_len}
use Rattle.std.specs.Prelude.{nat_lt, not}
use Rattle.std.specs.declared.option.Option.{Option}
use Rattle.std.proofs.lemmas.Bool.{false_from_ne_true, false≢true}
use Rattle.std.proofs.lemmas.Bool.Decides.{Decides-ltb}
use Rattle.std.proofs.lemmas.List.{length-map}
use Rattle.covjson_value.specs.Coverages.{IsValid, IsValidDocument, coverages_in}
use Rattle.covjson_value.specs.declared.coverages.Coverage.{Coverage}
use Rattle.covjson_value.specs.declared.coverages.NdArray.{NdArray}
use Rattle.edr_base.specs.declared.refusals.Refusal.{Refusal}
use Rattle.edr_base.specs.declared.refusals.Refusal.TheVariants.{NoSamples, TooLarge}
use Rattle.edr_edition.specs.Editions.{IsCollection}
use Rattle.edr_edition.specs.Stores.{Subject, stations_of}
use Rattle.edr_edition.specs.Values.{CollectionValue}
use Rattle.edr_query.specs.Values.{QueryValue}
use Rattle.edr_select.specs.Checks.{refused_query, stations_in}
use Rattle.edr_select.specs.Choices.{parameter_places}
use Rattle.edr_select.specs.Documents.{document, values_in}
use Rattle.edr_select.specs.Heads.{is_some_stored}
use Rattle.edr_select.specs.Limits.{coverage_limit, value_limit}
use Rattle.edr_select.specs.ReplyLaws.{told_by}
use Rattle.edr_select.specs.Samples.{ascending_once}
use Rattle.edr_select.specs.Selections.{picked}
use Rattle.edr_select.specs.Series.{IsOfStation, IsSeriesReply, SeriesReplyValue, StationSeriesValue, blocks_of_series, series_coverage, series_document}
use Rattle.edr_select.specs.Steps.{refused_sizes}
use Rattle.edr_station.specs.Blocks.{blocks}
use Rattle.edr_station.specs.Stations.{StationValue}
use Rattle.edr_plan.specs.StationPlaces.{HasAll, is_taken}
use Rattle.edr_plan.specs.StationPlans.{IsFew, IsPlanOfStations, IsTooMany, all_series, is_many, series_of, series_where_taken, values_of_series}
use Rattle.edr_plan.proofs.FoundStations.{found_are_all}
use Rattle.edr_plan.proofs.NoneAsked.{nothing_picked, or_left, or_right, stops}
use Rattle.edr_plan.proofs.StationChunks.{chunks_are}
use Rattle.edr_plan.proofs.StationDocuments.{alone_taken, coverages_are, document_is, none_picked, some_picked}
use Rattle.edr_plan.proofs.StationSizes.{sizes_are}
use Rattle.edr_plan.proofs.StationValid.{asked_below, coverages_valid, each_of_station, reply_is}

passes : (b : Bool) (refusal : Refusal) (rest : Option Refusal) → b ≡ false → cond b (Some refusal) rest ≡ rest
passes b refusal rest e = ap (λ b. cond b (Some refusal) rest) e

not_below : (n m : ℕ) → m ≤ n → nat_lt n m ≡ false
not_below n m le = false_from_ne_true (nat_lt n m) (λ e. absurd (omega (arith, le, (Decides-ltb n m).0 e)))

none_mapped : {V W : Type 0} (f : V → W) (xs : List V) → map f xs ≡ [] → xs ≡ []
none_mapped f [] e = refl
none_mapped f (x ∷ xs) e = cc

-- too many are some
some_many : (n : ℕ) (xs : List StationSeriesValue) → IsTooMany n xs → xs ≢ []
some_many n [] (inl values) none = absurd (omega (arith, values))
some_many n [] (inr coverages) none = absurd (omega (arith, coverages))
some_many n (x ∷ xs) many none = cc

module _ (collection : CollectionValue) (q : QueryValue) (is : IsCollection collection)
    (asked_some : parameter_places q.parameters collection.parameters ≢ []) where
  abbrev s : Subject
  s = stations_in collection

  abbrev ss : List StationValue
  ss = collection.stations

  abbrev asked : List ℕ
  asked = parameter_places q.parameters collection.parameters

  abbrev taken : List ℕ
  taken = filter (is_taken collection q) (range_with_len 0 (length ss))

  abbrev all : List StationSeriesValue
  all = all_series collection q

  -- ---- refusals

  values_are : values_in (document s q) ≡ values_of_series (length asked) all
  values_are =
      ap (λ (coverages : List Coverage). sum_by (λ (coverage : Coverage). sum_by (λ (range : NdArray). length range.values) coverage.ranges) coverages)
      (coverages_are collection q is asked_some)
      ∙ sizes_are ss asked all

  count_is : length (coverages_in (document s q)) ≡ length all
  count_is = ap (λ (coverages : List Coverage). length coverages) (coverages_are collection q is asked_some) ∙ length-map all (series_coverage ss asked)

  abbrev large : Bool
  large = nat_lt value_limit (values_in (document s q)) || nat_lt coverage_limit (length (coverages_in (document s q)))

  large_is : large ≡ (nat_lt value_limit (values_of_series (length asked) all) || nat_lt coverage_limit (length all))
  large_is = ap₂ (λ m n. nat_lt value_limit m || nat_lt coverage_limit n) values_are count_is

  abbrev refused_last : Option Refusal
  refused_last = cond large (Some TooLarge) None

  refused_none : all ≡ [] → refused_sizes q s ≡ Some NoSamples
  refused_none none =
      stops (not (is_some_stored (picked s q))) NoSamples refused_last (ap not (none_picked collection q is asked_some (none_mapped (series_of collection q) taken none)))

  some_left : all ≢ [] → refused_sizes q s ≡ refused_last
  some_left some =
      passes (not (is_some_stored (picked s q))) NoSamples refused_last
      (ap not (some_picked collection q is asked_some (λ none. some (ap (map (series_of collection q)) none))))

  many_large : IsTooMany (length asked) all → (nat_lt value_limit (values_of_series (length asked) all) || nat_lt coverage_limit (length all)) ≡ true
  many_large (inl values) = or_left _ (nat_lt coverage_limit (length all)) ((Decides-ltb value_limit (values_of_series (length asked) all)).1 values)
  many_large (inr coverages) = or_right (nat_lt value_limit (values_of_series (length asked) all)) _ ((Decides-ltb coverage_limit (length all)).1 coverages)

  refused_many : IsTooMany (length asked) all → refused_sizes q s ≡ Some TooLarge
  refused_many many = some_left (some_many (length asked) all many) ∙ stops large TooLarge None (large_is ∙ many_large many)

  refused_neither : all ≢ [] → IsFew (length asked) all → refused_sizes q s ≡ None
  refused_neither some few =
      some_left some
      ∙ passes large TooLarge None
      (large_is ∙ ap₂ (λ b d. b || d) (not_below value_limit (values_of_series (length asked) all) few.values) (not_below coverage_limit (length all) few.coverages))

  -- ---- of the stations that are found

  module _ (found : List ℕ) (has : HasAll ss (is_taken collection q) found) where
    abbrev found_series : List StationSeriesValue
    found_series = flat_map (series_where_taken collection q) found

    all_are : found_series ≡ all
    all_are = found_are_all collection q found has

    pub none_found : found_series ≡ [] → refused_sizes q s ≡ Some NoSamples
    none_found none = refused_none (sym all_are ∙ none)

    module _ (parameters : List ℕ) (same : parameters ≡ asked) where
      pub too_many : IsTooMany (length parameters) found_series → refused_sizes q s ≡ Some TooLarge
      too_many many =
          refused_many (subst (λ (p : List ℕ). IsTooMany (length p) all) same (subst (λ (x : List StationSeriesValue). IsTooMany (length parameters) x) all_are many))

      pub few_enough : found_series ≢ [] → IsFew (length parameters) found_series → refused_sizes q s ≡ None
      few_enough some few =
          refused_neither (λ none. some (all_are ∙ none))
          (subst (λ (p : List ℕ). IsFew (length p) all) same (subst (λ (x : List StationSeriesValue). IsFew (length parameters) x) all_are few))

  -- ---- the reply

  one_alone : all ≢ [] → is_many q.shape ≡ false → length taken ≡ 1
  one_alone some = alone_taken collection q is asked_some (λ none. some (ap (map (series_of collection q)) none))

  module _ (reply : SeriesReplyValue) (parameters : reply.parameters ≡ asked) (many : reply.many ≡ is_many q.shape) (series : reply.series ≡ all) (some : all ≢ []) where
    pub reply_stands : IsSeriesReply reply
    reply_stands = subst (λ (r : SeriesReplyValue). IsSeriesReply r) same (reply_is collection q is asked_some (is_many q.shape) (one_alone some))
      where
        same : record { parameters = asked; many = is_many q.shape; series = all } ≡ reply
        same =
            ap₂ (λ (p : List ℕ) (b : Bool). record { parameters = p; many = b; series = all }) (sym parameters) (sym many)
            ∙ ap (λ (x : List StationSeriesValue). record { parameters = reply.parameters; many = reply.many; series = x }) (sym series)

    told : series_document ss reply ≡ Some (document s q)
    told = document_is collection q is asked_some reply parameters many series (one_alone some)

    valid : IsValidDocument (document s q)
    valid =
        (told_by reply.many (map (series_coverage ss reply.parameters) reply.series) (document s q)
        (λ e. length-map reply.series (series_coverage ss reply.parameters)
        ∙ (ap (λ (x : List StationSeriesValue). length x) series ∙ (length-map taken (series_of collection q) ∙ one_alone some (sym many ∙ e)))) told).valid
        (subst (λ (p : List ℕ). All IsValid (map (series_coverage ss p) reply.series)) (sym parameters)
        (subst (λ (x : List StationSeriesValue). All IsValid (map (series_coverage ss asked) x)) (sym series) (coverages_valid collection q is asked_some)))

    pub plan_is : refused_query collection q ≡ None → blocks (length collection.parameters) ss < 2 ^ 64 → IsPlanOfStations collection q reply
    plan_is none counted = record {
      none = none;
      valid = valid;
      stands = record {
        parameters = collection.parameters;
        stations = ss;
        held = refl;
        counted = counted;
        asked = subst (λ (p : List ℕ). All (λ place. place < length collection.parameters) p) (sym parameters) (asked_below collection q);
        each = subst (λ (x : List StationSeriesValue). All (IsOfStation (stations_of collection.parameters ss)) x) (sym series) (each_of_station collection q is asked_some);
        document = told;
        chunks =
            ap (λ (p : List ℕ). ascending_once (blocks (length collection.parameters) ss) (blocks_of_series p reply.series)) parameters
            ∙ (ap (λ (x : List StationSeriesValue). ascending_once (blocks (length collection.parameters) ss) (blocks_of_series asked x)) series
            ∙ chunks_are collection q is);
      };
    }

-- the document of a query of stations that selects something is valid
pub stations_valid : (collection : CollectionValue) (q : QueryValue) → IsCollection collection → is_some_stored (picked (stations_in collection) q) ≡ true
    → IsValidDocument (document (stations_in collection) q)
stations_valid collection q is some =
    let asked : parameter_places q.parameters collection.parameters ≢ [] = λ none. absurd (false≢true (sym (nothing_picked collection q is none) ∙ some)) in
    let all : List StationSeriesValue = all_series collection q in
    let there : all ≢ [] = λ none. absurd (false≢true (sym (none_picked collection q is asked (none_mapped (series_of collection q) _ none)) ∙ some)) in
    valid collection q is asked (record { parameters = parameter_places q.parameters collection.parameters; many = is_many q.shape; series = all }) refl refl refl there
