-- The coverages of stations are valid.
use Rattle.std.proofs.Common.{◌≡◌, inl, inr, ℕ, ◌*◌, ◌<◌, codes, List, [], ◌∷◌, length, map, get_or, All, IsUtf8, ℤ, Option, Some, None, refl, sym, ap, ◌∙◌, subst, arith}
use Rattle.std.specs.Prelude.{IsSome}
use Rattle.std.specs.Str.{is_utf8, chars}
use Rattle.std.specs.Char.{encode_utf8}
use Rattle.std.proofs.lemmas.Bool.{false≢true}
use Rattle.std.proofs.lemmas.Str.{IsUtf8-from_is_utf8}
use Rattle.std.proofs.lemmas.List.{length-map, get_or_default}
use Rattle.std.proofs.lemmas.List.Elements.{All-nil, All-cons, All-map}
use Rattle.edr_base.specs.Limits.{AreSamples, HasSample}
use Rattle.edr_base.specs.Names.{IsName, Ascend}
use Rattle.edr_axes.specs.Axes.{value_at}
use Rattle.edr_axes.specs.Instants.{IsTime}
use Rattle.covjson_value.specs.declared.domains.CoordinateName.{CoordinateName}
use Rattle.covjson_value.specs.declared.domains.CoordinateName.TheVariants.{T, Z, Y, X}
use Rattle.covjson_value.specs.declared.domains.Domain.TheVariants.{PointSeries}
use Rattle.covjson_value.specs.declared.coverages.Parameter.{Parameter}
use Rattle.covjson_value.specs.declared.coverages.NdArray.{NdArray}
use Rattle.covjson_value.specs.Coverages.{IsAxisValue, IsNamedAxis, HasAxes, IsParameter, IsRange, IsValid}
use Rattle.edr_ids.specs.Ids.{item_of}
use Rattle.edr_ids.specs.ListLaws.{item_of-found}
use Rattle.edr_csv.specs.declared.observations.Observation.{Observation}
use Rattle.edr_import.specs.declared.names.Name.{Name}
use Rattle.edr_import.specs.declared.sites.Site.{Site}
use Rattle.edr_import.specs.declared.stations.Station.{Station}
use Rattle.edr_import.specs.Tables.{AreParameters, AreSites, IsSite, IsValueAt, AreValues, AreSeries, IsStation, AreStations, labelled, series_coverage, name_id}
use Rattle.edr_import.specs.Stations.{IsGood, AreGood, IsWritable}
use Rattle.edr_import.proofs.OrderLemmas.{item_at}

local : IsUtf8 (codes "local")
unfolding is_utf8 chars encode_utf8
local = IsUtf8-from_is_utf8 (codes "local") refl

english : IsUtf8 (codes "en")
unfolding is_utf8 chars encode_utf8
english = IsUtf8-from_is_utf8 (codes "en") refl

one_value : (name : CoordinateName) (value : ℤ) → IsAxisValue name value → IsNamedAxis name (value ∷ [])
one_value name value is = record {
  ascending = record { some = omega arith; ascending = λ k inside. absurd (omega (arith, inside)) };
  within = All-cons (IsAxisValue name) value [] is (All-nil (IsAxisValue name));
}

along : (n : ℕ) → n * (1 * (1 * 1)) ≡ n
along n = omega arith

ids_are : (names : List Name) → map (λ (p : Parameter). p.id) (map labelled names) ≡ map name_id names
ids_are [] = refl
ids_are (name ∷ names) = ap (λ (ids : List (List ℕ)). name.id ∷ ids) (ids_are names)

there_are_some : (id : List ℕ) (names : List Name) → IsSome (item_of name_id id names) → 0 < length names
there_are_some id [] h = absurd (false≢true h)
there_are_some id (name ∷ names) h = omega arith

is_there : {X : Type 0} (o : Option X) (x : X) → o ≡ Some x → IsSome o
is_there o x e = subst IsSome (sym e) refl

module _ (xs : List Observation) (good : AreGood xs) (names : List Name) (are : AreParameters xs names) where
  name_good : (k : ℕ) (d : Name) → k < length names → IsName (get_or names k d).id
  name_good k d inside =
      let name : Name = get_or names k d in
      let o = (are.each name.id).0 (is_there (item_of name_id name.id names) name (item_of-found name_id name.id names k d are.ascending inside refl)) in
      let g = good o.0 o.1 in
      subst IsName o.2 g.parameter

  parameter_good : (k : ℕ) (d : Name) → k < length names → IsParameter (labelled (get_or names k d))
  parameter_good k d inside =
      let name = name_good k d inside in
      record { id = name; lang = english; label = name.utf8; unit = tt }

  module _ (site : Site) (is : IsSite xs site) where
    first_good : IsGood is.first
    first_good = good is.first is.among

    time_good : (k : ℕ) (d : ℤ) → k < length site.times → IsTime (get_or site.times k d)
    time_good k d inside =
        let t : ℤ = get_or site.times k d in
        let o = (is.times.1 t).0 (k, inside, sym (get_or_default site.times k d t inside)) in
        let g = good o.0 o.1 in
        subst IsTime o.3 g.t

    axes : HasAxes (PointSeries site.times None site.y site.x)
    axes T = record { ascending = is.times.0; within = time_good }
    axes Z = tt
    axes Y = (let g = first_good in one_value Y site.y (subst (IsAxisValue Y) (sym is.placed.3) g.y))
    axes X = (let g = first_good in one_value X site.x (subst (IsAxisValue X) (sym is.placed.2) g.x))

    value_good : (id : List ℕ) (t : ℤ) (p : List ℕ) (v : Option ℤ) → IsValueAt xs id t p v → HasSample v
    value_good id t p v (inl told) = (let g = good told.0 told.1 in subst HasSample (sym told.3) g.value)
    value_good id t p v (inr none) = subst HasSample (sym none.1) tt

    values_good : (p : List ℕ) (values : List (Option ℤ)) → AreValues xs site p values → AreSamples values
    values_good p values vs k d inside =
        let within : k < length site.times = subst (λ (n : ℕ). k < n) vs.count inside in
        subst HasSample (get_or_default values k None (get_or values k d) inside ∙ sym (get_or_default values k d (get_or values k d) inside))
        (value_good site.id (value_at site.times k) p (get_or values k None) (vs.each k within))

    range_good : (p : List ℕ) (range : NdArray) → AreValues xs site p range.values → IsRange (PointSeries site.times None site.y site.x) range
    range_good p range vs = record { count = vs.count ∙ sym (along (length site.times)); samples = values_good p range.values vs }

    pub series_valid : (ranges : List NdArray) → AreSeries xs names site ranges → IsValid (series_coverage names site ranges)
    series_valid ranges series = record {
      id = tt;
      axes = axes;
      tuples = record { tuples = tt; once = λ name among. absurd (false≢true among) };
      referencing = record { crs = local; vertical = tt };
      vertical = λ given. absurd (false≢true given);
      some = (let some : 0 < length names = there_are_some is.first.parameter names ((are.each is.first.parameter).1 (is.first, is.among, refl)) in omega (arith, some, length-map names labelled));
      parameters = All-map IsParameter labelled names parameter_good;
      ascending = subst Ascend (sym (ids_are names)) are.ascending;
      as_many = series.count ∙ sym (length-map names labelled);
      ranges = λ k d inside.
          let within : k < length names = subst (λ (n : ℕ). k < n) series.count inside in
          let none : Name = record { id = [] } in
          range_good (name_id (get_or names k none)) (get_or ranges k d) (series.each k none d within);
    }

    pub station_writable : (station : Station) → IsStation xs names site station → IsWritable station
    station_writable station s = record {
      id = (let g = first_good in subst IsUtf8 (sym (s.id ∙ is.placed.0)) g.station.utf8);
      label = (let g = first_good in subst IsUtf8 (sym (s.label ∙ is.placed.1)) g.label);
      coverage = subst IsValid (sym s.coverage) (series_valid s.ranges s.series);
    }

  pub stations_writable : (sites : List Site) → AreSites xs sites → (stations : List Station) → AreStations xs names sites stations → All IsWritable stations
  stations_writable sites all stations them k d inside =
      let within : k < length sites = subst (λ (n : ℕ). k < n) them.count inside in
      let site : Site = (item_at sites k within).0 in
      station_writable (get_or sites k site) (all.each k site within) (get_or stations k d) (them.each k site d within)
