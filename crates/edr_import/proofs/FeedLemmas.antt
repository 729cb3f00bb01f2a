-- The feed of observations in one order is that of the same observations in another; and what is written of it.
use Rattle.std.proofs.Common.{◌≡◌, inl, inr, ◌∙◌, ℕ, List, [], length, get_or, All, Option, Some, None, refl, sym, ap, subst, arith}
use Rattle.std.specs.Prelude.{Contains, Result, Ok, Err, IsUtf8, Vec}
use Rattle.std.specs.List.Sorted.{IsPermutation}
use Rattle.std.proofs.lemmas.List.Sorted.{Contains-permutation, IsPermutation-sym}
use Rattle.edr_base.specs.Calls.{Front}
use Rattle.edr_base.specs.declared.sending.SendFault.{SendFault}
use Rattle.edr_base.specs.declared.sending.SendFault.TheVariants as sending
use Rattle.edr_csv.specs.declared.observations.Observation.{Observation}
use Rattle.edr_csv.specs.Observations.{IsObservation, AreObservations, IsTableReadAs, IsValueText}
use Rattle.edr_base.specs.Limits.{HasSample}
use Rattle.edr_import.specs.declared.names.Name.{Name}
use Rattle.edr_import.specs.declared.sites.Site.{Site}
use Rattle.edr_import.specs.declared.stations.Station.{Station}
use Rattle.edr_import.specs.declared.refusals.TableRefusal.{TableRefusal}
use Rattle.edr_import.specs.declared.refusals.ImportFault.{ImportFault}
use Rattle.edr_import.specs.declared.refusals.ImportFault.TheVariants.{Refused, WriteFault, OutOfMemory}
use Rattle.edr_import.specs.Tables.{AreParameters, AreSites, IsSite, IsValueAt, IsStation, AreStations}
use Rattle.edr_import.specs.Imports.{ObservationsStand, Imports, feed_text}
use Rattle.edr_import.specs.Faults.{of_sending, of_table}
use Rattle.edr_import.specs.Importing.{MatchStations, MatchFeed, MatchTable}
use Rattle.std.specs.declared.alloc.Global.{Global}
use Rattle.edr_csv.specs.declared.observations.TableFault.{TableFault}
use Rattle.edr_csv.specs.declared.observations.TableFault.TheVariants as table
use Rattle.edr_import.specs.Stations.{IsGood, AreGood}

-- ---- another order

module _ (xs ys : List Observation) (on : (o : Observation) → Contains xs o → Contains ys o) (back : (o : Observation) → Contains ys o → Contains xs o) where
  names_moved : (names : List Name) → AreParameters xs names → AreParameters ys names
  names_moved names are = record {
    ascending = are.ascending;
    each = λ id. ((λ has. let o = (are.each id).0 has in (o.0, on o.0 o.1, o.2)), (λ some. (are.each id).1 (some.0, back some.0 some.1, some.2)));
  }

  site_moved : (site : Site) → IsSite xs site → IsSite ys site
  site_moved site is = record {
    first = is.first;
    among = on is.first is.among;
    placed = is.placed;
    times = (is.times.0, λ t. ((λ has. let o = (is.times.1 t).0 has in (o.0, on o.0 o.1, o.2, o.3)), (λ some. (is.times.1 t).1 (some.0, back some.0 some.1, some.2, some.3))));
  }

  sites_moved : (sites : List Site) → AreSites xs sites → AreSites ys sites
  sites_moved sites are = record {
    ascending = are.ascending;
    there = λ o has. are.there o (back o has);
    each = λ k d inside. site_moved (get_or sites k d) (are.each k d inside);
  }

  value_moved : (id : List ℕ) (t : _) (p : List ℕ) (v : _) → IsValueAt xs id t p v → IsValueAt ys id t p v
  value_moved id t p v (inl told) = inl (told.0, on told.0 told.1, told.2, told.3)
  value_moved id t p v (inr none) = inr (λ o has. none.0 o (back o has), none.1)

  station_moved : (names : List Name) (site : Site) (station : Station) → IsStation xs names site station → IsStation ys names site station
  station_moved names site station is = record {
    id = is.id;
    label = is.label;
    ranges = is.ranges;
    series = record {
      count = is.series.count;
      each = λ k name range inside.
          let vs = is.series.each k name range inside in
          record { count = vs.count; each = λ place within. value_moved _ _ _ _ (vs.each place within) };
    };
    coverage = is.coverage;
  }

  stations_moved : (names : List Name) (sites : List Site) (stations : List Station) → AreStations xs names sites stations → AreStations ys names sites stations
  stations_moved names sites stations are = record {
    count = are.count;
    each = λ k site station inside. station_moved names _ _ (are.each k site station inside);
  }

  pub feed_moved : (answer : Result (List ℕ) TableRefusal) → ObservationsStand xs answer → ObservationsStand ys answer
  feed_moved answer (names, are, inr many) = (names, names_moved names are, inr many)
  feed_moved answer (names, are, inl (few, (sites, all, inr many))) = (names, names_moved names are, inl (few, (sites, sites_moved sites all, inr many)))
  feed_moved answer (names, are, inl (few, (sites, all, inl (within, (stations, them, gives))))) =
      (names, names_moved names are, inl (few, (sites, sites_moved sites all, inl (within, (stations, stations_moved names sites stations them, gives)))))

pub sorted_feed : (xs ys : List Observation) → IsPermutation xs ys → (answer : Result (List ℕ) TableRefusal) → ObservationsStand ys answer → ObservationsStand xs answer
sorted_feed xs ys same = feed_moved ys xs (λ o. Contains-permutation ys xs o (IsPermutation-sym xs ys same)) (λ o. Contains-permutation xs ys o same)

pub sorted_good : (xs ys : List Observation) → IsPermutation xs ys → AreGood xs → AreGood ys
sorted_good xs ys same good o has = good o (Contains-permutation ys xs o (IsPermutation-sym xs ys same) has)

-- ---- observations that were read

value_is : (text : List ℕ) (value : Option _) → IsValueText text value → HasSample value
value_is text None is = tt
value_is text (Some v) is = is.1

label_is : (fields : List (List ℕ)) → All IsUtf8 fields → length fields ≡ 7 → IsUtf8 (get_or fields 1 [])
label_is fields texts seven = texts 1 [] (omega (arith, seven))

observation_good : (fields : List (List ℕ)) (o : Observation) → IsObservation fields o → IsGood o
observation_good fields o is = record {
  station = is.station.1;
  label = subst IsUtf8 (sym is.label.0) (label_is fields is.seven.texts is.seven.seven);
  x = is.x.1;
  y = is.y.1;
  t = is.t.time_in;
  parameter = is.parameter.1;
  value = value_is _ o.value is.value;
}

pub observations_good : (records : List (List (List ℕ))) (xs : List Observation) → AreObservations records xs → AreGood xs
observations_good records xs are o has = subst IsGood has.2 (observation_good _ (get_or xs has.0 o) (are.1.each has.0 o has.1))

pub table_good : (bytes : List ℕ) (xs : List Observation) → IsTableReadAs bytes (Ok xs) → AreGood xs
table_good bytes xs (inl e) = cc
table_good bytes xs (inr (records, table, read)) = observations_good records xs read.0

-- ---- what is written

pub sent_in_part : (T : Type 0) (fault : SendFault) (P : Result (List ℕ) TableRefusal → Type 0) (text : List ℕ) (old new : Option (List ℕ))
    → P (Ok text) → Front text old new → Imports {T = T} (Err (of_sending fault)) P old new
sent_in_part T sending.WriteFault P text old new is front = record { text = text; is = is; front = front }
sent_in_part T sending.OutOfMemory P text old new is front = inr (record { text = text; is = is; front = front })

-- ---- on the way

pub fault_moved : (xs ys : List Observation) → IsPermutation xs ys → (fault : ImportFault) → MatchStations (Err fault) ys → MatchFeed (Err fault) xs
fault_moved xs ys same (Refused refusal) h = sorted_feed xs ys same (Err refusal) h
fault_moved xs ys same WriteFault h = h
fault_moved xs ys same OutOfMemory h = tt

pub fault_read : (bytes : List ℕ) (xs : List Observation) → IsTableReadAs bytes (Ok xs) → (fault : ImportFault) → MatchFeed (Err fault) xs → MatchTable (Err fault) bytes
fault_read bytes xs read (Refused refusal) h = inl (xs, read, h)
fault_read bytes xs read WriteFault h = h
fault_read bytes xs read OutOfMemory h = tt

pub feed_read : (bytes : List ℕ) (xs : List Observation) → IsTableReadAs bytes (Ok xs) → (result : Result (Vec ℕ Global) ImportFault) → MatchFeed result xs → MatchTable result bytes
feed_read bytes xs read (Ok text) h = inl (xs, read, h)
feed_read bytes xs read (Err fault) h = fault_read bytes xs read fault h

pub table_refused : (bytes : List ℕ) (fault : TableFault) → IsTableReadAs bytes (Err fault) → MatchTable (Err (of_table fault)) bytes
table_refused bytes table.NotHeader read = inr (_, (table.NotHeader, read, refl), refl)
table_refused bytes (table.BadRecord number) read = inr (_, (table.BadRecord number, read, refl), refl)
table_refused bytes (table.BadField number column) read = inr (_, (table.BadField number column, read, refl), refl)
table_refused bytes (table.PlaceDiffers number) read = inr (_, (table.PlaceDiffers number, read, refl), refl)
table_refused bytes (table.SameSample number) read = inr (_, (table.SameSample number, read, refl), refl)
table_refused bytes table.NoRecords read = inr (_, (table.NoRecords, read, refl), refl)
table_refused bytes table.OutOfMemory read = tt

pub feed_done : (xs ys : List Observation) → IsPermutation xs ys → (stations told : List Station) (text : List ℕ) → ObservationsStand ys (Ok (feed_text stations))
    → text ≡ feed_text told → told ≡ stations → ObservationsStand xs (Ok text)
feed_done xs ys same stations told text stand is e =
    subst (λ (t : List ℕ). ObservationsStand xs (Ok t)) (sym (is ∙ ap feed_text e)) (sorted_feed xs ys same (Ok (feed_text stations)) stand)
