-- Sums, lines, parameters and stations, one after another.
use Rattle.std.proofs.Common.{◌≡◌, ℕ, ◌+◌, ◌<◌, List, [], ◌∷◌, ◌++◌, length, map, get_or, take, refl, sym, ap, ◌∙◌, arith, append_assoc, append-nil, codes}
use Rattle.std.specs.Prelude.{sum_by}
use Rattle.std.proofs.lemmas.List.{take_more}
use Rattle.std.proofs.lemmas.List.Sums.{sum_by-append}
use Rattle.std.proofs.lemmas.Grind.{flat_map-append}
use Rattle.covjson_value.specs.declared.coverages.Parameter.{Parameter}
use Rattle.edr_csv.specs.declared.observations.Observation.{Observation}
use Rattle.edr_import.specs.declared.names.Name.{Name}
use Rattle.edr_import.specs.declared.sites.Site.{Site}
use Rattle.edr_import.specs.declared.stations.Station.{Station}
use Rattle.edr_feed.specs.Written.{entry_line, entries_text}
use Rattle.edr_import.specs.Imports.{feed_text, sites_entry, station_entry, times_in}
use Rattle.edr_feed.specs.declared.entries.Entry.TheVariants.{Publish}
use Rattle.json.proofs.OnLiterals.{json_on_literals}
use Rattle.edr_import.specs.Tables.{IsStation, AreStations, labelled}
use Rattle.edr_import.proofs.ValueLemmas.{each_more, long_more}

-- one item more
pub more : {X : Type 0} (xs : List X) (k : ℕ) (x : X) → k < length xs → ((d : X) → x ≡ get_or xs k d) → take (k + 1) xs ≡ take k xs ++ x ∷ []
more xs k x inside at = take_more xs k x inside ∙ ap (λ (y : _). take k xs ++ y ∷ []) (sym (at x))

sum_on : {X : Type 0} (f : X → ℕ) (xs : List X) (x : X) → sum_by f (xs ++ x ∷ []) ≡ sum_by f xs + f x
sum_on f xs x = sum_by-append f xs (x ∷ []) ∙ ap (λ (n : ℕ). sum_by f xs + n) (one (f x))
  where
    one : (n : ℕ) → 0 + n ≡ n
    one n = omega arith

map_on : {X Y : Type 0} (f : X → Y) (xs : List X) (x : X) → map f (xs ++ x ∷ []) ≡ map f xs ++ f x ∷ []
map_on f [] x = refl
map_on f (y ∷ xs) x = ap (λ (ys : List _). f y ∷ ys) (map_on f xs x)

pub times_more : (sites : List Site) (k : ℕ) (site : Site) → k < length sites → ((d : Site) → site ≡ get_or sites k d) → (count : ℕ) → count ≡ times_in (take k sites)
    → count + length site.times ≡ times_in (take (k + 1) sites)
times_more sites k site inside at count is =
    ap (λ (n : ℕ). n + length site.times) is ∙ sym (ap times_in (more sites k site inside at) ∙ sum_on (λ (s : Site). length s.times) (take k sites) site)

pub lines_more : (stations : List Station) (k : ℕ) (station : Station) (text old new : List ℕ) → k < length stations → station ≡ get_or stations k station
    → old ≡ text ++ entries_text (map station_entry (take k stations)) → new ≡ old ++ entry_line (station_entry station)
    → new ≡ text ++ entries_text (map station_entry (take (k + 1) stations))
lines_more stations k station text old new inside at was is =
    let front = entries_text (map station_entry (take k stations)) in
    let line = entry_line (station_entry station) in
    let taken : take (k + 1) stations ≡ take k stations ++ station ∷ [] = take_more stations k station inside ∙ ap (λ (y : Station). take k stations ++ y ∷ []) (sym at) in
    let joined : entries_text (map station_entry (take (k + 1) stations)) ≡ front ++ line =
    ap (λ (ss : List Station). entries_text (map station_entry ss)) taken
    ∙ (ap entries_text (map_on station_entry (take k stations) station)
    ∙ (flat_map-append entry_line (map station_entry (take k stations)) (station_entry station ∷ []) ∙ ap (λ (t : List ℕ). front ++ t) (append-nil line))) in
    is ∙ (ap (λ (t : List ℕ). t ++ line) was ∙ (append_assoc text front line ∙ ap (λ (t : List ℕ). text ++ t) (sym joined)))

pub labels_more : (names : List Name) (k : ℕ) (name : Name) (old : List Parameter) (p : Parameter) → k < length names → ((d : Name) → name ≡ get_or names k d)
    → old ≡ map labelled (take k names) → p ≡ labelled name → old ++ p ∷ [] ≡ map labelled (take (k + 1) names)
labels_more names k name old p inside at was is =
    ap (λ (ps : List Parameter). ps ++ p ∷ []) was ∙ (ap (λ (q : Parameter). map labelled (take k names) ++ q ∷ []) is
    ∙ sym (ap (map labelled) (more names k name inside at) ∙ map_on labelled (take k names) name))

-- the first stations
pub record HasStations (xs : List Observation) (names : List Name) (sites : List Site) (n : ℕ) (stations : List Station) : Type 0 where
  pub count : length stations ≡ n
  pub each : (k : ℕ) (d : Station) → k < n → (site : Site) → IsStation xs names (get_or sites k site) (get_or stations k d)

pub no_stations : (xs : List Observation) (names : List Name) (sites : List Site) → HasStations xs names sites 0 []
no_stations xs names sites = record { count = refl; each = λ k d inside. absurd (omega (arith, inside)) }

pub stations_on : (xs : List Observation) (names : List Name) (sites : List Site) (n : ℕ) (stations : List Station) (station : Station) → HasStations xs names sites n stations
    → ((site : Site) → IsStation xs names (get_or sites n site) station) → HasStations xs names sites (n + 1) (stations ++ station ∷ [])
stations_on xs names sites n stations station has is = record {
  count = long_more stations station n has.count;
  each = each_more (λ k (s : Station). (site : Site) → IsStation xs names (get_or sites k site) s) stations station n has.count has.each is;
}

pub all_stations : (xs : List Observation) (names : List Name) (sites : List Site) (n : ℕ) (stations : List Station) → HasStations xs names sites n stations → n ≡ length sites
    → AreStations xs names sites stations
all_stations xs names sites n stations has e = record {
  count = has.count ∙ e;
  each = λ k site station inside. has.each k station (omega (arith, inside, e)) site;
}

-- ---- the feed

pub sites_line : entry_line sites_entry ≡ codes "{\"collection\":{\"crs\":\"local\",\"id\":\"sites\",\"kind\":\"station\",\"title\":\"sites\"}}\n"
unfolding json_on_literals
sites_line = refl

pub publish_line : entry_line Publish ≡ codes "{\"publish\":{}}\n"
unfolding json_on_literals
publish_line = refl

pub feed_joined : (stations : List Station) (sites publish a b text : List ℕ) → sites ≡ entry_line sites_entry → publish ≡ entry_line Publish → a ≡ sites
    → b ≡ a ++ entries_text (map station_entry stations) → text ≡ b ++ publish → text ≡ feed_text stations
feed_joined stations sites publish a b text s p is_a is_b is =
    let middle = entries_text (map station_entry stations) in
    let end : entries_text (map station_entry stations ++ Publish ∷ []) ≡ middle ++ entry_line Publish =
    flat_map-append entry_line (map station_entry stations) (Publish ∷ []) ∙ ap (λ (t : List ℕ). middle ++ t) (append-nil (entry_line Publish)) in
    is ∙ (ap (λ (t : List ℕ). t ++ publish) is_b ∙ (ap (λ (t : List ℕ). (a ++ middle) ++ t) p ∙ (ap (λ (t : List ℕ). (t ++ middle) ++ entry_line Publish) (is_a ∙ s)
    ∙ (append_assoc (entry_line sites_entry) middle (entry_line Publish) ∙ ap (λ (t : List ℕ). entry_line sites_entry ++ t) (sym end)))))
