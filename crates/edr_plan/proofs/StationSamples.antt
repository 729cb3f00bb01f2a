-- The samples of stations, by their places.
use Rattle.std.proofs.Common.{◌≡◌, ℕ, zero, suc, ◌+◌, ◌*◌, ◌/◌, ◌%◌, ◌<◌, ◌≤◌, List, [], ◌∷◌, ◌++◌, length, refl, ap, ap₂, sym, ◌∙◌, arith, add-one, add-zero, zero-add, zero-mul, ℤ, Some, None, All, take}
use Rattle.std.specs.declared.option.Option.{Option}
use Rattle.std.specs.Prelude.{map}
use Rattle.std.specs.List.{range_with_len, flat_map, slice_index_or}
use Rattle.std.proofs.lemmas.List.Elements.{All-head, All-tail}
use Rattle.std.proofs.lemmas.List.Folds.{flat_map-map}
use Rattle.std.proofs.lemmas.List.Sums.{sum_by-cons}
use Rattle.edr_axes.specs.Axes.{value_at, axis_length}
use Rattle.covjson_value.specs.declared.coverages.Parameter.{Parameter}
use Rattle.covjson_value.specs.Samples.{Node, node, values_or_absent}
use Rattle.edr_station.specs.Stations.{StationValue, IsStation, HasSeries, values_along, station_at}
use Rattle.edr_station.specs.Blocks.{blocks_of, blocks}
use Rattle.edr_select.specs.Samples.{Stored, id_at, station_nodes, series_samples, samples_of_station, samples_of_stations}
use Rattle.edr_corridor.specs.Boxes.{level_at}
use Rattle.edr_select.specs.ListLaws.{map-map, map_agree_in, flat_map_agree, all_member}
use Rattle.edr_plan.specs.StationPlaces.{cell_of, stored_of, stored_in}
use Rattle.edr_select.specs.KeptLaws.{all_below, values_read, rows_numbered}

-- ---- runs of numbers

range_shifted : (a n : ℕ) → range_with_len (a + 1) n ≡ map suc (range_with_len a n)
range_shifted a zero = refl
range_shifted a (suc n) = ap₂ (λ x xs. x ∷ xs) (add-one a) (range_shifted (a + 1) n)

-- behind the first number of a run
flat_map_shifted : {X : Type 0} (f : ℕ → List X) (n : ℕ) → flat_map f (range_with_len 1 n) ≡ flat_map (λ k. f (suc k)) (range_with_len 0 n)
flat_map_shifted f n = ap (flat_map f) (range_shifted 0 n) ∙ flat_map-map f suc (range_with_len 0 n)

flat_map_below : {X : Type 0} (f g : ℕ → List X) (a n : ℕ) → ((k : ℕ) → a ≤ k → k < a + n → f k ≡ g k) → flat_map f (range_with_len a n) ≡ flat_map g (range_with_len a n)
flat_map_below f g a zero same = refl
flat_map_below f g a (suc n) same =
    ap₂ (λ x xs. x ++ xs) (same a (omega arith) (omega arith)) (flat_map_below f g (a + 1) n (λ k low high. same k (omega arith) (omega arith)))

-- ---- times and levels

-- there are as many levels as their axis is long
pub levels_are_axis : (zs : Option (List ℤ)) → axis_length zs ≡ axis_length zs
levels_are_axis None = refl
levels_are_axis (Some zs) = refl

levels_read : (zs : Option (List ℤ)) → values_or_absent zs ≡ map (level_at zs) (range_with_len 0 (axis_length zs))
levels_read None = refl
levels_read (Some zs) = ap (map Some) (sym (values_read zs)) ∙ map-map Some (value_at zs) (range_with_len 0 (length zs))

abbrev node_of : StationValue → ℕ → ℕ → Node
node_of s t z = node (Some (value_at s.ts t)) (level_at s.zs z) s.y s.x

nodes_read : (s : StationValue) → station_nodes s ≡ flat_map (λ t. map (node_of s t) (range_with_len 0 (axis_length s.zs))) (range_with_len 0 (length s.ts))
nodes_read s =
    let levels : List ℕ = range_with_len 0 (axis_length s.zs) in
    let along : List (Option ℤ) → ℤ → List Node = λ zs t. map (λ z. node (Some t) z s.y s.x) zs in
    ap (λ zs. flat_map (along zs) s.ts) (levels_read s.zs)
    ∙ (ap (flat_map (along (map (level_at s.zs) levels))) (sym (values_read s.ts))
    ∙ (flat_map-map (along (map (level_at s.zs) levels)) (value_at s.ts) (range_with_len 0 (length s.ts))
    ∙ flat_map_agree (λ t. along (map (level_at s.zs) levels) (value_at s.ts t)) (λ t. map (node_of s t) levels)
    (λ t. map-map (λ z. node (Some (value_at s.ts t)) z s.y s.x) (level_at s.zs) levels) (range_with_len 0 (length s.ts))))

-- rows of a width, by the numbers of their cells
numbered : {X : Type 0} (f : ℕ → ℕ → X) (w h : ℕ)
    → flat_map (λ r. map (f r) (range_with_len 0 w)) (range_with_len 0 h) ≡ map (λ k. f (k / w) (k % w)) (range_with_len 0 (h * w))
numbered f w h = rows_numbered f w 0 h ∙ ap (λ a. map (λ k. f (k / w) (k % w)) (range_with_len a (h * w))) (zero-mul w)

-- ---- the samples of a parameter

abbrev sample_along : StationValue → List ℕ → ℕ → (ℕ → Node) → (ℕ → Option ℤ) → ℕ → Stored
sample_along s id first shown value j =
    record { sample = record { parameter = id; at = shown j; value = value j }; station = Some s.id; chunk = first + j / 256 }

series_along : (s : StationValue) (id : List ℕ) (first : ℕ) (shown : ℕ → Node) (value : ℕ → Option ℤ) (a n : ℕ) (values : List (Option ℤ)) → length values ≡ n
    → ((k : ℕ) → k < n → slice_index_or values k None ≡ value (a + k))
    → series_samples s id first a (map shown (range_with_len a n)) values ≡ map (sample_along s id first shown value) (range_with_len a n)
series_along s id first shown value a zero values long same = refl
series_along s id first shown value a (suc n) [] long same = absurd (omega arith)
series_along s id first shown value a (suc n) (v ∷ values) long same =
    ap₂ (λ u r. record { sample = record { parameter = id; at = shown a; value = u }; station = Some s.id; chunk = first + a / 256 } ∷ r)
    (same 0 (omega arith) ∙ ap value (add-zero a))
    (series_along s id first shown value (a + 1) n values (omega arith) (λ k h. same (suc k) (omega arith) ∙ ap value (next a k)))
  where
    next : (a k : ℕ) → a + suc k ≡ (a + 1) + k
    next a k = omega arith

-- the sample of a parameter at a time and a level
abbrev sample_in : StationValue → List ℕ → ℕ → List (Option ℤ) → ℕ → ℕ → Stored
sample_in s id first values t z =
    record { sample = record { parameter = id; at = node_of s t z; value = slice_index_or values (cell_of s t z) None }; station = Some s.id; chunk = first + cell_of s t z / 256 }

series_by_places : (s : StationValue) (id : List ℕ) (first : ℕ) (values : List (Option ℤ)) → length values ≡ values_along s
    → series_samples s id first 0 (station_nodes s) values
    ≡ flat_map (λ t. map (sample_in s id first values t) (range_with_len 0 (axis_length s.zs))) (range_with_len 0 (length s.ts))
series_by_places s id first values long =
    ap (λ ns. series_samples s id first 0 ns values) (nodes_read s ∙ numbered (node_of s) w h)
    ∙ (series_along s id first shown value 0 (h * w) values long (λ k l. ap value (sym (zero-add k)))
    ∙ (map_agree_in (sample_along s id first shown value) (λ k. sample_in s id first values (k / w) (k % w)) (range_with_len 0 (h * w))
    (λ k c. same k (all_member (λ j. j < h * w) (range_with_len 0 (h * w)) k (all_below (h * w)) c))
    ∙ sym (numbered (sample_in s id first values) w h)))
  where
    w : ℕ
    w = axis_length s.zs

    h : ℕ
    h = length s.ts

    shown : ℕ → Node
    shown k = node_of s (k / w) (k % w)

    value : ℕ → Option ℤ
    value k = slice_index_or values k None

    whole : (k w h : ℕ) → k < h * w → k ≡ (k / w) * w + k % w
    whole k zero h l = absurd (omega (arith, l))
    whole k (suc w) h l = omega arith

    same : (k : ℕ) → k < h * w → sample_along s id first shown value k ≡ sample_in s id first values (k / w) (k % w)
    same k l =
        ap (λ c. record { sample = record { parameter = id; at = shown k; value = slice_index_or values c None }; station = Some s.id; chunk = first + c / 256 }) (whole k w h l)

-- ---- the samples of a station

abbrev parameter_samples : StationValue → List ℕ → ℕ → List (Option ℤ) → List Stored
parameter_samples s id first values = series_samples s id first 0 (station_nodes s) values

station_along : (s : StationValue) (first : ℕ) (ps : List Parameter) (series : List (List (Option ℤ))) → length series ≡ length ps
    → samples_of_station s first ps series
    ≡ flat_map (λ p. parameter_samples s (id_at ps p) (first + p * blocks_of s) (slice_index_or series p [])) (range_with_len 0 (length ps))
station_along s first [] series long = refl
station_along s first (p ∷ ps) [] long = absurd (omega arith)
station_along s first (p ∷ ps) (values ∷ series) long =
    ap₂ (λ xs ys. xs ++ ys) (ap (λ f. parameter_samples s p.id f values) (none first (blocks_of s)))
    (station_along s (first + blocks_of s) ps series (omega arith)
    ∙ (flat_map_agree (λ k. parameter_samples s (id_at ps k) ((first + blocks_of s) + k * blocks_of s) (slice_index_or series k [])) (λ k. along (suc k))
    (λ k. ap (λ f. parameter_samples s (id_at ps k) f (slice_index_or series k [])) (next first k (blocks_of s))) (range_with_len 0 (length ps))
    ∙ sym (flat_map_shifted along (length ps))))
  where
    along : ℕ → List Stored
    along k = parameter_samples s (id_at (p ∷ ps) k) (first + k * blocks_of s) (slice_index_or (values ∷ series) k [])

    none : (first b : ℕ) → first ≡ first + 0 * b
    none first b = omega arith

    next : (first k b : ℕ) → (first + b) + k * b ≡ first + suc k * b
    next first k b = omega arith

-- all samples of a station, the number of whose first block is `first`
abbrev station_samples : List Parameter → StationValue → ℕ → List Stored
station_samples ps s first =
    flat_map (λ p. flat_map (λ t. map (stored_of ps s first p t) (range_with_len 0 (axis_length s.zs))) (range_with_len 0 (length s.ts)))
    (range_with_len 0 (length ps))

station_by_places : (ps : List Parameter) (s : StationValue) (first : ℕ) → HasSeries (length ps) s → samples_of_station s first ps s.series ≡ station_samples ps s first
station_by_places ps s first has =
    station_along s first ps s.series has.many
    ∙ flat_map_below (λ p. parameter_samples s (id_at ps p) (first + p * blocks_of s) (slice_index_or s.series p []))
    (λ p. flat_map (λ t. map (stored_of ps s first p t) (range_with_len 0 (axis_length s.zs))) (range_with_len 0 (length s.ts))) 0 (length ps)
    (λ p low high. series_by_places s (id_at ps p) (first + p * blocks_of s) (slice_index_or s.series p [])
    (has.long p [] (omega (arith, has.many, high))))

-- ---- the samples of all stations

stations_along : (ps : List Parameter) (first : ℕ) (ss : List StationValue) → All (IsStation (length ps)) ss
    → samples_of_stations ps first ss ≡ flat_map (λ k. station_samples ps (station_at ss k) (first + blocks (length ps) (take k ss))) (range_with_len 0 (length ss))
stations_along ps first [] are = refl
stations_along ps first (s ∷ ss) are =
    ap₂ (λ xs ys. xs ++ ys)
    (station_by_places ps s first (All-head (IsStation (length ps)) s ss are).has ∙ ap (station_samples ps s) (sym (add-zero first)))
    (stations_along ps (first + length ps * blocks_of s) ss (All-tail (IsStation (length ps)) s ss are)
    ∙ (flat_map_agree (λ k. station_samples ps (station_at ss k) ((first + length ps * blocks_of s) + blocks (length ps) (take k ss))) (λ k. along (suc k))
    (λ k. ap (station_samples ps (station_at ss k)) (next first (length ps * blocks_of s) (blocks (length ps) (take k ss))
    ∙ ap (λ b. first + b) (sym (sum_by-cons (λ x. length ps * blocks_of x) s (take k ss))))) (range_with_len 0 (length ss))
    ∙ sym (flat_map_shifted along (length ss))))
  where
    along : ℕ → List Stored
    along k = station_samples ps (station_at (s ∷ ss) k) (first + blocks (length ps) (take k (s ∷ ss)))

    next : (a b c : ℕ) → (a + b) + c ≡ a + (b + c)
    next a b c = omega arith

-- all samples, in the order station, parameter, t, z
pub samples_by_places : (ps : List Parameter) (ss : List StationValue) → All (IsStation (length ps)) ss
    → samples_of_stations ps 0 ss
    ≡ flat_map (λ k. flat_map (λ p. flat_map (λ t. map (stored_in ps ss k p t) (range_with_len 0 (axis_length (station_at ss k).zs)))
    (range_with_len 0 (length (station_at ss k).ts))) (range_with_len 0 (length ps))) (range_with_len 0 (length ss))
samples_by_places ps ss are =
    stations_along ps 0 ss are
    ∙ flat_map_agree (λ k. station_samples ps (station_at ss k) (0 + blocks (length ps) (take k ss)))
    (λ k. station_samples ps (station_at ss k) (blocks (length ps) (take k ss)))
    (λ k. ap (station_samples ps (station_at ss k)) (zero-add (blocks (length ps) (take k ss)))) (range_with_len 0 (length ss))
