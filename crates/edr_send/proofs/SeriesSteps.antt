-- Items with numbers, which rise item by item.
use Rattle.std.proofs.Common.{◌≡◌, ℕ, ◌+◌, ◌<◌, List, ◌++◌, length, take, drop, get_or, refl, ap, ◌∙◌, Option}
use Rattle.std.specs.Prelude.{map}
use Rattle.std.specs.List.{flat_map}
use Rattle.covjson_write.specs.Pieces.{values_from}
use Rattle.edr_edition.specs.Stores.{Subject}
use Rattle.edr_select.specs.Samples.{ascending_once}
use Rattle.edr_select.specs.Series.{StationSeriesValue, series_range, block_at, cells_taken}
use Rattle.edr_send.specs.SeriesTexts.{collection_of, blocks_in, station_of}
use Rattle.edr_send.proofs.FrameTiles.{flat_take, flat_drop}
use Rattle.edr_send.proofs.Parted.{Parted, parted_next}

module _ {X : Type 0} (n : ℕ) (f : X → List ℕ) (xs : List X) (k : ℕ) (d : X) (inside : k < length xs) (here : Parted n (flat_map f (take k xs)) (flat_map f (drop k xs))) where
  -- those of one item more
  pub item_next : ascending_once n (flat_map f (take (k + 1) xs)) ≡ ascending_once n (flat_map f (take k xs)) ++ ascending_once n (f (get_or xs k d))
  item_next =
      parted_next n (flat_map f (take k xs)) (flat_map f (drop k xs)) (f (get_or xs k d)) (flat_map f (drop (k + 1) xs)) (flat_map f (take (k + 1) xs)) (flat_drop f xs xs k d refl inside) (flat_take f xs xs k d refl inside) here

-- ---- of other cells

pub run_text : (s t : Subject) (series : StationSeriesValue) (p n m : ℕ) (cells others : List (Option ℕ)) → s ≡ t → n ≡ m → cells ≡ others
    → values_from n (series_range (station_of (collection_of s.held) series) cells p).values ≡ values_from m (series_range (station_of (collection_of t.held) series) others p).values
run_text s t series p n m cells others e f h =
    ap (λ (x : Subject). values_from n (series_range (station_of (collection_of x.held) series) cells p).values) e
    ∙ ap (λ (k : ℕ). values_from k (series_range (station_of (collection_of t.held) series) cells p).values) f
    ∙ ap (λ (l : List (Option ℕ)). values_from m (series_range (station_of (collection_of t.held) series) l p).values) h

pub run_blocks : (s t : Subject) (series : StationSeriesValue) (p : ℕ) (cells others : List (Option ℕ)) → s ≡ t → cells ≡ others
    → ascending_once (blocks_in (collection_of s.held)) (map (block_at series p) (cells_taken cells)) ≡ ascending_once (blocks_in (collection_of t.held)) (map (block_at series p) (cells_taken others))
run_blocks s t series p cells others e h =
    ap (λ (x : Subject). ascending_once (blocks_in (collection_of x.held)) (map (block_at series p) (cells_taken cells))) e
    ∙ ap (λ (l : List (Option ℕ)). ascending_once (blocks_in (collection_of t.held)) (map (block_at series p) (cells_taken l))) h
