-- Tiles hold the values of the flat list.
use Rattle.std.proofs.Common.{◌≡◌, refl, ℕ, ◌+◌, ◌*◌, ◌-◌, ◌/◌, ◌%◌, ◌<◌, List, [], ◌∷◌, ◌++◌, ap, sym, ◌∙◌, subst, arith, Option, None, length, get_or, inl, inr, min, length-append}
use Rattle.std.specs.Prelude.{map, ℤ}
use Rattle.std.specs.List.{range_with_len, flat_map}
use Rattle.std.proofs.lemmas.Nat.{div-add-mod'}
use Rattle.std.proofs.lemmas.Bool.{cases_lt}
use Rattle.std.proofs.lemmas.List.{get_or_append_left, get_or_past}
use Rattle.std.proofs.Math.Seq.{get_or-append_seam}
use Rattle.std.proofs.lemmas.List.Elements.{All-nil, All-append, All-map}
use Rattle.edr_chunk.specs.declared.shapes.GridShape.{GridShape}
use Rattle.edr_chunk.specs.declared.shapes.GridPlace.{GridPlace}
use Rattle.edr_chunk.specs.Places.{number, count, Within}
use Rattle.edr_chunk.specs.AllPlaces.{at, places}
use Rattle.edr_chunk.specs.Tiles.{tile_shape, tile_place, tiles, tile_of, tile_width, tile_height, node_at, IsTile, value_in, LiesIn}
use Rattle.edr_chunk.specs.Grids.{value}
use Rattle.edr_chunk.specs.KeptTiles.{row_value, row_start, cut_values, inner, stored, IsPacked, Filled}
use Rattle.edr_chunk.proofs.Lists.{get_rows, length_rows}
use Rattle.edr_chunk.specs.PlaceLaws.{number-once, number-below}
use Rattle.edr_chunk.proofs.PlaceNumbers.{tile_within, read_place, read_places, places_agree, below_rows}
use Rattle.edr_base.specs.Limits.{HasSample, AreSamples}

-- where a place stands in its tile
pub inner_row : (s : GridShape) (a : GridPlace) → Within s a → a.y % 64 < tile_height s (tile_place a)
inner_row s a w = omega (arith, w.y)

pub inner_column : (s : GridShape) (a : GridPlace) → Within s a → a.x % 64 < tile_width s (tile_place a)
inner_column s a w = omega (arith, w.x)

pub cut_reads : (s : GridShape) (values : List (Option ℤ)) (a : GridPlace) → Within s a → get_or (cut_values s values (tile_place a)) (inner s a) None ≡ get_or values (number s a) None
cut_reads s values a w =
    get_rows (λ r. row_value s values (row_start (tile_place a) r)) (tile_width s (tile_place a)) 0 (tile_height s (tile_place a)) (a.y % 64) (a.x % 64) None (inner_row s a w) (inner_column s a w)
    ∙ ap (λ k. get_or values (((((a.parameter * s.times + a.t) * s.levels + a.z) * s.rows) + k) * s.columns + (a.x / 64 * 64 + a.x % 64)) None) row
    ∙ ap (λ k. get_or values (((((a.parameter * s.times + a.t) * s.levels + a.z) * s.rows) + a.y) * s.columns + k) None) (div-add-mod' a.x 64)
  where
    row : a.y / 64 * 64 + (0 + a.y % 64) ≡ a.y
    row = omega (arith, div-add-mod' a.y 64)

pub cut_long : (s : GridShape) (values : List (Option ℤ)) (corner : GridPlace) → length (cut_values s values corner) ≡ tile_height s corner * tile_width s corner
cut_long s values corner = length_rows (λ r. row_value s values (row_start corner r)) (tile_width s corner) 0 (tile_height s corner)

-- a whole tile holds the place
pub kept_holds : (s : GridShape) (a : GridPlace) (values : List (Option ℤ)) → Within s a → length values ≡ tile_height s (tile_place a) * tile_width s (tile_place a) → inner s a < length values
kept_holds s a values w long = subst (λ (n : ℕ). inner s a < n) (sym long) (below_rows _ _ _ _ (inner_row s a w) (inner_column s a w))

-- one tile more
pub filled_more : (s : GridShape) (values : List (Option ℤ)) (kept : List (List (Option ℤ))) (n : ℕ) (corner : GridPlace)
    → Filled s values kept n → Within (tile_shape s) corner → number (tile_shape s) corner ≡ n → Filled s values (kept ++ cut_values s values corner ∷ []) (n + 1)
filled_more s values kept n corner f w e = record {
  many = omega (arith, f.many, length-append kept (cut_values s values corner ∷ []));
  each = λ a h l. elim (cases_lt (tile_of s a) n) [
    | inl below ↦ get_or_append_left kept (cut_values s values corner ∷ []) [] (tile_of s a) (omega (arith, f.many)) ∙ f.each a h below
    | inr above ↦
        let here : tile_of s a ≡ n = omega arith in
        let same : tile_place a ≡ corner = number-once (tile_shape s) (tile_place a) corner (tile_within s a h) w (here ∙ sym e) in
        ap (λ k. get_or (kept ++ cut_values s values corner ∷ []) k []) (here ∙ sym f.many)
        ∙ get_or-append_seam kept (cut_values s values corner) [] [] ∙ ap (cut_values s values) (sym same)
  ];
}

pub filled_long : (s : GridShape) (values : List (Option ℤ)) (kept : List (List (Option ℤ))) → Filled s values kept (tiles s)
    → (a : GridPlace) → Within s a → length (get_or kept (tile_of s a) []) ≡ tile_height s (tile_place a) * tile_width s (tile_place a)
filled_long s values kept f a w = ap length (f.each a w (number-below (tile_shape s) (tile_place a) (tile_within s a w))) ∙ cut_long s values (tile_place a)

filled_reads : (s : GridShape) (values : List (Option ℤ)) (kept : List (List (Option ℤ))) → Filled s values kept (tiles s)
    → (a : GridPlace) → Within s a → stored s kept a ≡ get_or values (number s a) None
filled_reads s values kept f a w =
    ap (λ (l : List (Option ℤ)). get_or l (inner s a) None) (f.each a w (number-below (tile_shape s) (tile_place a) (tile_within s a w))) ∙ cut_reads s values a w

pub filled_values : (s : GridShape) (values : List (Option ℤ)) (kept : List (List (Option ℤ))) → length values ≡ count s → Filled s values kept (tiles s) → map (stored s kept) (places s) ≡ values
filled_values s values kept long f =
    places_agree (stored s kept) (λ a. get_or values (number s a) None) s (filled_reads s values kept f) ∙ read_places s values None long

-- what a kept tile holds is what the grid holds
pub stored_value : (s : GridShape) (kept : List (List (Option ℤ))) (a : GridPlace) → Within s a → get_or (map (stored s kept) (places s)) (number s a) None ≡ stored s kept a
stored_value s kept a w = read_place (stored s kept) s a None w

-- the nodes of a tile
pub node_within : (s : GridShape) (corner : GridPlace) (down right : ℕ) → Within (tile_shape s) corner → down < tile_height s corner → right < tile_width s corner
    → Within s (node_at corner down right)
node_within s corner down right w low aside =
    record { parameter = w.parameter; t = w.t; z = w.z; y = omega (arith, w.y, low); x = omega (arith, w.x, aside) }

pub node_corner : (s : GridShape) (corner : GridPlace) (down right : ℕ) → down < tile_height s corner → right < tile_width s corner → tile_place (node_at corner down right) ≡ corner
node_corner s corner down right low aside =
    ap (λ n. at corner.parameter corner.t corner.z n ((corner.x * 64 + right) / 64)) (back corner.y down (omega (arith, low)))
    ∙ ap (at corner.parameter corner.t corner.z corner.y) (back corner.x right (omega (arith, aside)))
  where
    back : (n k : ℕ) → k < 64 → (n * 64 + k) / 64 ≡ n
    back n k l = omega arith

-- each tile has a first node
pub some_row : (s : GridShape) (corner : GridPlace) → Within (tile_shape s) corner → 0 < tile_height s corner
some_row s corner w = omega (arith, w.y)

pub some_column : (s : GridShape) (corner : GridPlace) → Within (tile_shape s) corner → 0 < tile_width s corner
some_column s corner w = omega (arith, w.x)

-- a kept tile, opened
pub opened : (s : GridShape) (kept : List (List (Option ℤ))) (k : ℕ) (corner : GridPlace) → IsPacked s kept → Within (tile_shape s) corner → number (tile_shape s) corner ≡ k
    → IsTile (record { shape = s; values = map (stored s kept) (places s) }) k (record { row = corner.y * 64; column = corner.x * 64; width = tile_width s corner; values = get_or kept k [] })
opened s kept k corner h w e =
    let same : (a : GridPlace) → Within s a → tile_of s a ≡ k → tile_place a ≡ corner = λ a v here. number-once (tile_shape s) (tile_place a) corner (tile_within s a v) w (here ∙ sym e) in
    let low = some_row s corner w in
    let aside = some_column s corner w in
    let node : GridPlace = node_at corner 0 0 in
    let first : tile_place node ≡ corner = node_corner s corner 0 0 low aside in
    let lies_here : (a : GridPlace) → Within s a → tile_of s a ≡ k
    → LiesIn (record { row = corner.y * 64; column = corner.x * 64; width = tile_width s corner; values = get_or kept k [] }) a.y a.x =
    λ a v here.
    subst (λ (t : GridPlace). LiesIn (record { row = t.y * 64; column = t.x * 64; width = tile_width s t; values = get_or kept k [] }) a.y a.x) (same a v here)
    (subst (λ (n : ℕ). LiesIn (record { row = a.y / 64 * 64; column = a.x / 64 * 64; width = tile_width s (tile_place a); values = get_or kept n [] }) a.y a.x) here
    (here_lies s kept a v (kept_holds s a (get_or kept (tile_of s a) []) v (h.stand.long a v)))) in
    let same_here : (a : GridPlace) → Within s a → tile_of s a ≡ k
    → value_in (record { row = corner.y * 64; column = corner.x * 64; width = tile_width s corner; values = get_or kept k [] }) a.y a.x ≡ value (record { shape = s; values = map (stored s kept) (places s) }) a =
    λ a v here.
    subst (λ (t : GridPlace). value_in (record { row = t.y * 64; column = t.x * 64; width = tile_width s t; values = get_or kept k [] }) a.y a.x ≡ value (record { shape = s; values = map (stored s kept) (places s) }) a) (same a v here)
    (subst (λ (n : ℕ). value_in (record { row = a.y / 64 * 64; column = a.x / 64 * 64; width = tile_width s (tile_place a); values = get_or kept n [] }) a.y a.x ≡ value (record { shape = s; values = map (stored s kept) (places s) }) a) here
    (here_same s kept a ∙ sym (stored_value s kept a v))) in
    record {
      corner = corner;
      within = w;
      numbered = e;
      row = refl;
      column = refl;
      width = refl;
      long = subst (λ (n : ℕ). length (get_or kept n []) ≡ tile_height s corner * tile_width s corner) (ap (number (tile_shape s)) first ∙ e)
          (subst (λ (t : GridPlace). length (get_or kept (tile_of s node) []) ≡ tile_height s t * tile_width s t) first (h.stand.long node (node_within s corner 0 0 w low aside)));
      each = λ down right r c.
          ap (λ (n : ℕ). get_or (get_or kept k []) n None) (sym (behind (corner.y * 64) down (tile_width s corner) (corner.x * 64) right))
          ∙ same_here (node_at corner down right) (node_within s corner down right w r c) (ap (number (tile_shape s)) (node_corner s corner down right r c) ∙ e);
      lies = lies_here;
      same = same_here;
    }
  where
    behind : (y down w x right : ℕ) → (y + down - y) * w + (x + right - x) ≡ down * w + right
    behind y down w x right = ap (λ n. n * w + (x + right - x)) (off y down) ∙ ap (λ n. down * w + n) (off x right)
      where
        off : (n k : ℕ) → n + k - n ≡ k
        off n k = omega arith

    below : (n : ℕ) → n - n / 64 * 64 ≡ n % 64
    below n = omega (arith, div-add-mod' n 64)

    at_inner : (s : GridShape) (a : GridPlace) → (a.y - a.y / 64 * 64) * (min (s.columns - a.x / 64 * 64) 64) + (a.x - a.x / 64 * 64) ≡ inner s a
    at_inner s a = ap (λ i. i * (min (s.columns - a.x / 64 * 64) 64) + (a.x - a.x / 64 * 64)) (below a.y) ∙ ap (λ j. (a.y % 64) * (min (s.columns - a.x / 64 * 64) 64) + j) (below a.x)

    here_lies : (s : GridShape) (kept : List (List (Option ℤ))) (a : GridPlace) → Within s a → inner s a < length (get_or kept (tile_of s a) [])
        → LiesIn (record { row = a.y / 64 * 64; column = a.x / 64 * 64; width = min (s.columns - a.x / 64 * 64) 64; values = get_or kept (tile_of s a) [] }) a.y a.x
    here_lies s kept a v i = (omega arith, omega arith, omega (arith, v.x), subst (λ (n : ℕ). n < length (get_or kept (tile_of s a) [])) (sym (at_inner s a)) i)

    here_same : (s : GridShape) (kept : List (List (Option ℤ))) (a : GridPlace)
        → value_in (record { row = a.y / 64 * 64; column = a.x / 64 * 64; width = min (s.columns - a.x / 64 * 64) 64; values = get_or kept (tile_of s a) [] }) a.y a.x ≡ stored s kept a
    here_same s kept a = ap (λ n. get_or (get_or kept (tile_of s a) []) n None) (at_inner s a)

-- what is read of samples is a sample, or none
read_sample : (values : List (Option ℤ)) (n : ℕ) → AreSamples values → HasSample (get_or values n None)
read_sample values n all =
    elim (cases_lt n (length values)) [ inl below ↦ all n None below | inr above ↦ subst HasSample (sym (get_or_past values n None (omega (arith, above)))) tt ]

all_rows : (f : ℕ → List (Option ℤ)) → ((r : ℕ) → AreSamples (f r)) → (rows : List ℕ) → AreSamples (flat_map f rows)
all_rows f each [] = All-nil HasSample
all_rows f each (r ∷ rows) = All-append HasSample (f r) (flat_map f rows) (each r) (all_rows f each rows)

-- a tile's values are samples, where all values are
pub cut_samples : (s : GridShape) (values : List (Option ℤ)) (corner : GridPlace) → AreSamples values → AreSamples (cut_values s values corner)
cut_samples s values corner all =
    all_rows (λ r. map (row_value s values (row_start corner r)) (range_with_len 0 (tile_width s corner)))
    (λ r. All-map HasSample (row_value s values (row_start corner r)) (range_with_len 0 (tile_width s corner))
    (λ k d h. read_sample values (number s (at corner.parameter corner.t corner.z (corner.y * 64 + r) (corner.x * 64 + get_or (range_with_len 0 (tile_width s corner)) k d))) all))
    (range_with_len 0 (tile_height s corner))

pub filled_samples : (s : GridShape) (values : List (Option ℤ)) (kept : List (List (Option ℤ))) → AreSamples values → Filled s values kept (tiles s)
    → (a : GridPlace) → Within s a → HasSample (stored s kept a)
filled_samples s values kept all f a w = subst HasSample (sym (filled_reads s values kept f a w)) (read_sample values (number s a) all)
