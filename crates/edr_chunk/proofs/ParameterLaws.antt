-- The tiles of one parameter more stand behind those that were kept.
use Rattle.std.proofs.Common.{◌≡◌, ℕ, ◌+◌, ◌*◌, ◌^◌, ◌<◌, ◌≤◌, List, [], ◌++◌, ap, sym, ◌∙◌, subst, refl, arith, Option, None, length, get_or, inl, inr, length-append, append-nil, take, drop}
use Rattle.std.specs.Prelude.{map, ℤ}
use Rattle.std.specs.List.{range_with_len, flat_map}
use Rattle.std.proofs.lemmas.Bool.{cases_lt}
use Rattle.std.proofs.Math.Nat.{mul-le-mul_right}
use Rattle.std.proofs.Math.Seq.{take-add}
use Rattle.std.proofs.lemmas.List.{get_or_append_left, get_or-append-add}
use Rattle.edr_chunk.specs.declared.shapes.GridShape.{GridShape}
use Rattle.edr_chunk.specs.declared.shapes.GridPlace.{GridPlace}
use Rattle.edr_chunk.specs.Places.{nodes, node_number, count, Within}
use Rattle.edr_chunk.specs.AllPlaces.{at, places}
use Rattle.edr_chunk.specs.PlaceLaws.{number-below, number-by_node}
use Rattle.edr_chunk.specs.Tiles.{with_parameters, tile_shape, tile_place, tile_height, tile_width, tiles, tile_of}
use Rattle.edr_chunk.specs.KeptTiles.{one_of, one_more, inner, stored, AreTiles, Filled}
use Rattle.edr_chunk.proofs.Lists.{flat_map_range_agree, map_range_agree, flat_map_range_more}
use Rattle.edr_chunk.proofs.PlaceNumbers.{columns_of, rows_of, levels_of, times_of, map_places, places_agree, tile_within}
use Rattle.edr_chunk.proofs.TileLaws.{filled_long, filled_samples, filled_values}
use Rattle.edr_base.specs.Limits.{HasSample, AreSamples}

-- the place of the first parameter at a node
abbrev first_at : GridPlace → GridPlace
first_at a = at 0 a.t a.z a.y a.x

first_within : (s : GridShape) (p : ℕ) (a : GridPlace) → Within (with_parameters s p) a → Within (one_of s) (first_at a)
first_within s p a w = record { parameter = omega arith; t = w.t; z = w.z; y = w.y; x = w.x }

-- the tiles of the next parameter are numbered from the number of tiles on
next_tile : (s : GridShape) (a : GridPlace) → a.parameter ≡ s.parameters → tile_of s a ≡ tiles s + tile_of (one_of s) (first_at a)
next_tile s a here =
    number-by_node (tile_shape s) (tile_place a)
    ∙ (ap (λ p. p * nodes (tile_shape s) + node_number (tile_shape s) (tile_place a)) here
    ∙ ap (λ n. tiles s + n) (first (nodes (tile_shape s)) (node_number (tile_shape s) (tile_place a)) ∙ sym (number-by_node (tile_shape (one_of s)) (tile_place (first_at a)))))
  where
    first : (n k : ℕ) → k ≡ 0 * n + k
    first n k = omega arith

module _ (s : GridShape) (kept more : List (List (Option ℤ))) (part : List (Option ℤ)) (h : AreTiles s kept) (f : Filled (one_of s) part more (tiles (one_of s))) where
  -- what stood there stays
  old_tile : (a : GridPlace) → Within s a → get_or (kept ++ more) (tile_of s a) [] ≡ get_or kept (tile_of s a) []
  old_tile a w = get_or_append_left kept more [] (tile_of s a) (omega (arith, h.many, number-below (tile_shape s) (tile_place a) (tile_within s a w)))

  new_tile : (a : GridPlace) → a.parameter ≡ s.parameters → get_or (kept ++ more) (tile_of s a) [] ≡ get_or more (tile_of (one_of s) (first_at a)) []
  new_tile a here =
      ap (λ k. get_or (kept ++ more) k []) (next_tile s a here ∙ ap (λ k. k + tile_of (one_of s) (first_at a)) (sym h.many))
      ∙ get_or-append-add kept more (tile_of (one_of s) (first_at a)) []

  -- what holds of the tiles that were kept and of the next ones holds of all
  more_hold : (P : GridPlace → List (Option ℤ) → Type 0) → ((a : GridPlace) → Within s a → P a (get_or kept (tile_of s a) []))
      → ((a : GridPlace) → Within (one_more s) a → P a (get_or more (tile_of (one_of s) (first_at a)) []))
      → (a : GridPlace) → Within (one_more s) a → P a (get_or (kept ++ more) (tile_of s a) [])
  more_hold P old new a w = elim (cases_lt a.parameter s.parameters) [
    | inl low ↦
        let v : Within s a = record { parameter = low; t = w.t; z = w.z; y = w.y; x = w.x } in
        subst (P a) (sym (old_tile a v)) (old a v)
    | inr high ↦
        let here : a.parameter ≡ s.parameters = omega (arith, w.parameter) in
        subst (P a) (sym (new_tile a here)) (new a w)
  ]

  more_long : (a : GridPlace) → Within (one_more s) a → length (get_or (kept ++ more) (tile_of s a) []) ≡ tile_height s (tile_place a) * tile_width s (tile_place a)
  more_long =
      more_hold (λ a l. length l ≡ tile_height s (tile_place a) * tile_width s (tile_place a)) h.long
      (λ a w. filled_long (one_of s) part more f (first_at a) (first_within s (s.parameters + 1) a w))

  more_samples : AreSamples part → (a : GridPlace) → Within (one_more s) a → HasSample (stored (one_more s) (kept ++ more) a)
  more_samples all =
      more_hold (λ a l. HasSample (get_or l (inner s a) None)) h.samples
      (λ a w. filled_samples (one_of s) part more all f (first_at a) (first_within s (s.parameters + 1) a w))

  pub more_tiles : AreSamples part → count (one_more s) < 2 ^ 64 → AreTiles (one_more s) (kept ++ more)
  more_tiles all fits = record {
    one = h.one;
    fits = fits;
    many = length-append kept more ∙ (ap (λ n. n + length more) h.many ∙ (ap (λ n. tiles s + n) f.many ∙ joined s.parameters (nodes (tile_shape s))));
    long = more_long;
    samples = more_samples all;
  }
    where
      joined : (p n : ℕ) → p * n + 1 * n ≡ (p + 1) * n
      joined p n = omega arith

  -- the values of the next parameter
  next_values : times_of (stored (one_more s) (kept ++ more)) s s.parameters ≡ times_of (stored (one_of s) more) s 0
  next_values =
      flat_map_range_agree (levels_of (stored (one_more s) (kept ++ more)) s s.parameters) (levels_of (stored (one_of s) more) s 0) 0 s.times (λ t _ ht.
      flat_map_range_agree (rows_of (stored (one_more s) (kept ++ more)) s s.parameters t) (rows_of (stored (one_of s) more) s 0 t) 0 s.levels (λ z _ hz.
      flat_map_range_agree (columns_of (stored (one_more s) (kept ++ more)) s s.parameters t z) (columns_of (stored (one_of s) more) s 0 t z) 0 s.rows (λ y _ hy.
      map_range_agree (λ x. stored (one_more s) (kept ++ more) (at s.parameters t z y x)) (λ x. stored (one_of s) more (at 0 t z y x)) 0 s.columns (λ x _ hx.
      ap (λ (l : List (Option ℤ)). get_or l (inner s (at s.parameters t z y x)) None) (new_tile (at s.parameters t z y x) refl)))))

  pub more_values : length part ≡ nodes s
      → map (stored (one_more s) (kept ++ more)) (places (one_more s)) ≡ map (stored s kept) (places s) ++ part
  more_values long =
      map_places (stored (one_more s) (kept ++ more)) (one_more s)
      ∙ (flat_map_range_more (times_of (stored (one_more s) (kept ++ more)) s) s.parameters
      ∙ (ap (λ l. l ++ times_of (stored (one_more s) (kept ++ more)) s s.parameters) old
      ∙ ap (λ l. map (stored s kept) (places s) ++ l) (next_values ∙ next)))
    where
      old : flat_map (times_of (stored (one_more s) (kept ++ more)) s) (range_with_len 0 s.parameters) ≡ map (stored s kept) (places s)
      old =
          sym (map_places (stored (one_more s) (kept ++ more)) s)
          ∙ places_agree (stored (one_more s) (kept ++ more)) (stored s kept) s (λ a w. ap (λ (l : List (Option ℤ)). get_or l (inner s a) None) (old_tile a w))

      counted : length part ≡ count (one_of s)
      counted = omega (arith, long)

      next : times_of (stored (one_of s) more) s 0 ≡ part
      next = sym (append-nil (times_of (stored (one_of s) more) s 0)) ∙ (sym (map_places (stored (one_of s) more) (one_of s)) ∙ filled_values (one_of s) part more counted f)

-- ---- of no parameter there is nothing

pub no_values : (s : GridShape) (kept : List (List (Option ℤ))) → map (stored (with_parameters s 0) kept) (places (with_parameters s 0)) ≡ []
no_values s kept = map_places (stored (with_parameters s 0) kept) (with_parameters s 0)

-- ---- the values of each parameter are a part of all
pub part_inside : (p n m : ℕ) → p < m → p * n + n ≤ m * n
part_inside p n m low = omega (arith, mul-le-mul_right n (below p m low))
  where
    below : (p m : ℕ) → p < m → p + 1 ≤ m
    below p m low = omega arith

pub part_more : {X : Type 0} (p n : ℕ) (xs : List X) → take ((p + 1) * n) xs ≡ take (p * n) xs ++ take n (drop (p * n) xs)
part_more p n xs = ap (λ k. take k xs) (next p n) ∙ take-add (p * n) n xs
  where
    next : (p n : ℕ) → (p + 1) * n ≡ p * n + n
    next p n = omega arith
