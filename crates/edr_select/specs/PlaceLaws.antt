-- The list of all places against places within bounds.
use Rattle.std.proofs.Common.{◌≡◌, ℕ, Bool, true, sym, ◌∙◌, arith}
use Rattle.std.specs.List.{range_with_len, list_any}
use Rattle.edr_chunk.specs.declared.shapes.GridShape.{GridShape}
use Rattle.edr_chunk.specs.declared.shapes.GridPlace.{GridPlace}
use Rattle.edr_chunk.specs.Places.{Within}
use Rattle.edr_chunk.specs.AllPlaces.{at, places}
use Rattle.edr_chunk.specs.LawsOfPlaces.{Found}
use Rattle.edr_select.specs.ListLaws.{any-map, any-flat_map, passes_at, any_range, Each, each-map_range, each-flat_map_range}

-- some place passes: along x, then y, z, t and the parameters
abbrev pub some_x : (GridPlace → Bool) → GridShape → ℕ → ℕ → ℕ → ℕ → Bool
some_x t s p m z y = list_any (λ x. t (at p m z y x)) (range_with_len 0 s.columns)

abbrev pub some_y : (GridPlace → Bool) → GridShape → ℕ → ℕ → ℕ → Bool
some_y t s p m z = list_any (some_x t s p m z) (range_with_len 0 s.rows)

abbrev pub some_z : (GridPlace → Bool) → GridShape → ℕ → ℕ → Bool
some_z t s p m = list_any (some_y t s p m) (range_with_len 0 s.levels)

abbrev pub some_t : (GridPlace → Bool) → GridShape → ℕ → Bool
some_t t s p = list_any (some_z t s p) (range_with_len 0 s.times)

abbrev pub some : (GridPlace → Bool) → GridShape → Bool
some t s = list_any (some_t t s) (range_with_len 0 s.parameters)

-- a test over all places is a test over each axis in turn
pub any_places : (t : GridPlace → Bool) (s : GridShape) → list_any t (places s) ≡ some t s
unfolding places
any_places t s = simp (any-flat_map, any-map)

pub found_place : (t : GridPlace → Bool) (s : GridShape) → list_any t (places s) ≡ true → Found t s
found_place t s h =
    let hp = passes_at (some_t t s) 0 s.parameters (sym (any_places t s) ∙ h) in
    let ht = passes_at (some_z t s hp.place) 0 s.times hp.passes in
    let hz = passes_at (some_y t s hp.place ht.place) 0 s.levels ht.passes in
    let hy = passes_at (some_x t s hp.place ht.place hz.place) 0 s.rows hz.passes in
    let hx = passes_at (λ (x : ℕ). t (at hp.place ht.place hz.place hy.place x)) 0 s.columns hy.passes in
    record {
      place = at hp.place ht.place hz.place hy.place hx.place;
      within = record {
        parameter = omega (arith, hp.high);
        t = omega (arith, ht.high);
        z = omega (arith, hz.high);
        y = omega (arith, hy.high);
        x = omega (arith, hx.high);
      };
      passes = hx.passes;
    }

pub place_found : (t : GridPlace → Bool) (s : GridShape) (a : GridPlace) → Within s a → t a ≡ true → list_any t (places s) ≡ true
place_found t s a w h =
    any_places t s ∙ any_range (some_t t s) 0 s.parameters a.parameter (omega arith) (omega (arith, w.parameter))
    (any_range (some_z t s a.parameter) 0 s.times a.t (omega arith) (omega (arith, w.t))
    (any_range (some_y t s a.parameter a.t) 0 s.levels a.z (omega arith) (omega (arith, w.z))
    (any_range (some_x t s a.parameter a.t a.z) 0 s.rows a.y (omega arith) (omega (arith, w.y))
    (any_range (λ x. t (at a.parameter a.t a.z a.y x)) 0 s.columns a.x (omega arith) (omega (arith, w.x)) h))))

-- what holds within holds of each place
pub each_place : (P : GridPlace → Type 0) (s : GridShape) → ((a : GridPlace) → Within s a → P a) → Each P (places s)
unfolding places
each_place P s h =
    each-flat_map_range P _ 0 s.parameters (λ p lp hp. each-flat_map_range P _ 0 s.times (λ t lt ht. each-flat_map_range P _ 0 s.levels (λ z lz hz.
    each-flat_map_range P _ 0 s.rows (λ y ly hy. each-map_range P (λ x. at p t z y x) 0 s.columns (λ x lx hx.
    h (at p t z y x) (record { parameter = omega (arith, hp); t = omega (arith, ht); z = omega (arith, hz); y = omega (arith, hy); x = omega (arith, hx) }))))))
