-- Where polygons lie: a place beyond each position of their rings is in none.
use Rattle.std.proofs.Common.{◌≡◌, ℕ, zero, suc, ◌+◌, ◌-◌, ◌≤◌, arith, Bool, true, false, List, [], ◌∷◌, ◌++◌, length, cond, refl, ap, ap₂, subst, sym, ◌∙◌, inl, inr, All, count_by, Some, ℤ, pos, negsuc, ◌-ℤ◌, ◌*ℤ◌, ◌<ℤ◌, ◌≤ℤ◌, int_lt, int_le}
use Rattle.std.specs.Prelude.{◌&&◌, ◌||◌, ◌⊎◌, not, unwrap_or, slice_get}
use Rattle.std.specs.List.{AllByRecursion, list_any, flat_map}
use Rattle.std.specs.Ordering.{int_eq}
use Rattle.std.proofs.lemmas.Bool.{cases_Bool}
use Rattle.std.proofs.lemmas.Int.{ints}
use borrow.Author.Differences.{up, down, product_is}
use Rattle.std.proofs.Math.Nat.{mul-le-mul_left}
use Rattle.std.proofs.lemmas.List.Elements.{All-head, All-tail}
use Rattle.std.proofs.lemmas.List.Sums.{sum_by-cons}
use Rattle.edr_base.specs.declared.places.Position.{Position}
use Rattle.edr_base.specs.declared.places.Spot.{Spot}
use Rattle.edr_wkt.specs.declared.geometry.Geometry.{Geometry}
use Rattle.edr_wkt.specs.declared.geometry.Geometry.TheVariants.{Polygons}
use Rattle.edr_wkt.specs.declared.geometry.Polygon.{Polygon}
use Rattle.edr_wkt.specs.Faults.{IsClosed, IsGeometry}
use Rattle.edr_geometry.specs.Limits.{IsPlacedPolygon, GeometriesArePlaced}
use Rattle.edr_geometry.specs.Planar.{Edge, spot_of, in_polygon, in_polygons, on_segment, crosses, edges_along, edges_of, is_among, is_odd, cross}
use Rattle.edr_query.specs.declared.shapes.Shape.TheVariants as at
use Rattle.edr_select.specs.declared.reaches.Reach.{Reach}
use Rattle.edr_select.specs.Wanted.{in_areas}
use Rattle.edr_select.specs.Masks.{HasPolygons, IsClosedPolygon, LiesIn, IsReached, IsReachedRing, IsReachedPolygon}

abbrev edge : Position → Position → Edge
edge a b = record { start = spot_of a; end = spot_of b }

-- ---- edges of which none passes a test

abbrev NonePass : (Edge → Bool) → List Edge → Type 0
NonePass t [] = Unit {0}
NonePass t (e ∷ es) = (t e ≡ false) × NonePass t es

none_any : (t : Edge → Bool) (edges : List Edge) → NonePass t edges → list_any t edges ≡ false
none_any t [] h = refl
none_any t (e ∷ es) h = rw h.0 (none_any t es h.1)

none_counted : (t : Edge → Bool) (edges : List Edge) → NonePass t edges → count_by t edges ≡ 0
none_counted t [] h = refl
none_counted t (e ∷ es) h = rw h.0 (none_counted t es h.1)

none-append : (t : Edge → Bool) (one other : List Edge) → NonePass t one → NonePass t other → NonePass t (one ++ other)
none-append t [] other h k = k
none-append t (e ∷ es) other h k = (h.0, none-append t es other h.1 k)

module _ (t : Edge → Bool) (reach : Reach) (fails : (a b : Position) → IsReached reach a → IsReached reach b → t (edge a b) ≡ false) where
  none_along : (ring : List Position) → IsReachedRing reach ring → NonePass t (edges_along ring)
  none_along [] h = tt
  none_along (p ∷ []) h = tt
  none_along (p ∷ (q ∷ ps)) h =
      let one = All-head (IsReached reach) p (q ∷ ps) h in
      let rest = All-tail (IsReached reach) p (q ∷ ps) h in
      (fails p q one (All-head (IsReached reach) q ps rest), none_along (q ∷ ps) rest)

  none_in : (rings : List (List Position)) → All (IsReachedRing reach) rings → NonePass t (flat_map edges_along rings)
  none_in [] h = tt
  none_in (r ∷ rs) h =
      none-append t (edges_along r) (flat_map edges_along rs) (none_along r (All-head (IsReachedRing reach) r rs h)) (none_in rs (All-tail (IsReachedRing reach) r rs h))

-- ---- odd and even

abbrev differ : Bool → Bool → Bool
differ true b = not b
differ false b = b

not_not : (b : Bool) → not (not b) ≡ b
not_not true = refl
not_not false = refl

differ_self : (b : Bool) → differ b b ≡ false
differ_self true = refl
differ_self false = refl

differ_on : (a b c : Bool) → differ (differ a b) (differ b c) ≡ differ a c
differ_on true true c = refl
differ_on true false c = refl
differ_on false true c = not_not c
differ_on false false c = refl

differ_both : (a b c : Bool) → differ a (differ b c) ≡ differ (differ a b) c
differ_both true true c = not_not c
differ_both true false c = refl
differ_both false b c = refl

is_odd-suc : (n : ℕ) → is_odd (1 + n) ≡ not (is_odd n)
is_odd-suc n = grind arith

module _ (t : Edge → Bool) where
  odd-cons : (e : Edge) (es : List Edge) → is_odd (count_by t (e ∷ es)) ≡ differ (t e) (is_odd (count_by t es))
  odd-cons e es =
      let step = sum_by-cons (λ g. cond (t g) 1 0) e es in
      elim (cases_Bool (t e)) [
        | inl passes ↦ (let one : count_by t (e ∷ es) ≡ 1 + count_by t es = step ∙ ap (λ b. cond b 1 0 + count_by t es) passes in rw (one, passes) (is_odd-suc (count_by t es)))
        | inr fails ↦ (let none : count_by t (e ∷ es) ≡ count_by t es = step ∙ ap (λ b. cond b 1 0 + count_by t es) fails ∙ omega arith in rw (none, fails) refl)
      ]

  odd-append : (one other : List Edge) → is_odd (count_by t (one ++ other)) ≡ differ (is_odd (count_by t one)) (is_odd (count_by t other))
  odd-append [] other = refl
  odd-append (e ∷ es) other =
      odd-cons e (es ++ other) ∙ ap (differ (t e)) (odd-append es other)
      ∙ differ_both (t e) (is_odd (count_by t es)) (is_odd (count_by t other))
      ∙ ap (λ b. differ b (is_odd (count_by t other))) (sym (odd-cons e es))

-- ---- a closed ring comes back to the side where it began

abbrev last_of : Position → List Position → Position
last_of p [] = p
last_of p (q ∷ ps) = last_of q ps

at_last : (p : Position) (ps : List Position) → slice_get (p ∷ ps) (length ps) ≡ Some (last_of p ps)
at_last p [] = refl
at_last p (q ∷ ps) = at_last q ps

ends_meet : (p : Position) (ps : List Position) → IsClosed (p ∷ ps) → p ≡ last_of p ps
ends_meet p ps closed = ap (λ o. unwrap_or o p) (closed ∙ ap (slice_get (p ∷ ps)) (last_place (length ps)) ∙ at_last p ps)
  where
    last_place : (n : ℕ) → suc n - 1 ≡ n
    last_place n = omega arith

module _ (t : Edge → Bool) (side : Position → Bool) (reach : Reach) (changes : (a b : Position) → IsReached reach a → IsReached reach b → t (edge a b) ≡ differ (side a) (side b)) where
  odd_along : (p : Position) (ps : List Position) → IsReachedRing reach (p ∷ ps) → is_odd (count_by t (edges_along (p ∷ ps))) ≡ differ (side p) (side (last_of p ps))
  odd_along p [] h = sym (differ_self (side p))
  odd_along p (q ∷ ps) h =
      let one = All-head (IsReached reach) p (q ∷ ps) h in
      let rest = All-tail (IsReached reach) p (q ∷ ps) h in
      odd-cons t (edge p q) (edges_along (q ∷ ps)) ∙ ap₂ differ (changes p q one (All-head (IsReached reach) q ps rest)) (odd_along q ps rest)
      ∙ differ_on (side p) (side q) (side (last_of q ps))

  even_along : (ring : List Position) → IsClosed ring → IsReachedRing reach ring → is_odd (count_by t (edges_along ring)) ≡ false
  even_along [] closed h = refl
  even_along (p ∷ ps) closed h = odd_along p ps h ∙ ap (λ q. differ (side p) (side q)) (sym (ends_meet p ps closed)) ∙ differ_self (side p)

  even_in : (rings : List (List Position)) → AllByRecursion IsClosed rings → All (IsReachedRing reach) rings → is_odd (count_by t (flat_map edges_along rings)) ≡ false
  even_in [] closed h = refl
  even_in (r ∷ rs) closed h =
      odd-append t (edges_along r) (flat_map edges_along rs)
      ∙ ap₂ differ (even_along r closed.0 (All-head (IsReachedRing reach) r rs h)) (even_in rs closed.1 (All-tail (IsReachedRing reach) r rs h))

-- ---- on which side of an edge a place stands

-- a product with a number above 0 rises with the other number, one with a number below 0 falls
rises_with : (d m n : ℤ) → pos 0 <ℤ d → m <ℤ n → (d *ℤ m) <ℤ (d *ℤ n)
rises_with (negsuc d) m n h k = absurd (omega (arith, ints, h))
rises_with (pos zero) m n h k = absurd (omega (arith, ints, h))
rises_with (pos (suc d)) m n h k =
    let apart : (up m + down n) + 1 ≤ up n + down m = omega (arith, ints, k) in
    omega (arith, ints, product_is, mul-le-mul_left (suc d) apart)

falls_with : (d m n : ℤ) → d <ℤ pos 0 → m <ℤ n → (d *ℤ n) <ℤ (d *ℤ m)
falls_with (pos d) m n h k = absurd (omega (arith, ints, h))
falls_with (negsuc d) m n h k =
    let apart : (up m + down n) + 1 ≤ up n + down m = omega (arith, ints, k) in
    omega (arith, ints, product_is, mul-le-mul_left (suc d) apart)

never_falls_with : (d m n : ℤ) → pos 0 ≤ℤ d → m ≤ℤ n → (d *ℤ m) ≤ℤ (d *ℤ n)
never_falls_with (negsuc d) m n h k = absurd (omega (arith, ints, h))
never_falls_with (pos d) m n h k =
    let apart : up m + down n ≤ up n + down m = omega (arith, ints, k) in
    omega (arith, ints, product_is, mul-le-mul_left d apart)

never_rises_with : (d m n : ℤ) → d ≤ℤ pos 0 → m ≤ℤ n → (d *ℤ n) ≤ℤ (d *ℤ m)
never_rises_with (pos zero) m n h k = omega (arith, ints, product_is)
never_rises_with (pos (suc d)) m n h k = absurd (omega (arith, ints, h))
never_rises_with (negsuc d) m n h k =
    let apart : up m + down n ≤ up n + down m = omega (arith, ints, k) in
    omega (arith, ints, product_is, mul-le-mul_left (suc d) apart)

-- over numbers: e and d are the differences of an edge's x and y, m and u those of a place and the edge's start
rising_before : (e d m u : ℤ) → m <ℤ pos 0 → m <ℤ e → pos 0 ≤ℤ u → u <ℤ d → pos 0 <ℤ (e *ℤ u -ℤ d *ℤ m)
rising_before e d m u left less low high = let one = falls_with m u d left high in let other = never_falls_with u m e low (omega (arith, ints, less)) in omega (arith, ints, product_is, one, other)

falling_before : (e d m u : ℤ) → m <ℤ pos 0 → m <ℤ e → d ≤ℤ u → u <ℤ pos 0 → (e *ℤ u -ℤ d *ℤ m) <ℤ pos 0
falling_before e d m u left less low high = let one = falls_with u m e high less in let other = never_rises_with m d u (omega (arith, ints, left)) low in omega (arith, ints, product_is, one, other)

rising_behind : (e d m u : ℤ) → pos 0 <ℤ m → e <ℤ m → pos 0 ≤ℤ u → u <ℤ d → (e *ℤ u -ℤ d *ℤ m) <ℤ pos 0
rising_behind e d m u right more low high = let one = rises_with m u d right high in let other = never_falls_with u e m low (omega (arith, ints, more)) in omega (arith, ints, product_is, one, other)

falling_behind : (e d m u : ℤ) → pos 0 <ℤ m → e <ℤ m → d ≤ℤ u → u <ℤ pos 0 → pos 0 <ℤ (e *ℤ u -ℤ d *ℤ m)
falling_behind e d m u right more low high = let one = falls_with u e m high more in let other = never_falls_with m d u (omega (arith, ints, right)) low in omega (arith, ints, product_is, one, other)

-- over numbers: s is the cross product
each_crosses : (ay by y s : ℤ) → (ay ≤ℤ y → y <ℤ by → pos 0 <ℤ s) → (by ≤ℤ y → y <ℤ ay → s <ℤ pos 0)
    → (((int_le ay y && int_lt y by) && int_lt (pos 0) s) || ((int_le by y && int_lt y ay) && int_lt s (pos 0))) ≡ differ (int_le ay y) (int_le by y)
each_crosses ay by y s up down = grind (arith, ints)

none_crosses : (ay by y s : ℤ) → (ay ≤ℤ y → y <ℤ by → s <ℤ pos 0) → (by ≤ℤ y → y <ℤ ay → pos 0 <ℤ s)
    → (((int_le ay y && int_lt y by) && int_lt (pos 0) s) || ((int_le by y && int_lt y ay) && int_lt s (pos 0))) ≡ false
none_crosses ay by y s up down = grind (arith, ints)

unpassed : (ay by y : ℤ) (left right : Bool) → is_among ay by y ≡ false → (((int_le ay y && int_lt y by) && left) || ((int_le by y && int_lt y ay) && right)) ≡ false
unpassed ay by y left right h = grind (arith, ints)

beside_edge : (a b y low high : ℤ) → low ≤ℤ a → a ≤ℤ high → low ≤ℤ b → b ≤ℤ high → (y <ℤ low) ⊎ (high <ℤ y) → is_among a b y ≡ false
beside_edge a b y low high la ah lb bh out = grind (arith, ints)

and_last : (a b c : Bool) → c ≡ false → (a && (b && c)) ≡ false
and_last true true c h = h
and_last true false c h = refl
and_last false b c h = refl

and_middle : (a b c : Bool) → b ≡ false → (a && (b && c)) ≡ false
and_middle true b c h = ap (λ d. d && c) h
and_middle false b c h = refl

-- ---- places beyond each position

module _ (reach : Reach) (p : Spot) where
  abbrev on : Edge → Bool
  on e = on_segment p e.start e.end

  abbrev crossed : Edge → Bool
  crossed e = crosses p e.start e.end

  abbrev IsReachedBy : Position → Type 0
  IsReachedBy a = IsReached reach a

  not_on_row : (p.y <ℤ reach.low) ⊎ (reach.high <ℤ p.y) → (a b : Position) → IsReachedBy a → IsReachedBy b → on (edge a b) ≡ false
  not_on_row out a b ha hb =
      and_last (int_eq (cross p (spot_of a) (spot_of b)) (pos 0)) (is_among a.x b.x p.x) (is_among a.y b.y p.y) (beside_edge a.y b.y p.y reach.low reach.high ha.low ha.high hb.low hb.high out)

  not_on_column : (p.x <ℤ reach.left) ⊎ (reach.right <ℤ p.x) → (a b : Position) → IsReachedBy a → IsReachedBy b → on (edge a b) ≡ false
  not_on_column out a b ha hb =
      and_middle (int_eq (cross p (spot_of a) (spot_of b)) (pos 0)) (is_among a.x b.x p.x) (is_among a.y b.y p.y) (beside_edge a.x b.x p.x reach.left reach.right ha.left ha.right hb.left hb.right out)

  not_crossed_row : (p.y <ℤ reach.low) ⊎ (reach.high <ℤ p.y) → (a b : Position) → IsReachedBy a → IsReachedBy b → crossed (edge a b) ≡ false
  not_crossed_row out a b ha hb =
      unpassed a.y b.y p.y (int_lt (pos 0) (cross p (spot_of a) (spot_of b))) (int_lt (cross p (spot_of a) (spot_of b)) (pos 0))
      (beside_edge a.y b.y p.y reach.low reach.high ha.low ha.high hb.low hb.high out)

  not_crossed_behind : reach.right <ℤ p.x → (a b : Position) → IsReachedBy a → IsReachedBy b → crossed (edge a b) ≡ false
  not_crossed_behind out a b ha hb =
      let one : a.x <ℤ p.x = omega (arith, ints, out, ha.right) in
      let other : b.x <ℤ p.x = omega (arith, ints, out, hb.right) in
      none_crosses a.y b.y p.y (cross p (spot_of a) (spot_of b))
      (λ low high. rising_behind (b.x -ℤ a.x) (b.y -ℤ a.y) (p.x -ℤ a.x) (p.y -ℤ a.y) (omega (arith, ints, one)) (omega (arith, ints, other)) (omega (arith, ints, low)) (omega (arith, ints, high)))
      (λ low high. falling_behind (b.x -ℤ a.x) (b.y -ℤ a.y) (p.x -ℤ a.x) (p.y -ℤ a.y) (omega (arith, ints, one)) (omega (arith, ints, other)) (omega (arith, ints, low)) (omega (arith, ints, high)))

  abbrev side : Position → Bool
  side a = int_le a.y p.y

  crossed_before : p.x <ℤ reach.left → (a b : Position) → IsReachedBy a → IsReachedBy b → crossed (edge a b) ≡ differ (side a) (side b)
  crossed_before out a b ha hb =
      let one : p.x <ℤ a.x = omega (arith, ints, out, ha.left) in
      let other : p.x <ℤ b.x = omega (arith, ints, out, hb.left) in
      each_crosses a.y b.y p.y (cross p (spot_of a) (spot_of b))
      (λ low high. rising_before (b.x -ℤ a.x) (b.y -ℤ a.y) (p.x -ℤ a.x) (p.y -ℤ a.y) (omega (arith, ints, one)) (omega (arith, ints, other)) (omega (arith, ints, low)) (omega (arith, ints, high)))
      (λ low high. falling_before (b.x -ℤ a.x) (b.y -ℤ a.y) (p.x -ℤ a.x) (p.y -ℤ a.y) (omega (arith, ints, one)) (omega (arith, ints, other)) (omega (arith, ints, low)) (omega (arith, ints, high)))

  -- it stands on no edge, and an even number of edges crosses
  module _ (off : (a b : Position) → IsReachedBy a → IsReachedBy b → on (edge a b) ≡ false)
      (even : (rings : List (List Position)) → AllByRecursion IsClosed rings → All (IsReachedRing reach) rings → is_odd (count_by crossed (flat_map edges_along rings)) ≡ false) where
    not_in : (polygon : Polygon) → IsClosedPolygon polygon → IsReachedPolygon reach polygon → in_polygon p polygon ≡ false
    not_in polygon closed h = rw (none_any on (edges_of polygon) (none_in on reach off polygon.rings h), even polygon.rings closed h) refl

    in_none : (polygons : List Polygon) → AllByRecursion IsClosedPolygon polygons → All (IsReachedPolygon reach) polygons → in_polygons p polygons ≡ false
    in_none [] closed h = refl
    in_none (g ∷ gs) closed h =
        let here : in_polygon p g ≡ false = not_in g closed.0 (All-head (IsReachedPolygon reach) g gs h) in
        rw here (in_none gs closed.1 (All-tail (IsReachedPolygon reach) g gs h))

  none_odd : ((a b : Position) → IsReachedBy a → IsReachedBy b → crossed (edge a b) ≡ false)
      → (rings : List (List Position)) → AllByRecursion IsClosed rings → All (IsReachedRing reach) rings → is_odd (count_by crossed (flat_map edges_along rings)) ≡ false
  none_odd fails rings closed h = ap is_odd (none_counted crossed (flat_map edges_along rings) (none_in crossed reach fails rings h))

  beyond_row : (p.y <ℤ reach.low) ⊎ (reach.high <ℤ p.y) → (polygons : List Polygon) → AllByRecursion IsClosedPolygon polygons → All (IsReachedPolygon reach) polygons → in_polygons p polygons ≡ false
  beyond_row out = in_none (not_on_row out) (none_odd (not_crossed_row out))

  behind_column : reach.right <ℤ p.x → (polygons : List Polygon) → AllByRecursion IsClosedPolygon polygons → All (IsReachedPolygon reach) polygons → in_polygons p polygons ≡ false
  behind_column out = in_none (not_on_column (inr out)) (none_odd (not_crossed_behind out))

  before_column : p.x <ℤ reach.left → (polygons : List Polygon) → AllByRecursion IsClosedPolygon polygons → All (IsReachedPolygon reach) polygons → in_polygons p polygons ≡ false
  before_column out = in_none (not_on_column (inl out)) (even_in crossed side reach (crossed_before out))

-- ---- polygons

all-front : {X : Type 0} (P : X → Type 0) (xs ys : List X) → AllByRecursion P (xs ++ ys) → AllByRecursion P xs
all-front P [] ys h = tt
all-front P (x ∷ xs) ys h = (h.0, all-front P xs ys h.1)

all-rest : {X : Type 0} (P : X → Type 0) (xs ys : List X) → AllByRecursion P (xs ++ ys) → AllByRecursion P ys
all-rest P [] ys h = h
all-rest P (x ∷ xs) ys h = all-rest P xs ys h.1

rings_closed : (polygons : List Polygon) → AllByRecursion IsClosed (flat_map (λ g. g.rings) polygons) → AllByRecursion IsClosedPolygon polygons
rings_closed [] h = tt
rings_closed (g ∷ gs) h = (all-front IsClosed g.rings (flat_map (λ g. g.rings) gs) h, rings_closed gs (all-rest IsClosed g.rings (flat_map (λ g. g.rings) gs) h))

pub has_polygons : (geometry : Geometry) (multi has_z has_m : Bool) (polygons items : List Polygon) → geometry ≡ Polygons multi has_z has_m polygons → items ≡ polygons → GeometriesArePlaced
    → IsGeometry geometry → HasPolygons geometry items
has_polygons geometry multi has_z has_m polygons items is same placed g =
    let here : IsGeometry (Polygons multi has_z has_m polygons) = subst IsGeometry is g in
    record {
      in_each = λ spot. ap (λ a. in_areas a spot) is ∙ ap (in_polygons spot) (sym same);
      placed = subst (All IsPlacedPolygon) (sym same) (placed multi has_z has_m polygons here);
      closed = subst (AllByRecursion IsClosedPolygon) (sym same) (rings_closed polygons here.faultless.closed);
    }

pub polygons_lie : (geometry : Geometry) (polygons : List Polygon) (reach : Reach) → HasPolygons geometry polygons → All (IsReachedPolygon reach) polygons → LiesIn (at.Area geometry) reach
polygons_lie geometry polygons reach has h = record {
  before = λ spot k. has.in_each spot ∙ before_column reach spot k polygons has.closed h;
  behind = λ spot k. has.in_each spot ∙ behind_column reach spot k polygons has.closed h;
  below = λ spot k. has.in_each spot ∙ beyond_row reach spot (inl k) polygons has.closed h;
  above = λ spot k. has.in_each spot ∙ beyond_row reach spot (inr k) polygons has.closed h;
}
