-- The steps of a line in a turn are what the definition of routes has: the nodes of the vertices that are inside, of equal neighbours one.
use Rattle.std.proofs.Common.{◌≡◌, ℕ, ◌<◌, Bool, true, false, cond, List, length, refl, ap, ap₂, sym, ◌∙◌, arith, Some, None, IfSome, ℤ, subst}
use Rattle.std.specs.declared.option.Option.{Option}
use Rattle.std.specs.Prelude.{map, ◌&&◌, option_map}
use Rattle.std.specs.List.{filter}
use Rattle.std.proofs.lemmas.Bool.{and_parts, and_from}
use Rattle.std.proofs.lemmas.Slice.Eq.{bytes_eq-Decides}
use Rattle.edr_base.specs.declared.places.Position.{Position}
use Rattle.edr_axes.specs.Axes.{value_at, IsAxis, axis_length}
use Rattle.covjson_value.specs.Samples.{Node, node, same_node}
use Rattle.edr_chunk.specs.declared.shapes.GridPlace.{GridPlace}
use Rattle.edr_chunk.specs.Places.{Within}
use Rattle.edr_edition.specs.Values.{InstanceValue}
use Rattle.edr_edition.specs.Instances.{HasGrid}
use Rattle.edr_select.specs.declared.plans.GridNode.{GridNode}
use Rattle.edr_corridor.specs.Boxes.{level_at}
use Rattle.edr_select.specs.GridLaws.{IsGrid, same_stored, stored_itself}
use Rattle.edr_select.specs.Lines.{nearest_if, is_inside, is_along_if, step_of, without_repeats}
use Rattle.edr_select.specs.ListLaws.{Each, both, map-map}
use Rattle.edr_select.specs.Listings.{place_at}
use Rattle.edr_select.specs.Samples.{id_at, node_at}
use Rattle.edr_select.specs.Wanted.{is_along}
use Rattle.edr_lines.specs.Plans.{axes_of}
use Rattle.edr_lines.specs.Routes.{RouteValue, turned, nodes_on}
use Rattle.edr_lines.specs.Vertices.{nearest_place, place_along, node_of, step_at, same_step, there, steps_of}
use Rattle.edr_lines.proofs.LineGrids.{grid_from}
use Rattle.edr_lines.proofs.NearestPlaces.{nearest_value, nearest_inside, place_if, where_is}
use Rattle.edr_lines.proofs.Neighbours.{same_is, step_itself, once_shown, each_once, there_shown, each_there}

-- the time and the level of a turn: those of its places, where the vertices have none of their own
abbrev pub turn_time : Bool → List ℤ → ℕ → Option ℤ
turn_time has_m ts k = cond has_m None (Some (value_at ts k))

abbrev pub turn_level : Bool → Option (List ℤ) → ℕ → Option ℤ
turn_level has_z zs k = cond has_z None (level_at zs k)

time_shown : (has_m : Bool) (ts : List ℤ) (c : ℤ) (k : ℕ) → IsAxis ts → Some (value_at ts (cond has_m (place_if has_m (Some ts) c) k)) ≡ nearest_if has_m (Some ts) c (turn_time has_m ts k)
time_shown true ts c k axis = ap Some (sym (nearest_value ts c axis))
time_shown false ts c k axis = refl

level_shown : (has_z : Bool) (zs : Option (List ℤ)) (c : ℤ) (k : ℕ) → IfSome zs IsAxis → level_at zs (cond has_z (place_if has_z zs c) k) ≡ nearest_if has_z zs c (turn_level has_z zs k)
level_shown true None c k axis = refl
level_shown true (Some values) c k axis = ap Some (sym (nearest_value values c axis))
level_shown false None c k axis = refl
level_shown false (Some values) c k axis = refl

abbrev made : ℕ → ℕ → ℕ → ℕ → GridNode
made t z y x = record { t = t; z = z; y = y; x = x }

all_there : (a b c d : Bool) (t z y x : ℕ)
    → node_of (cond a (Some t) None) (cond b (Some z) None) (cond c (Some y) None) (cond d (Some x) None) ≡ cond (c && (d && (a && b))) (Some (made t z y x)) None
all_there true true true true t z y x = refl
all_there true true true false t z y x = refl
all_there true true false true t z y x = refl
all_there true true false false t z y x = refl
all_there true false true true t z y x = refl
all_there true false true false t z y x = refl
all_there true false false true t z y x = refl
all_there true false false false t z y x = refl
all_there false b true true t z y x = refl
all_there false b true false t z y x = refl
all_there false b false true t z y x = refl
all_there false b false false t z y x = refl

mapped : {X Y : Type 0} (f : X → Y) (b : Bool) (x : X) → option_map f (cond b (Some x) None) ≡ cond b (Some (f x)) None
mapped f true x = refl
mapped f false x = refl

some_if : {X : Type 0} (P : X → Type 0) (b : Bool) (x : X) → P x → IfSome (cond b (Some x) None) P
some_if P true x h = h
some_if P false x h = tt

-- a node of a step: it lies in the grid, and has the place 0 where the vertices have no time or no level
pub record IsStep (i : InstanceValue) (has_z has_m : Bool) (n : GridNode) : Type 0 where
  pub t : n.t < length i.ts
  pub z : n.z < axis_length i.zs
  pub y : n.y < length i.ys
  pub x : n.x < length i.xs
  pub no_time : has_m ≡ false → n.t ≡ 0
  pub no_level : has_z ≡ false → n.z ≡ 0

if_inside : (has : Bool) (axis : Option (List ℤ)) (c : ℤ) → IfSome axis IsAxis → place_if has axis c < axis_length axis
if_inside false None c axis = omega arith
if_inside false (Some values) c axis = axis.some
if_inside true None c axis = omega arith
if_inside true (Some values) c axis = nearest_inside values c axis

if_none : (has : Bool) (axis : Option (List ℤ)) (c : ℤ) → has ≡ false → place_if has axis c ≡ 0
if_none true axis c e = cc
if_none false axis c e = refl

module _ (i : InstanceValue) (h : HasGrid i) (r : RouteValue) where
  g : IsGrid i
  g = grid_from i h

  -- a node in a turn, as it is shown
  abbrev pub shown : ℕ → ℕ → GridNode → Node
  shown t z n = node_at i (place_at 0 (turned r t z n))

  -- the node of a vertex, if that is inside
  abbrev step_for : Position → GridNode
  step_for v = made (place_if r.has_m (Some i.ts) v.m) (place_if r.has_z i.zs v.z) (nearest_place i.ys v.y) (nearest_place i.xs v.x)

  step_is : (v : Position) → step_at (axes_of i) r.has_z r.has_m v ≡ cond (is_inside i r.has_z r.has_m v) (Some (step_for v)) None
  step_is v =
      ap₂ (λ (t z : Option ℕ). node_of t z (place_along i.ys v.y) (place_along i.xs v.x)) (where_is r.has_m (Some i.ts) v.m) (where_is r.has_z i.zs v.z)
      ∙ all_there (is_along_if r.has_m (Some i.ts) v.m) (is_along_if r.has_z i.zs v.z) (is_along i.ys v.y) (is_along i.xs v.x)
      (place_if r.has_m (Some i.ts) v.m) (place_if r.has_z i.zs v.z) (nearest_place i.ys v.y) (nearest_place i.xs v.x)

  step_shown : (t z : ℕ) (v : Position) → shown t z (step_for v) ≡ step_of i r.has_z r.has_m (turn_time r.has_m i.ts t) (turn_level r.has_z i.zs z) v
  step_shown t z v =
      ap₂ (λ (a b : Option ℤ). node a b (value_at i.ys (nearest_place i.ys v.y)) (value_at i.xs (nearest_place i.xs v.x)))
      (time_shown r.has_m i.ts v.m t g.ts) (level_shown r.has_z i.zs v.z z g.zs)
      ∙ ap₂ (λ (y x : ℤ). node (nearest_if r.has_m (Some i.ts) v.m (turn_time r.has_m i.ts t)) (nearest_if r.has_z i.zs v.z (turn_level r.has_z i.zs z)) y x)
      (sym (nearest_value i.ys v.y g.ys)) (sym (nearest_value i.xs v.x g.xs))

  -- where vertices have a time, a step has the nearest place to it
  pub step_time : r.has_m ≡ true → (v : Position) → IfSome (step_at (axes_of i) r.has_z r.has_m v) (λ (n : GridNode). n.t ≡ nearest_place i.ts v.m)
  step_time own v =
      subst (λ (o : Option GridNode). IfSome o (λ (n : GridNode). n.t ≡ nearest_place i.ts v.m)) (sym (step_is v))
      (some_if (λ (n : GridNode). n.t ≡ nearest_place i.ts v.m) (is_inside i r.has_z r.has_m v) (step_for v) (ap (λ b. place_if b (Some i.ts) v.m) own))

  -- ---- steps lie in the grid

  step_lies : (v : Position) → IfSome (step_at (axes_of i) r.has_z r.has_m v) (IsStep i r.has_z r.has_m)
  step_lies v =
      subst (λ (o : Option GridNode). IfSome o (IsStep i r.has_z r.has_m)) (sym (step_is v))
      (some_if (IsStep i r.has_z r.has_m) (is_inside i r.has_z r.has_m v) (step_for v) (record {
        t = if_inside r.has_m (Some i.ts) v.m g.ts;
        z = if_inside r.has_z i.zs v.z g.zs;
        y = nearest_inside i.ys v.y g.ys;
        x = nearest_inside i.xs v.x g.xs;
        no_time = if_none r.has_m (Some i.ts) v.m;
        no_level = if_none r.has_z i.zs v.z;
      }))

  steps_lie : (vertices : List Position) → Each (IsStep i r.has_z r.has_m) (there (map (step_at (axes_of i) r.has_z r.has_m) vertices))
  steps_lie vertices = each_there (IsStep i r.has_z r.has_m) (step_at (axes_of i) r.has_z r.has_m) step_lies vertices

  pub each_step : (vertices : List Position) → Each (IsStep i r.has_z r.has_m) (steps_of (axes_of i) r.has_z r.has_m vertices)
  each_step vertices = each_once (IsStep i r.has_z r.has_m) (there (map (step_at (axes_of i) r.has_z r.has_m) vertices)) (steps_lie vertices)

  pub step_in : (n : GridNode) → IsStep i r.has_z r.has_m n → Within i.grid.shape (place_at 0 n)
  step_in n s = record {
    parameter = omega (arith, h.some, g.parameters);
    t = omega (arith, s.t, g.times);
    z = omega (arith, s.z, g.levels);
    y = omega (arith, s.y, g.rows);
    x = omega (arith, s.x, g.columns);
  }

  chosen_below : (has : Bool) (own turn many : ℕ) → own < many → turn < many → cond has own turn < many
  chosen_below true own turn many a b = a
  chosen_below false own turn many a b = b

  -- a step in a turn lies in the grid
  pub turned_within : (t z : ℕ) (n : GridNode) → t < length i.ts → z < axis_length i.zs → Within i.grid.shape (place_at 0 n) → Within i.grid.shape (place_at 0 (turned r t z n))
  turned_within t z n ht hz w = record {
    parameter = w.parameter;
    t = chosen_below r.has_m n.t t i.grid.shape.times w.t (omega (arith, ht, g.times));
    z = chosen_below r.has_z n.z z i.grid.shape.levels w.z (omega (arith, hz, g.levels));
    y = w.y;
    x = w.x;
  }

  -- ---- steps are told apart by what they are shown as

  pub shown_itself : (t z : ℕ) (n : GridNode) → same_node (shown t z n) (shown t z n) ≡ true
  shown_itself t z n = (and_parts _ _ (stored_itself i (place_at 0 (turned r t z n)))).1

  turned_back : (t z : ℕ) (a b : GridNode) → IsStep i r.has_z r.has_m a → IsStep i r.has_z r.has_m b → place_at 0 (turned r t z b) ≡ place_at 0 (turned r t z a) → a ≡ b
  turned_back t z a b sa sb e =
      ap (λ k. made k a.z a.y a.x) (back r.has_m t a.t b.t sa.no_time sb.no_time (ap (λ (p : GridPlace). p.t) e))
      ∙ ap (λ k. made b.t k a.y a.x) (back r.has_z z a.z b.z sa.no_level sb.no_level (ap (λ (p : GridPlace). p.z) e))
      ∙ ap (λ k. made b.t b.z k a.x) (sym (ap (λ (p : GridPlace). p.y) e))
      ∙ ap (λ k. made b.t b.z b.y k) (sym (ap (λ (p : GridPlace). p.x) e))
    where
      back : (has : Bool) (turn j k : ℕ) → (has ≡ false → j ≡ 0) → (has ≡ false → k ≡ 0) → cond has k turn ≡ cond has j turn → j ≡ k
      back true turn j k nj nk e = sym e
      back false turn j k nj nk e = nj refl ∙ sym (nk refl)

  told_apart : (t z : ℕ) → t < length i.ts → z < axis_length i.zs → (a b : GridNode) → IsStep i r.has_z r.has_m a → IsStep i r.has_z r.has_m b
      → same_step a b ≡ same_node (shown t z a) (shown t z b)
  told_apart t z ht hz a b sa sb =
      both (same_step a b) (same_node (shown t z a) (shown t z b))
      (λ e. ap (λ (n : GridNode). same_node (shown t z a) (shown t z n)) (sym (same_is a b e)) ∙ shown_itself t z a)
      (λ e. let same : b ≡ a = turned_back t z b a sb sa
      (same_stored i g (place_at 0 (turned r t z b)) (place_at 0 (turned r t z a)) (turned_within t z b ht hz (step_in b sb)) (turned_within t z a ht hz (step_in a sa))
      (and_from _ _ ((bytes_eq-Decides (id_at i.parameters 0) (id_at i.parameters 0)).1 refl) e)) in
      ap (λ (n : GridNode). same_step a n) same ∙ step_itself a)

  -- ---- the nodes of a turn

  pub nodes_are : (t z : ℕ) → t < length i.ts → z < axis_length i.zs → (vertices : List Position) → r.steps ≡ steps_of (axes_of i) r.has_z r.has_m vertices
      → nodes_on i r t z
      ≡ without_repeats (map (step_of i r.has_z r.has_m (turn_time r.has_m i.ts t) (turn_level r.has_z i.zs z)) (filter (is_inside i r.has_z r.has_m) vertices))
  nodes_are t z ht hz vertices steps =
      map-map (λ n. node_at i (place_at 0 n)) (turned r t z) r.steps
      ∙ (ap (map (shown t z)) steps
      ∙ (once_shown (IsStep i r.has_z r.has_m) (shown t z) (told_apart t z ht hz) (there (map (step_at (axes_of i) r.has_z r.has_m) vertices)) (steps_lie vertices)
      ∙ ap without_repeats (there_shown (step_at (axes_of i) r.has_z r.has_m) (is_inside i r.has_z r.has_m) (shown t z)
      (step_of i r.has_z r.has_m (turn_time r.has_m i.ts t) (turn_level r.has_z i.zs z))
      (λ v. ap (option_map (shown t z)) (step_is v)
      ∙ (mapped (shown t z) (is_inside i r.has_z r.has_m v) (step_for v)
      ∙ ap (λ (n : Node). cond (is_inside i r.has_z r.has_m v) (Some n) None) (step_shown t z v)))
      vertices)))
