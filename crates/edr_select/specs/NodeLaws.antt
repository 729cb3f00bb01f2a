-- The nodes of the domains of a position, by the cells that are chosen.
use Rattle.std.proofs.Common.{◌≡◌, ◌≢◌, ℕ, Bool, true, false, cond, List, [], ◌∷◌, ◌++◌, refl, ap, ap₂, sym, ◌∙◌, append-nil, Some, None, ℤ, pos}
use Rattle.std.specs.declared.option.Option.{Option}
use Rattle.std.specs.Prelude.{map, option_map}
use Rattle.std.specs.List.{flat_map}
use Rattle.std.proofs.lemmas.List.Concat.{flat_map_single}
use Rattle.std.proofs.lemmas.List.Folds.{flat_map-map}
use Rattle.edr_axes.specs.declared.levels.Levels.{Levels}
use Rattle.edr_axes.specs.Axes.{value_at}
use Rattle.covjson_value.specs.Samples.{Node, node, nodes_of, values_or_absent}
use Rattle.edr_edition.specs.Values.{InstanceValue}
use Rattle.edr_select.specs.Samples.{node_at}
use Rattle.edr_select.specs.Wanted.{takes_level}
use Rattle.edr_select.specs.Heads.{Spot, domain_at, position_at}
use Rattle.edr_select.specs.Choices.{Chosen, level_places, node_of, cells_at, cells_along, times_of, levels_of, spot_of}
use Rattle.edr_corridor.specs.Boxes.{level_at}
use Rattle.edr_select.specs.Listings.{place_at}
use Rattle.edr_select.specs.Planned.{points_domain}
use Rattle.edr_select.specs.ListLaws.{map-map, map-flat_map, flat_map_agree}

-- the nodes of one place, at each time and level
abbrev pub place_nodes : List ℤ → List (Option ℤ) → Spot → List Node
place_nodes ts zs spot = flat_map (λ t. map (λ z. node (Some t) z spot.0 spot.1) zs) ts

grid_nodes : (ts : List ℤ) (zs : List (Option ℤ)) (spot : Spot)
    → flat_map (λ t. flat_map (λ z. node t z spot.0 spot.1 ∷ []) zs) (map Some ts) ≡ place_nodes ts zs spot
grid_nodes [] zs spot = refl
grid_nodes (t ∷ ts) zs spot =
    ap₂ (λ r rs. r ++ rs) (flat_map_single (λ z. node (Some t) z spot.0 spot.1) zs) (grid_nodes ts zs spot)

-- the nodes of the domain of one place, whatever its kind
pub nodes_at : (ts : List ℤ) (zs : Option (List ℤ)) (spot : Spot) → nodes_of (domain_at ts zs spot) ≡ place_nodes ts (values_or_absent zs) spot
nodes_at [] None spot = grid_nodes [] (None ∷ []) spot
nodes_at [] (Some []) spot = grid_nodes [] [] spot
nodes_at [] (Some (z ∷ [])) spot = grid_nodes [] (Some z ∷ []) spot
nodes_at [] (Some (z ∷ y ∷ zs)) spot = grid_nodes [] (map Some (z ∷ y ∷ zs)) spot
nodes_at (t ∷ []) None spot = grid_nodes (t ∷ []) (None ∷ []) spot
nodes_at (t ∷ []) (Some []) spot = grid_nodes (t ∷ []) [] spot
nodes_at (t ∷ []) (Some (z ∷ [])) spot = grid_nodes (t ∷ []) (Some z ∷ []) spot
nodes_at (t ∷ []) (Some (z ∷ y ∷ zs)) spot = grid_nodes (t ∷ []) (map Some (z ∷ y ∷ zs)) spot
nodes_at (t ∷ u ∷ ts) None spot = grid_nodes (t ∷ u ∷ ts) (None ∷ []) spot
nodes_at (t ∷ u ∷ ts) (Some []) spot = grid_nodes (t ∷ u ∷ ts) [] spot
nodes_at (t ∷ u ∷ ts) (Some (z ∷ [])) spot = grid_nodes (t ∷ u ∷ ts) (Some z ∷ []) spot
nodes_at (t ∷ u ∷ ts) (Some (z ∷ y ∷ zs)) spot = grid_nodes (t ∷ u ∷ ts) (map Some (z ∷ y ∷ zs)) spot

-- without an axis of levels there is one place, and it is taken or not
pub one_level : (asked : Option Levels) (zs : Option (List ℤ)) → zs ≡ None → level_places asked zs ≢ [] → level_places asked zs ≡ 0 ∷ []
one_level asked None none some = here (takes_level asked None) some
  where
    here : (b : Bool) → cond {A = List ℕ} b (0 ∷ []) [] ≢ [] → cond {A = List ℕ} b (0 ∷ []) [] ≡ 0 ∷ []
    here true some = refl
    here false some = absurd (some refl)
one_level asked (Some zs) none some = cc

-- the levels that are chosen, as the nodes have them
pub levels_shown : (zs : Option (List ℤ)) (levels : List ℕ) → (zs ≡ None → levels ≡ 0 ∷ [])
    → values_or_absent (option_map (λ values. map (value_at values) levels) zs) ≡ map (level_at zs) levels
levels_shown None levels one = sym (ap (map (level_at None)) (one refl))
levels_shown (Some values) levels one = map-map Some (value_at values) levels

pub place_nodes_chosen : (tv : ℕ → ℤ) (zv : ℕ → Option ℤ) (times levels : List ℕ) (spot : Spot)
    → place_nodes (map tv times) (map zv levels) spot ≡ flat_map (λ t. map (λ z. node (Some (tv t)) (zv z) spot.0 spot.1) levels) times
place_nodes_chosen tv zv times levels spot =
    flat_map-map (λ t. map (λ z. node (Some t) z spot.0 spot.1) (map zv levels)) tv times
    ∙ flat_map_agree (λ t. map (λ z. node (Some (tv t)) z spot.0 spot.1) (map zv levels)) (λ t. map (λ z. node (Some (tv t)) (zv z) spot.0 spot.1) levels)
    (λ t. map-map (λ z. node (Some (tv t)) z spot.0 spot.1) zv levels) times

-- the nodes of one spot are those of its cells
pub nodes_at_spot : (i : InstanceValue) (c : Chosen) (spot : ℕ) → (i.zs ≡ None → c.levels ≡ 0 ∷ [])
    → nodes_of (domain_at (times_of i c) (levels_of i c) (spot_of i spot)) ≡ map (λ cell. node_at i (place_at 0 cell)) (cells_at i.xs c spot)
nodes_at_spot i c spot one =
    nodes_at (times_of i c) (levels_of i c) (spot_of i spot)
    ∙ (ap (λ zs. place_nodes (times_of i c) zs (spot_of i spot)) (levels_shown i.zs c.levels one)
    ∙ (place_nodes_chosen (value_at i.ts) (level_at i.zs) c.times c.levels (spot_of i spot)
    ∙ sym (map-flat_map (λ cell. node_at i (place_at 0 cell)) (λ t. map (node_of i.xs spot t) c.levels) c.times
    ∙ flat_map_agree (λ t. map (λ cell. node_at i (place_at 0 cell)) (map (node_of i.xs spot t) c.levels))
    (λ t. map (λ z. node_at i (place_at 0 (node_of i.xs spot t z))) c.levels)
    (λ t. map-map (λ cell. node_at i (place_at 0 cell)) (node_of i.xs spot t) c.levels) c.times)))

-- ---- several spots at one time and at most one level

tuples_flat : (t : ℤ) (z : ℤ) (spots : List Spot)
    → map (λ p. node (Some t) None p.y p.x) (map (position_at z) spots) ≡ map (λ (spot : Spot). node (Some t) None spot.0 spot.1) spots
tuples_flat t z [] = refl
tuples_flat t z (spot ∷ spots) = ap (λ r. node (Some t) None spot.0 spot.1 ∷ r) (tuples_flat t z spots)

tuples_high : (t : ℤ) (z : ℤ) (spots : List Spot)
    → map (λ p. node (Some t) (Some p.z) p.y p.x) (map (position_at z) spots) ≡ map (λ (spot : Spot). node (Some t) (Some z) spot.0 spot.1) spots
tuples_high t z [] = refl
tuples_high t z (spot ∷ spots) = ap (λ r. node (Some t) (Some z) spot.0 spot.1 ∷ r) (tuples_high t z spots)

pub nodes_of_points : (t : ℤ) (z : Option ℤ) (spots : List Spot) → nodes_of (points_domain t z spots) ≡ map (λ (spot : Spot). node (Some t) z spot.0 spot.1) spots
nodes_of_points t None spots =
    append-nil (map (λ p. node (Some t) None p.y p.x) (map (position_at (pos 0)) spots) ++ [])
    ∙ (append-nil (map (λ p. node (Some t) None p.y p.x) (map (position_at (pos 0)) spots)) ∙ tuples_flat t (pos 0) spots)
nodes_of_points t (Some z) spots =
    append-nil (map (λ p. node (Some t) (Some p.z) p.y p.x) (map (position_at z) spots) ++ [])
    ∙ (append-nil (map (λ p. node (Some t) (Some p.z) p.y p.x) (map (position_at z) spots)) ∙ tuples_high t z spots)

-- the nodes of all spots at one time and level are those of their cells
pub nodes_along_spots : (i : InstanceValue) (c : Chosen) (t z : ℕ)
    → nodes_of (points_domain (value_at i.ts t) (level_at i.zs z) (map (spot_of i) c.spots)) ≡ map (λ cell. node_at i (place_at 0 cell)) (cells_along i.xs c t z)
nodes_along_spots i c t z =
    nodes_of_points (value_at i.ts t) (level_at i.zs z) (map (spot_of i) c.spots)
    ∙ (map-map (λ (spot : Spot). node (Some (value_at i.ts t)) (level_at i.zs z) spot.0 spot.1) (spot_of i) c.spots
    ∙ sym (map-map (λ cell. node_at i (place_at 0 cell)) (λ spot. node_of i.xs spot t z) c.spots))
