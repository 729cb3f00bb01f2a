-- The domain of a turn of a route: its nodes are those of the turn again.
use Rattle.std.proofs.Common.{◌≡◌, ◌≢◌, ℕ, Bool, true, false, cond, List, [], ◌∷◌, ◌++◌, refl, ap, ap₂, sym, ◌∙◌, append-nil, Some, None, ℤ}
use Rattle.std.specs.declared.option.Option.{Option}
use Rattle.std.specs.Prelude.{map, is_some}
use Rattle.std.proofs.lemmas.Bool.{false≢true}
use Rattle.edr_base.specs.declared.places.Position.{Position}
use Rattle.edr_axes.specs.Axes.{value_at}
use Rattle.covjson_value.specs.declared.domains.Domain.TheVariants.{Trajectory}
use Rattle.covjson_value.specs.Samples.{Node, node, nodes_of}
use Rattle.edr_edition.specs.Values.{InstanceValue}
use Rattle.edr_select.specs.declared.plans.GridNode.{GridNode}
use Rattle.edr_corridor.specs.Boxes.{level_at}
use Rattle.edr_select.specs.Heads.{step_at, level_along, trajectory_of}
use Rattle.edr_select.specs.ListLaws.{Each, each-map_in, map-map}
use Rattle.edr_select.specs.Listings.{place_at}
use Rattle.edr_select.specs.Samples.{node_at}
use Rattle.edr_lines.specs.Routes.{RouteValue, turned, nodes_of_turn, nodes_on}

-- ---- the domain as the code makes it

pub same_level : (i : InstanceValue) (r : RouteValue) (t z : ℕ) (steps : List GridNode) → steps ≢ []
    → cond r.has_z None (level_at i.zs z) ≡ cond r.has_z None (level_along (map (λ n. node_at i (place_at 0 n)) (map (turned r t z) steps)))
same_level i r t z [] some = absurd (some refl)
same_level i r t z (n ∷ steps) some = chosen r.has_z
  where
    chosen : (has : Bool) → cond has None (level_at i.zs z) ≡ cond has None (level_at i.zs (cond has n.z z))
    chosen true = refl
    chosen false = refl

pub turn_domain : (i : InstanceValue) (r : RouteValue) (t z : ℕ) → r.steps ≢ []
    → Trajectory (cond r.has_z None (level_at i.zs z)) r.has_z (map (λ n. step_at r.has_z (node_at i (place_at 0 n))) (nodes_of_turn r t z)) ≡ trajectory_of r.has_z (nodes_on i r t z)
turn_domain i r t z some =
    ap₂ (λ (level : Option ℤ) (steps : List Position). Trajectory level r.has_z steps) (same_level i r t z r.steps some)
    (sym (map-map (step_at r.has_z) (λ n. node_at i (place_at 0 n)) (nodes_of_turn r t z)))

-- ---- its nodes

abbrev shown_on : List ℤ → Option (List ℤ) → List ℤ → List ℤ → GridNode → Node
shown_on ts zs ys xs n = node (Some (value_at ts n.t)) (level_at zs n.z) (value_at ys n.y) (value_at xs n.x)

tuples_high : (ts values ys xs : List ℤ) (cells : List GridNode)
    → map (λ (p : Position). node (Some p.m) (Some p.z) p.y p.x) (map (step_at true) (map (shown_on ts (Some values) ys xs) cells)) ≡ map (shown_on ts (Some values) ys xs) cells
tuples_high ts values ys xs [] = refl
tuples_high ts values ys xs (n ∷ cells) = ap (λ (rest : List Node). shown_on ts (Some values) ys xs n ∷ rest) (tuples_high ts values ys xs cells)

tuples_flat : (ts : List ℤ) (zs : Option (List ℤ)) (ys xs : List ℤ) (level : Option ℤ) (cells : List GridNode) → Each (λ (n : GridNode). level ≡ level_at zs n.z) cells
    → map (λ (p : Position). node (Some p.m) level p.y p.x) (map (step_at false) (map (shown_on ts zs ys xs) cells)) ≡ map (shown_on ts zs ys xs) cells
tuples_flat ts zs ys xs level [] each = refl
tuples_flat ts zs ys xs level (n ∷ cells) each =
    ap₂ (λ (l : Option ℤ) (rest : List Node). node (Some (value_at ts n.t)) l (value_at ys n.y) (value_at xs n.x) ∷ rest) each.0 (tuples_flat ts zs ys xs level cells each.1)

-- of steps that each have a level
nodes_high : (steps : List Position) → nodes_of (Trajectory None true steps) ≡ map (λ (p : Position). node (Some p.m) (Some p.z) p.y p.x) steps
nodes_high steps =
    append-nil (map (λ (p : Position). node (Some p.m) (Some p.z) p.y p.x) steps ++ []) ∙ append-nil (map (λ (p : Position). node (Some p.m) (Some p.z) p.y p.x) steps)

-- of steps at one level, or without one
nodes_flat : (level : Option ℤ) (steps : List Position) → nodes_of (Trajectory level false steps) ≡ map (λ (p : Position). node (Some p.m) level p.y p.x) steps
nodes_flat None steps =
    append-nil (map (λ (p : Position). node (Some p.m) None p.y p.x) steps ++ []) ∙ append-nil (map (λ (p : Position). node (Some p.m) None p.y p.x) steps)
nodes_flat (Some level) steps =
    append-nil (map (λ (p : Position). node (Some p.m) (Some level) p.y p.x) steps ++ []) ∙ append-nil (map (λ (p : Position). node (Some p.m) (Some level) p.y p.x) steps)

again : (has_z : Bool) (ts : List ℤ) (zs : Option (List ℤ)) (ys xs : List ℤ) (level : Option ℤ) (cells : List GridNode) → (has_z ≡ true → is_some zs ≡ true)
    → (has_z ≡ false → Each (λ (n : GridNode). level ≡ level_at zs n.z) cells)
    → nodes_of (Trajectory (cond has_z None level) has_z (map (step_at has_z) (map (shown_on ts zs ys xs) cells))) ≡ map (shown_on ts zs ys xs) cells
again true ts None ys xs level cells some flat = absurd (false≢true (some refl))
again true ts (Some values) ys xs level cells some flat =
    nodes_high (map (step_at true) (map (shown_on ts (Some values) ys xs) cells)) ∙ tuples_high ts values ys xs cells
again false ts zs ys xs level cells some flat =
    nodes_flat level (map (step_at false) (map (shown_on ts zs ys xs) cells)) ∙ tuples_flat ts zs ys xs level cells (flat refl)

one_level : (i : InstanceValue) (r : RouteValue) (t z : ℕ) → r.has_z ≡ false → Each (λ (n : GridNode). level_at i.zs z ≡ level_at i.zs n.z) (nodes_of_turn r t z)
one_level i r t z flat = each-map_in (λ (n : GridNode). level_at i.zs z ≡ level_at i.zs n.z) (turned r t z) r.steps (λ n m. sym (ap (λ b. level_at i.zs (cond b n.z z)) flat))

-- the nodes of the domain of a turn are those of the turn
pub nodes_again : (i : InstanceValue) (r : RouteValue) (t z : ℕ) → r.steps ≢ [] → (r.has_z ≡ true → is_some i.zs ≡ true)
    → nodes_of (trajectory_of r.has_z (nodes_on i r t z)) ≡ map (λ n. node_at i (place_at 0 n)) (nodes_of_turn r t z)
nodes_again i r t z some levels =
    ap (λ (level : Option ℤ). nodes_of (Trajectory level r.has_z (map (step_at r.has_z) (nodes_on i r t z)))) (sym (same_level i r t z r.steps some))
    ∙ again r.has_z i.ts i.zs i.ys i.xs (level_at i.zs z) (nodes_of_turn r t z) levels (one_level i r t z)
