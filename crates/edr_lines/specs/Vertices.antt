-- The nodes nearest to the vertices of a line, by their places; for private clauses.
use Rattle.std.specs.Prelude.{ℕ, ◌<◌, ◌==◌, ◌^◌, Bool, true, false, ◌&&◌, if◌then◌else◌, ℤ, List, [], ◌∷◌, ◌++◌, length, map, Option, None, Some, unwrap_or, IfSome}
use Rattle.std.specs.List.{find, range_with_len}
use Rattle.edr_base.specs.declared.places.Position.{Position}
use Rattle.edr_axes.specs.Axes.{value_at}
use Rattle.edr_corridor.specs.Boxes.{GridAxes}
use Rattle.edr_select.specs.declared.plans.GridNode.{GridNode}
use Rattle.edr_select.specs.Wanted.{is_along, is_nearest}

-- the place of the value of an axis that is nearest to a number
abbrev pub nearest_place : List ℤ → ℤ → ℕ
nearest_place values number = unwrap_or (find (λ k. is_nearest values number (value_at values k)) (range_with_len 0 (length values))) 0

-- that of a number along the axis, and none of another
abbrev pub place_along : List ℤ → ℤ → Option ℕ
place_along values number = if is_along values number then Some (nearest_place values number) else None

-- the same where vertices have the coordinate, and else the place 0
abbrev pub place_where : Bool → Option (List ℤ) → ℤ → Option ℕ
place_where false axis number = Some 0
place_where true None number = None
place_where true (Some values) number = place_along values number

-- the node of some places, where each is there
abbrev pub node_of : Option ℕ → Option ℕ → Option ℕ → Option ℕ → Option GridNode
node_of (Some t) (Some z) (Some y) (Some x) = Some (record { t = t; z = z; y = y; x = x })
node_of t z y x = None

-- the node nearest to a vertex, where that is inside the axes
abbrev pub step_at : GridAxes → Bool → Bool → Position → Option GridNode
step_at axes has_z has_m v =
    node_of (place_where has_m (Some axes.ts) v.m) (place_where has_z axes.zs v.z) (place_along axes.ys v.y) (place_along axes.xs v.x)

abbrev pub same_step : GridNode → GridNode → Bool
same_step one other = (one.t == other.t) && ((one.z == other.z) && ((one.y == other.y) && (one.x == other.x)))

-- those that are there
abbrev pub there : List (Option GridNode) → List GridNode
there [] = []
there (None ∷ nodes) = there nodes
there (Some node ∷ nodes) = node ∷ there nodes

-- of equal neighbours one
abbrev pub once : List GridNode → List GridNode
once [] = []
once (n ∷ []) = n ∷ []
once (n ∷ (m ∷ nodes)) = if same_step n m then once (m ∷ nodes) else n ∷ once (m ∷ nodes)

-- those of the vertices that are inside, of equal neighbours one
abbrev pub steps_of : GridAxes → Bool → Bool → List Position → List GridNode
steps_of axes has_z has_m vertices = once (there (map (step_at axes has_z has_m) vertices))

-- the last of some nodes is a node
abbrev pub ends_in : List GridNode → GridNode → Bool
ends_in [] step = false
ends_in (n ∷ []) step = same_step n step
ends_in (n ∷ (m ∷ nodes)) step = ends_in (m ∷ nodes) step

-- with one more, unless it is the last one again
abbrev pub step_with : List GridNode → GridNode → List GridNode
step_with nodes step = if ends_in nodes step then nodes else nodes ++ step ∷ []

-- the places of the axes are within 32 bits
pub record IsFewAlong (axes : GridAxes) : Type 0 where
  pub times : length axes.ts < 2 ^ 32
  pub levels : IfSome axes.zs (λ zs. length zs < 2 ^ 32)
  pub rows : length axes.ys < 2 ^ 32
  pub columns : length axes.xs < 2 ^ 32
