-- What is used of an instance of grids, and of lists.
use Rattle.std.proofs.Common.{◌≡◌, ◌≢◌, ℕ, ◌*◌, ◌^◌, ◌<◌, ◌≤◌, Bool, true, false, cond, List, [], ◌∷◌, ◌++◌, length, refl, ap, ap₂, ◌∙◌, arith, Some, None, IfSome, ℤ, All, Contains, inl, inr, length-append, mul-le-mul_right, mul_comm, one-mul, mul-pos}
use Rattle.std.specs.declared.option.Option.{Option}
use Rattle.std.specs.Prelude.{map, ◌⊎◌}
use Rattle.std.specs.List.{flat_map, filter, slice_index_or}
use Rattle.std.proofs.lemmas.List.{length-map, get_or_default}
use Rattle.edr_base.specs.Limits.{node_limit}
use Rattle.edr_axes.specs.Axes.{IsAxis, axis_length}
use Rattle.covjson_value.specs.declared.domains.CoordinateName.TheVariants.{Z}
use Rattle.covjson_value.specs.Coverages.{IsNamedAxis}
use Rattle.edr_chunk.specs.declared.shapes.GridShape.{GridShape}
use Rattle.edr_chunk.specs.Places.{IsShape}
use Rattle.edr_edition.specs.Values.{InstanceValue}
use Rattle.edr_edition.specs.Instances.{HasGrid}
use Rattle.edr_select.specs.GridLaws.{IsGrid}
use Rattle.edr_select.specs.LevelLaws.{all_from_each}
use Rattle.edr_select.specs.ListLaws.{Each, all_member, member_here, member_later}
use Rattle.edr_lines.specs.Plans.{axes_of}
use Rattle.edr_lines.specs.Vertices.{IsFewAlong}

-- ---- instances

axis_if : (zs : Option (List ℤ)) → IfSome zs (IsNamedAxis Z) → IfSome zs IsAxis
axis_if None h = tt
axis_if (Some values) h = h.ascending

-- an instance's axes and parameters, by its grid
pub grid_from : (i : InstanceValue) → HasGrid i → IsGrid i
grid_from i h = record {
  ts = h.ts.ascending;
  zs = axis_if i.zs h.zs;
  ys = h.ys.ascending;
  xs = h.xs.ascending;
  ids = h.ascending;
  parameters = ap (λ (shape : GridShape). shape.parameters) h.shape;
  times = ap (λ (shape : GridShape). shape.times) h.shape;
  levels = ap (λ (shape : GridShape). shape.levels) h.shape;
  rows = ap (λ (shape : GridShape). shape.rows) h.shape;
  columns = ap (λ (shape : GridShape). shape.columns) h.shape;
}

-- ---- their axes are within 32 bits

more : (a b : ℕ) → 1 ≤ b → a ≤ a * b
more a b h =
    let wide : 1 * a ≤ b * a = mul-le-mul_right a h in
    omega (arith, wide, one-mul a, mul_comm b a)

behind : (a b : ℕ) → 1 ≤ b → a ≤ b * a
behind a b h = omega (arith, more a b h, mul_comm a b)

-- each side of a shape is at most the limit of nodes
record IsFewEach (shape : GridShape) : Type 0 where
  times : shape.times ≤ node_limit
  levels : shape.levels ≤ node_limit
  rows : shape.rows ≤ node_limit
  columns : shape.columns ≤ node_limit

few_each : (shape : GridShape) → IsShape shape → IsFewEach shape
few_each shape h =
    let times = more shape.times shape.levels h.levels in
    let levels = behind shape.levels shape.times h.times in
    let planes = more (shape.times * shape.levels) shape.rows h.rows in
    let rows = behind shape.rows (shape.times * shape.levels) (mul-pos h.times h.levels) in
    let all = more (shape.times * shape.levels * shape.rows) shape.columns h.columns in
    let columns = behind shape.columns (shape.times * shape.levels * shape.rows) (mul-pos (mul-pos h.times h.levels) h.rows) in
    record {
      times = omega (arith, times, planes, all, h.few);
      levels = omega (arith, levels, planes, all, h.few);
      rows = omega (arith, rows, all, h.few);
      columns = omega (arith, columns, h.few);
    }

few_levels : (zs : Option (List ℤ)) (many : ℕ) → many ≡ axis_length zs → many ≤ node_limit → IfSome zs (λ zs. length zs < 2 ^ 32)
few_levels None many e few = tt
few_levels (Some values) many e few = omega (arith, e, few)

pub few_along : (i : InstanceValue) → HasGrid i → IsFewAlong (axes_of i)
few_along i h =
    let g = grid_from i h in
    let few = few_each i.grid.shape h.is_shape in
    record {
      times = omega (arith, few.times, g.times);
      levels = few_levels i.zs i.grid.shape.levels g.levels few.levels;
      rows = omega (arith, few.rows, g.rows);
      columns = omega (arith, few.columns, g.columns);
    }

pub level_few : (i : InstanceValue) → HasGrid i → axis_length i.zs < 2 ^ 32
level_few i h = let few = few_each i.grid.shape h.is_shape in omega (arith, few.levels, (grid_from i h).levels)

-- ---- lists

pub all_from_members : {X : Type 0} (P : X → Type 0) (xs : List X) → ((x : X) → Contains xs x → P x) → All P xs
all_from_members P xs h k d l = h (slice_index_or xs k d) (k, l, get_or_default xs k (slice_index_or xs k d) d l)

pub each_member : {X : Type 0} (P : X → Type 0) (xs : List X) → Each P xs → (x : X) → Contains xs x → P x
each_member P xs each x m = all_member P xs x (all_from_each P xs each) m

pub cases_empty : {X : Type 0} (xs : List X) → (xs ≡ []) ⊎ (xs ≢ [])
cases_empty [] = inl refl
cases_empty (x ∷ xs) = inr (λ e. cc)

pub flat_map_agree_in : {X Y : Type 0} (f g : X → List Y) (xs : List X) → ((x : X) → Contains xs x → f x ≡ g x) → flat_map f xs ≡ flat_map g xs
flat_map_agree_in f g [] same = refl
flat_map_agree_in f g (x ∷ xs) same = ap₂ (λ r rs. r ++ rs) (same x (member_here x xs)) (flat_map_agree_in f g xs (λ y c. same y (member_later x y xs c)))

pub flat_map_none : {X Y : Type 0} (f : X → List Y) → ((x : X) → f x ≡ []) → (xs : List X) → flat_map f xs ≡ []
flat_map_none f none [] = refl
flat_map_none f none (x ∷ xs) = ap (λ r. r ++ flat_map f xs) (none x) ∙ flat_map_none f none xs

-- a test that each passes keeps all, and one that none passes keeps nothing
pub filter_each : {X : Type 0} (t : X → Bool) (xs : List X) → Each (λ x. t x ≡ true) xs → filter t xs ≡ xs
filter_each t [] each = refl
filter_each t (x ∷ xs) each = ap (λ b. cond b (x ∷ filter t xs) (filter t xs)) each.0 ∙ ap (λ r. x ∷ r) (filter_each t xs each.1)

pub filter_nothing : {X : Type 0} (t : X → Bool) (xs : List X) → Each (λ x. t x ≡ false) xs → filter t xs ≡ []
filter_nothing t [] each = refl
filter_nothing t (x ∷ xs) each = ap (λ b. cond b (x ∷ filter t xs) (filter t xs)) each.0 ∙ filter_nothing t xs each.1

pub length-flat_map : {X Y Z : Type 0} (f : X → Y → Z) (xs : List X) (ys : List Y) → length (flat_map (λ x. map (f x) ys) xs) ≡ length xs * length ys
length-flat_map f [] ys = omega arith
length-flat_map f (x ∷ xs) ys =
    omega (arith, length-append (map (f x) ys) (flat_map (λ x. map (f x) ys) xs), length-map ys (f x), length-flat_map f xs ys)
