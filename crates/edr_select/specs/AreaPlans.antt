-- What is known of a query of a disc, of polygons or of a box from step to step of its planning; for private clauses.
use Rattle.std.specs.Prelude.{◌≡◌, ◌≢◌, ℕ, ◌*◌, ◌≤◌, List, [], map, length, Some, option_map}
use Rattle.std.specs.List.{range_with_len}
use Rattle.edr_axes.specs.Axes.{value_at}
use Rattle.covjson_value.specs.declared.domains.Domain.{Domain}
use Rattle.covjson_value.specs.declared.domains.Domain.TheVariants.{Grid}
use Rattle.edr_edition.specs.Values.{InstanceValue, CollectionValue}
use Rattle.edr_query.specs.Values.{QueryValue}
use Rattle.edr_select.specs.declared.plans.Reply.TheVariants.{Framed}
use Rattle.edr_select.specs.Checks.{refused_query, grid_of}
use Rattle.edr_select.specs.Choices.{chosen, IsSome, parameter_places}
use Rattle.edr_select.specs.Steps.{IsPlanIn, refused_large}
use Rattle.edr_select.specs.Framings.{FrameValue, FramingValue, node_count}
use Rattle.edr_select.specs.Masks.{MaskValue, IsMask, frame_with}

-- the Grid of some times and levels of an instance, and of so many rows and columns from some on
abbrev pub domain_within : InstanceValue → List ℕ → List ℕ → ℕ → ℕ → ℕ → ℕ → Domain
domain_within i times levels row rows column columns =
    Grid (Some (map (value_at i.ts) times)) (option_map (λ zs. map (value_at zs) levels) i.zs)
    (map (value_at i.ys) (range_with_len row rows)) (map (value_at i.xs) (range_with_len column columns))

-- the times, the levels and the rows and columns of a frame
abbrev pub domain_over : InstanceValue → FrameValue → Domain
domain_over i frame = domain_within i frame.times frame.levels frame.row frame.rows frame.column frame.columns

-- the frame has what a query takes of an instance
pub record IsFrameOf (i : InstanceValue) (q : QueryValue) (frame : FrameValue) : Type 0 where
  pub mask : MaskValue
  pub is_mask : IsMask i q.shape mask
  pub is : frame ≡ frame_with i q mask

-- some parameters are taken, at some times and levels
pub record TakesSome (parameters times levels : List ℕ) : Type 0 where
  pub parameters_some : parameters ≢ []
  pub times_some : times ≢ []
  pub levels_some : levels ≢ []

-- there is some of each
pub record AreSome (ts zs : List ℕ) (height width : ℕ) : Type 0 where
  pub times : ts ≢ []
  pub levels : zs ≢ []
  pub rows : 1 ≤ height
  pub columns : 1 ≤ width

-- a frame isn't empty
abbrev pub HasNodes : FrameValue → Type 0
HasNodes frame = AreSome frame.times frame.levels frame.rows frame.columns

-- how many values some parameters have over a frame
abbrev pub framed_count : List ℕ → FrameValue → ℕ
framed_count parameters frame = length parameters * node_count frame

-- the parameters and the frame that a query takes, where something is taken, and the refusals that are left
pub record IsFramed (collection : CollectionValue) (q : QueryValue) (i : InstanceValue) (parameters : List ℕ) (frame : FrameValue) : Type 0 where
  pub parameters_are : parameters ≡ parameter_places q.parameters i.parameters
  pub frame_is : IsFrameOf i q frame
  pub some : IsSome (chosen i q)
  pub refused_is : refused_query collection q ≡ refused_large q (grid_of collection i)

-- a framing whose plan stands for the query
abbrev pub IsFramingIn : CollectionValue → QueryValue → InstanceValue → FramingValue → Type 0
IsFramingIn collection q i framing = IsPlanIn collection q i (record { query = q; reply = Framed framing })
