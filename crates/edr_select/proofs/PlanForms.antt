-- What is planned for a position, by the form of its reply.
use Rattle.std.proofs.Common.{◌≡◌, ℕ, ◌*◌, ◌<◌, ◌≤◌, Bool, true, false, List, [], ◌∷◌, length, Option, Some, None, refl, ap, ap₂, sym, ◌∙◌, subst, arith, All, Contains, IfSome, ℤ, mul-le-mul_right, mul_comm, one-mul}
use Rattle.std.specs.Prelude.{map, ◌||◌, nat_lt}
use Rattle.std.specs.List.{slice_index_or}
use Rattle.std.proofs.lemmas.Bool.{false≢true}
use Rattle.std.proofs.lemmas.List.{length-map, get_or_default}
use Rattle.edr_base.specs.declared.places.Position.{Position}
use Rattle.edr_base.specs.Limits.{node_limit, AreSamples}
use Rattle.edr_base.specs.declared.refusals.Refusal.TheVariants.{TooLarge}
use Rattle.edr_axes.specs.Axes.{IsAxis, axis_length}
use Rattle.edr_wkt.specs.declared.geometry.Geometry.{Geometry}
use Rattle.edr_wkt.specs.declared.geometry.Geometry.TheVariants.{Points, Line, Polygons}
use Rattle.edr_wkt.specs.Geometries.{positions_of, is_multi_point}
use Rattle.covjson_value.specs.declared.domains.Domain.{Domain}
use Rattle.covjson_value.specs.declared.domains.CoordinateName.TheVariants.{Z}
use Rattle.covjson_value.specs.Coverages.{IsNamedAxis, IsValidDocument, coverages_in}
use Rattle.edr_chunk.specs.declared.shapes.GridShape.{GridShape}
use Rattle.edr_chunk.specs.Places.{IsShape}
use Rattle.edr_edition.specs.Values.{InstanceValue, CollectionValue}
use Rattle.edr_edition.specs.Instances.{HasGrid}
use Rattle.edr_edition.specs.Stores.{of_grid, Subject}
use Rattle.edr_query.specs.declared.addresses.QueryKind.TheVariants as kind
use Rattle.edr_query.specs.declared.shapes.Shape.TheVariants as at
use Rattle.edr_query.specs.Queries.{IsTaken, IsShape as IsShapeOf}
use Rattle.edr_query.specs.Values.{QueryValue}
use Rattle.edr_select.specs.declared.plans.GridNode.{GridNode}
use Rattle.edr_select.specs.declared.plans.Reply.TheVariants.{Listed}
use Rattle.edr_select.specs.declared.forms.Form.{Form}
use Rattle.edr_select.specs.declared.forms.Form.TheVariants.{AtPoint, Along, Apart}
use Rattle.edr_select.specs.Limits.{value_limit, coverage_limit}
use Rattle.edr_select.specs.Wanted.{levels_asked}
use Rattle.edr_select.specs.Documents.{document, values_in}
use Rattle.edr_select.specs.Checks.{refused_query, grid_of}
use Rattle.edr_select.specs.Choices.{IsPoints, Chosen, chosen, IsSome, levels_of}
use Rattle.edr_select.specs.Planned as planned
use Rattle.edr_select.specs.Planned.{IsInside, IsSmall, AreAxes}
use Rattle.edr_select.specs.Listings.{PlannedValue, ListingValue, IsListing}
use Rattle.edr_select.specs.Plans.{IsReplyTo}
use Rattle.edr_select.specs.Steps.{IsAsked, IsForm, IsPlanIn, is_many, value_count, coverage_count, planned_in, refused_large}
use Rattle.edr_select.specs.ListLaws.{all_member, member_here}
use Rattle.edr_select.specs.GridLaws.{IsGrid}
use Rattle.edr_select.proofs.Instances.{grid_from}
use Rattle.edr_select.proofs.ChosenLaws as laws
use Rattle.edr_select.proofs.Nearest.{one_spot}
use Rattle.edr_select.proofs.Coverages as coverages
use Rattle.edr_select.proofs.Counts as counts
use Rattle.edr_select.proofs.PlanLaws as plans
use Rattle.edr_select.specs.LevelLaws.{level_axis}
use Rattle.edr_select.proofs.PlannedLaws as valid
use Rattle.edr_select.proofs.Positions.{ArePoints, one, several, position_points}
use Rattle.edr_select.proofs.PlanSteps.{known_size, refused_size}
use Rattle.edr_select.specs.ReplyLaws.{document_valid}

-- ---- points

pub are_points : (geometry : Geometry) → IsTaken kind.Position geometry → IsPoints geometry
are_points (Points multi has_z has_m positions) h = tt
are_points (Line has_z has_m positions) h = absurd (false≢true h.1)
are_points (Polygons multi has_z has_m polygons) h = absurd (false≢true h.1)

-- a query of a position has points
pub taken_points : (q : QueryValue) (geometry : Geometry) → IsShapeOf q.shape → q.shape ≡ at.Position geometry → IsTaken kind.Position geometry
taken_points q geometry is shape = subst IsShapeOf shape is

pub has_points : (q : QueryValue) (geometry : Geometry) → IsShapeOf q.shape → q.shape ≡ at.Position geometry → IsPoints geometry
has_points q geometry is shape = are_points geometry (taken_points q geometry is shape)

record PointsAre (geometry : Geometry) (multi : Bool) : Type 0 where
  has_z : Bool
  has_m : Bool
  positions : List Position
  is : geometry ≡ Points multi has_z has_m positions

points_as : (geometry : Geometry) → IsTaken kind.Position geometry → (multi : Bool) → is_multi_point geometry ≡ multi → PointsAre geometry multi
points_as (Points multi has_z has_m positions) h other e = record { has_z = has_z; has_m = has_m; positions = positions; is = ap (λ b. Points b has_z has_m positions) e }
points_as (Line has_z has_m positions) h other e = absurd (false≢true h.1)
points_as (Polygons multi has_z has_m polygons) h other e = absurd (false≢true h.1)

record OnePoint (geometry : Geometry) : Type 0 where
  point : Position
  alone : positions_of geometry ≡ point ∷ []

one_of : (geometry : Geometry) → ArePoints geometry → is_multi_point geometry ≡ false → OnePoint geometry
one_of _ (one has_z point) e = record { point = point; alone = refl }
one_of _ (several positions some) e = absurd (false≢true (sym e))

-- ---- lists

pub all_from_members : {X : Type 0} (P : X → Type 0) (xs : List X) → ((x : X) → Contains xs x → P x) → All P xs
all_from_members P xs h k d l =
    h (slice_index_or xs k d) (k, l, get_or_default xs k (slice_index_or xs k d) d l)

pub first_in : (P : ℕ → Type 0) (xs : List ℕ) (x : ℕ) → All P xs → xs ≡ x ∷ [] → P x
first_in P xs x all e = all_member P xs x all (subst (λ (ys : List ℕ). Contains ys x) (sym e) (member_here x []))

-- ---- what is taken lies in the grid

more : (a b : ℕ) → 1 ≤ b → a ≤ a * b
more a b h =
    let wide : 1 * a ≤ b * a = mul-le-mul_right a h in
    omega (arith, wide, one-mul a, mul_comm b a)

times_few : (shape : GridShape) → IsShape shape → shape.times ≤ node_limit
times_few shape h =
    let a = more shape.times shape.levels h.levels in
    let b = more (shape.times * shape.levels) shape.rows h.rows in
    let c = more (shape.times * shape.levels * shape.rows) shape.columns h.columns in
    omega (arith, a, b, c, h.few)

levels_few : (shape : GridShape) → IsShape shape → shape.levels ≤ node_limit
levels_few shape h =
    let a = more shape.levels shape.times h.times in
    let b = more (shape.times * shape.levels) shape.rows h.rows in
    let c = more (shape.times * shape.levels * shape.rows) shape.columns h.columns in
    omega (arith, a, mul_comm shape.levels shape.times, b, c, h.few)

pub small : (i : InstanceValue) → HasGrid i → IsSmall i
small i h =
    let g = grid_from i h in
    let plane : i.grid.shape.rows * i.grid.shape.columns ≡ length i.ys * length i.xs = ap₂ (λ a b. a * b) g.rows g.columns in
    record {
      times = omega (arith, g.times, times_few i.grid.shape h.is_shape);
      levels = omega (arith, g.levels, levels_few i.grid.shape h.is_shape);
      spots = omega (arith, plane, valid.plane_few i.grid.shape h.is_shape);
    }

axis_if : (zs : Option (List ℤ)) → IfSome zs (IsNamedAxis Z) → IfSome zs IsAxis
axis_if None h = tt
axis_if (Some values) h = h.ascending

-- the choice of a query of any kind
module _ (c : CollectionValue) (q : QueryValue) (i : InstanceValue) (asked : IsAsked c q i) where
  g : IsGrid i
  g = grid_from i asked.grid

  abbrev choice : Chosen
  choice = chosen i q

  pub inside : IsInside i choice
  inside = record {
    parameters = all_from_members (λ p. p < length i.parameters) choice.parameters (laws.parameter_below i q asked.each g);
    times = all_from_members (λ t. t < length i.ts) choice.times (laws.time_below i q asked.each g);
    levels = all_from_members (λ z. z < axis_length i.zs) choice.levels (laws.level_below i q asked.each g);
    spots = all_from_members (λ spot. spot < length i.ys * length i.xs) choice.spots (laws.spot_below i q asked.each g);
  }

  pub axes : IsSome choice → AreAxes i choice
  axes some = record {
    times = (valid.time_axis (grid_of c i) q i asked.each asked.grid asked.is_collection.referencing some).ascending;
    levels = axis_if (levels_of i choice) (level_axis (levels_asked q) i.zs asked.grid.zs some.levels);
  }

same_grid : {i j : InstanceValue} → of_grid i ≡ of_grid j → i ≡ j
same_grid e = grind (arith, e)

-- the document of a listing that is the reply to its query is valid
pub valid_document : (listing : ListingValue) (s : Subject) (i : InstanceValue) (q : QueryValue) → s.held ≡ of_grid i → AreSamples i.grid.values → IsListing listing
    → IsReplyTo (Listed listing) q s → IsValidDocument (document s q)
valid_document listing s i q held samples is stands =
    document_valid stands.instance.grid listing (document s q) is
    (subst (λ (j : InstanceValue). AreSamples j.grid.values) (same_grid (sym held ∙ stands.held)) samples) stands.document

-- ---- positions

module _ (c : CollectionValue) (q : QueryValue) (i : InstanceValue) (geometry : Geometry) (asked : IsAsked c q i) (shape : q.shape ≡ at.Position geometry) where
  abbrev s : Subject
  s = grid_of c i

  gr : IsGrid i
  gr = grid_from i asked.grid

  abbrev taken : Chosen
  taken = chosen i q

  points : IsTaken kind.Position geometry
  points = taken_points q geometry asked.shape shape

  -- one spot is the nearest to one point
  pub spot_alone : IsSome taken → is_multi_point geometry ≡ false → length taken.spots ≡ 1
  spot_alone some e =
      let p = one_of geometry (position_points geometry points) e in
      ap (λ (spots : List ℕ). length spots) (one_spot i q geometry shape gr p.point p.alone some.spots).1

  module _ (some : IsSome taken) where
    -- ---- sizes

    record Sizes (form : Form) : Type 0 where
      values : values_in (document s q) ≡ value_count taken
      coverages : length (coverages_in (document s q)) ≡ coverage_count taken form

    sizes : (form : Form) → IsForm geometry taken form → Sizes form
    sizes (AtPoint spot) h =
        let p = points_as geometry points false h.0 in
        record {
          values = counts.values_at_point s q i geometry refl shape gr some p.has_z p.has_m p.positions p.is spot h.1;
          coverages = counts.coverages_at_point s q i geometry refl shape gr some p.has_z p.has_m p.positions p.is spot h.1;
        }
    sizes (Along t z) h =
        let p = points_as geometry points true h.0 in
        record {
          values = counts.values_along s q i geometry refl shape gr some p.has_z p.has_m p.positions p.is t z h.1.0 h.1.1;
          coverages = counts.coverages_along s q i geometry refl shape gr some p.has_z p.has_m p.positions p.is t z h.1.0 h.1.1;
        }
    sizes Apart h =
        let p = points_as geometry points true h.0 in
        record {
          values = counts.values_apart s q i geometry refl shape gr some p.has_z p.has_m p.positions p.is h.1;
          coverages = counts.coverages_apart s q i geometry refl shape gr some p.has_z p.has_m p.positions p.is h.1;
        }

    pub size_is : (form : Form) → IsForm geometry taken form
        → (nat_lt value_limit (values_in (document s q)) || nat_lt coverage_limit (length (coverages_in (document s q))))
        ≡ (nat_lt value_limit (value_count taken) || nat_lt coverage_limit (coverage_count taken form))
    size_is form h = let n = sizes form h in ap₂ (λ values covs. nat_lt value_limit values || nat_lt coverage_limit covs) n.values n.coverages

    -- ---- what is planned

    abbrev over : List GridNode → Domain → PlannedValue
    over cells domain = record { head = coverages.head_over s i taken domain; cells = cells }

    same_along : (t z : ℕ) → planned.planned_along c.referencing i taken t z ≡ coverages.planned_along s i taken t z
    same_along t z = refl

    -- every listing is valid
    pub is_listing : (form : Form) → IsForm geometry taken form → (listing : ListingValue) → listing.shape ≡ i.grid.shape → listing.parameters ≡ taken.parameters
        → listing.many ≡ is_many form → listing.coverages ≡ planned_in c.referencing i taken form → IsListing listing
    is_listing (AtPoint spot) h listing same parameters many are =
        valid.is_listing s q i asked.each asked.grid asked.is_collection.referencing some listing (map (coverages.planned_at s i taken) taken.spots) same parameters are
        (valid.planned_at_are s q i asked.each asked.grid asked.is_collection.referencing some)
        (λ _. length-map taken.spots (coverages.planned_at s i taken) ∙ ap (λ (spots : List ℕ). length spots) h.1)
    is_listing (Along t z) h listing same parameters many are =
        valid.is_listing s q i asked.each asked.grid asked.is_collection.referencing some listing (coverages.planned_along s i taken t z ∷ []) same parameters
        (are ∙ ap (λ (p : PlannedValue). p ∷ []) (same_along t z)) (
          valid.planned_along_is s q i asked.each asked.grid asked.is_collection.referencing some t z
              (subst (λ (ts : List ℕ). Contains ts t) (sym h.1.0) (member_here t [])) (subst (λ (zs : List ℕ). Contains zs z) (sym h.1.1) (member_here z [])),
          tt,
        )
        (λ _. refl)
    is_listing Apart h listing same parameters many are =
        valid.is_listing s q i asked.each asked.grid asked.is_collection.referencing some listing (map (coverages.planned_at s i taken) taken.spots) same parameters are
        (valid.planned_at_are s q i asked.each asked.grid asked.is_collection.referencing some)
        (λ one. absurd (false≢true (sym one ∙ many)))

    -- and it is the reply to the query
    pub listing_stands : (form : Form) → IsForm geometry taken form → (listing : ListingValue) → listing.shape ≡ i.grid.shape → listing.parameters ≡ taken.parameters
        → listing.many ≡ is_many form → listing.coverages ≡ planned_in c.referencing i taken form → IsReplyTo (Listed listing) q s
    listing_stands (AtPoint spot) h listing same parameters many are =
        let p = points_as geometry points false h.0 in
        plans.stands_at_point listing s q i geometry refl shape gr some same parameters p.has_z p.has_m p.positions p.is spot h.1 many
        (are ∙ ap (map (planned.planned_at c.referencing i taken)) h.1)
    listing_stands (Along t z) h listing same parameters many are =
        let p = points_as geometry points true h.0 in
        plans.stands_along listing s q i geometry refl shape gr some same parameters p.has_z p.has_m p.positions p.is t z h.1.0 h.1.1 many
        (are ∙ ap (λ (p : PlannedValue). p ∷ []) (same_along t z))
    listing_stands Apart h listing same parameters many are =
        let p = points_as geometry points true h.0 in
        plans.stands_apart listing s q i geometry refl shape gr some same parameters p.has_z p.has_m p.positions p.is h.1 many are

    pub listing_valid : (form : Form) → IsForm geometry taken form → (listing : ListingValue) → listing.shape ≡ i.grid.shape → listing.parameters ≡ taken.parameters
        → listing.many ≡ is_many form → listing.coverages ≡ planned_in c.referencing i taken form → IsValidDocument (document s q)
    listing_valid form h listing same parameters many are =
        valid_document listing s i q refl asked.grid.samples (is_listing form h listing same parameters many are) (listing_stands form h listing same parameters many are)

    -- no refusal is left where the reply isn't too large
    pub is_plan_in : (form : Form) → IsForm geometry taken form → (listing : ListingValue) → listing.shape ≡ i.grid.shape → listing.parameters ≡ taken.parameters
        → listing.many ≡ is_many form → listing.coverages ≡ planned_in c.referencing i taken form → refused_query c q ≡ refused_large q s
        → (nat_lt value_limit (value_count taken) || nat_lt coverage_limit (coverage_count taken form)) ≡ false
        → IsPlanIn c q i (record { query = q; reply = Listed listing })
    is_plan_in form h listing same parameters many are left fits = record {
      none = left ∙ known_size c q i asked (size_is form h ∙ fits);
      query_is = refl;
      valid = listing_valid form h listing same parameters many are;
      stands = listing_stands form h listing same parameters many are;
    }

    pub is_refused_in : (form : Form) → IsForm geometry taken form → refused_query c q ≡ refused_large q s
        → (nat_lt value_limit (value_count taken) || nat_lt coverage_limit (coverage_count taken form)) ≡ true
        → refused_query c q ≡ Some TooLarge
    is_refused_in form h left large = left ∙ refused_size c q i asked (size_is form h ∙ large)
