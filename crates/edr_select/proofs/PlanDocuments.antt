-- The document of a position is that of a plan over the cells that are chosen.
use Rattle.std.proofs.Common.{◌≡◌, ℕ, Bool, true, false, List, [], ◌∷◌, length, refl, ap, sym, ◌∙◌, subst, Some, None, ℤ, Contains}
use Rattle.std.specs.declared.option.Option.{Option}
use Rattle.std.specs.Prelude.{map, option_map}
use Rattle.edr_base.specs.declared.places.Position.{Position}
use Rattle.edr_axes.specs.Axes.{value_at}
use Rattle.edr_wkt.specs.declared.geometry.Geometry.{Geometry}
use Rattle.edr_wkt.specs.declared.geometry.Geometry.TheVariants.{Points}
use Rattle.covjson_value.specs.declared.coverages.Coverage.{Coverage}
use Rattle.covjson_value.specs.declared.coverages.Document.TheVariants.{One, Many}
use Rattle.edr_edition.specs.Values.{InstanceValue}
use Rattle.edr_edition.specs.Stores.{Held, of_grid, Subject}
use Rattle.edr_query.specs.declared.shapes.Shape.{Shape}
use Rattle.edr_query.specs.declared.shapes.Shape.TheVariants as at
use Rattle.edr_query.specs.Values.{QueryValue}
use Rattle.edr_select.specs.Samples.{Stored}
use Rattle.edr_select.specs.Wanted.{levels_asked}
use Rattle.edr_select.specs.Selections.{picked}
use Rattle.edr_select.specs.Heads.{Spot, Head, alone, together, without_id, domain_at, levels_in, spots_in, heads_at_points, heads_of_points, heads_on_grid, heads_of}
use Rattle.edr_select.specs.Documents.{coverage_over, document, document_over}
use Rattle.edr_select.specs.Choices.{TakesEach, Chosen, chosen, IsSome, times_of, levels_of, spot_of}
use Rattle.edr_corridor.specs.Boxes.{level_at}
use Rattle.edr_select.specs.Listings.{PlannedValue, ListingValue, coverage_of, document_of, listing_document}
use Rattle.edr_select.specs.ListLaws.{map-map, map_agree_in, member_here}
use Rattle.edr_select.specs.GridLaws.{IsGrid}
use Rattle.edr_select.proofs.Picks.{picks_at, picked_is, takes_position}
use Rattle.edr_select.proofs.Occurring.{times_are, levels_are, spots_are}
use Rattle.edr_select.specs.NodeLaws.{one_level}
use Rattle.edr_select.specs.Planned.{points_domain}
use Rattle.edr_select.proofs.Coverages.{planned_at, planned_along, coverage_at_spot, coverage_along}

here : (x : ℕ) (xs : List ℕ) → xs ≡ x ∷ [] → Contains xs x
here x xs e = subst (λ (ys : List ℕ). Contains ys x) (sym e) (member_here x [])

-- ---- heads of several points

-- at one time and at most one level
heads_along : (t : ℤ) (z : ℕ) (zs : Option (List ℤ)) (spots : List Spot)
    → heads_at_points (t ∷ []) (option_map (λ values. map (value_at values) (z ∷ [])) zs) spots ≡ alone (without_id (points_domain t (level_at zs z) spots))
heads_along t z None spots = refl
heads_along t z (Some values) spots = refl

-- at several times or levels
heads_apart : (zs : Option (List ℤ)) (tv : ℕ → ℤ) (times levels : List ℕ) (spots : List Spot) → (zs ≡ None → levels ≡ 0 ∷ [])
    → ¬ ((length times ≡ 1) × (length levels ≡ 1))
    → heads_at_points (map tv times) (option_map (λ values. map (value_at values) levels) zs) spots
    ≡ together (map (λ spot. without_id (domain_at (map tv times) (option_map (λ values. map (value_at values) levels) zs) spot)) spots)
heads_apart None tv [] levels spots one several = refl
heads_apart None tv (t ∷ []) levels spots one several = absurd (several (refl, ap (λ ls. length ls) (one refl)))
heads_apart None tv (t ∷ u ∷ times) levels spots one several = refl
heads_apart (Some values) tv [] levels spots one several = refl
heads_apart (Some values) tv (t ∷ []) [] spots one several = refl
heads_apart (Some values) tv (t ∷ []) (z ∷ []) spots one several = absurd (several (refl, refl))
heads_apart (Some values) tv (t ∷ []) (z ∷ y ∷ levels) spots one several = refl
heads_apart (Some values) tv (t ∷ u ∷ times) levels spots one several = refl

module _ (s : Subject) (q : QueryValue) (i : InstanceValue) (geometry : Geometry) (held : s.held ≡ of_grid i) (shape : q.shape ≡ at.Position geometry) (g : IsGrid i)
    (some : IsSome (chosen i q)) where
  abbrev c : Chosen
  c = chosen i q

  each : TakesEach q.shape
  each = takes_position q geometry shape

  abbrev cover : Head → Coverage
  cover = coverage_over s q (picked s q)

  abbrev planned_coverage : PlannedValue → Coverage
  planned_coverage = coverage_of i.grid c.parameters

  heads_are : heads_of s.held q (picked s q) ≡ heads_of_points (times_of i c) (levels_of i c) geometry (map (spot_of i) c.spots)
  heads_are =
      ap (λ (picks : List Stored). heads_of s.held q picks) (picked_is s q i held each)
      ∙ (ap (λ (h : Held). heads_of h q (picks_at i q)) held
      ∙ (ap (λ (k : Shape). heads_on_grid i q k (picks_at i q)) shape
      ∙ (ap (λ ts. heads_of_points ts (option_map (levels_in (picks_at i q)) i.zs) geometry (spots_in (picks_at i q) i.ys i.xs)) (times_are i q each g some)
      ∙ (ap (λ zs. heads_of_points (times_of i c) zs geometry (spots_in (picks_at i q) i.ys i.xs)) (levels_are i q each g some)
      ∙ ap (heads_of_points (times_of i c) (levels_of i c) geometry) (spots_are i q each g some)))))

  document_is : document s q ≡ document_over cover (heads_of_points (times_of i c) (levels_of i c) geometry (map (spot_of i) c.spots))
  document_is = ap (document_over cover) heads_are

  -- ---- the document

  -- of one point
  pub document_at_point : (has_z has_m : Bool) (positions : List Position) → geometry ≡ Points false has_z has_m positions → (spot : ℕ) → c.spots ≡ spot ∷ []
      → document s q ≡ One (planned_coverage (planned_at s i c spot))
  document_at_point has_z has_m positions points spot spot_is =
      document_is
      ∙ (ap (λ (h : Geometry). document_over cover (heads_of_points (times_of i c) (levels_of i c) h (map (spot_of i) c.spots))) points
      ∙ (ap (λ (spots : List ℕ). document_over cover (heads_of_points (times_of i c) (levels_of i c) (Points false has_z has_m positions) (map (spot_of i) spots))) spot_is
      ∙ ap One (coverage_at_spot s q i held each g some spot (here spot c.spots spot_is))))

  -- of several points, at one time and at most one level
  pub document_along : (has_z has_m : Bool) (positions : List Position) → geometry ≡ Points true has_z has_m positions → (t z : ℕ) → c.times ≡ t ∷ []
      → c.levels ≡ z ∷ []
      → document s q ≡ One (planned_coverage (planned_along s i c t z))
  document_along has_z has_m positions points t z time_is level_is =
      document_is
      ∙ (ap (λ (h : Geometry). document_over cover (heads_of_points (times_of i c) (levels_of i c) h (map (spot_of i) c.spots))) points
      ∙ (ap (λ (times : List ℕ). document_over cover (heads_at_points (map (value_at i.ts) times) (levels_of i c) (map (spot_of i) c.spots))) time_is
      ∙ (ap (λ (levels : List ℕ). document_over cover (heads_at_points (value_at i.ts t ∷ []) (option_map (λ values. map (value_at values) levels) i.zs) (map (spot_of i) c.spots))) level_is
      ∙ (ap (document_over cover) (heads_along (value_at i.ts t) z i.zs (map (spot_of i) c.spots))
      ∙ ap One (coverage_along s q i held each g t z (here t c.times time_is) (here z c.levels level_is))))))

  -- of several points, at several times or levels
  pub document_apart : (has_z has_m : Bool) (positions : List Position) → geometry ≡ Points true has_z has_m positions
      → ¬ ((length c.times ≡ 1) × (length c.levels ≡ 1))
      → document s q ≡ Many (map planned_coverage (map (planned_at s i c) c.spots))
  document_apart has_z has_m positions points several =
      document_is
      ∙ (ap (λ (h : Geometry). document_over cover (heads_of_points (times_of i c) (levels_of i c) h (map (spot_of i) c.spots))) points
      ∙ (ap (document_over cover) (heads_apart i.zs (value_at i.ts) c.times c.levels (map (spot_of i) c.spots) (λ none. one_level (levels_asked q) i.zs none some.levels) several)
      ∙ ap Many covers))
    where
      covers : map cover (map (λ (spot : Spot). without_id (domain_at (times_of i c) (levels_of i c) spot)) (map (spot_of i) c.spots)) ≡ map planned_coverage (map (planned_at s i c) c.spots)
      covers =
          map-map cover (λ (spot : Spot). without_id (domain_at (times_of i c) (levels_of i c) spot)) (map (spot_of i) c.spots)
          ∙ (map-map (λ (spot : Spot). cover (without_id (domain_at (times_of i c) (levels_of i c) spot))) (spot_of i) c.spots
          ∙ (map_agree_in (λ spot. cover (without_id (domain_at (times_of i c) (levels_of i c) (spot_of i spot)))) (λ spot. planned_coverage (planned_at s i c spot)) c.spots
          (λ spot m. coverage_at_spot s q i held each g some spot m)
          ∙ sym (map-map planned_coverage (planned_at s i c) c.spots)))

  -- ---- plans

  parts : (plan : ListingValue) (many : Bool) (coverages : List PlannedValue) → plan.many ≡ many → plan.parameters ≡ c.parameters → plan.coverages ≡ coverages
      → listing_document i.grid plan ≡ document_of many (map planned_coverage coverages)
  parts plan many coverages is_many parameters are =
      ap (λ (b : Bool). document_of b (map (coverage_of i.grid plan.parameters) plan.coverages)) is_many
      ∙ (ap (λ (ps : List ℕ). document_of many (map (coverage_of i.grid ps) plan.coverages)) parameters
      ∙ ap (λ (ps : List PlannedValue). document_of many (map planned_coverage ps)) are)

  -- of one point
  pub plan_at_point : (has_z has_m : Bool) (positions : List Position) → geometry ≡ Points false has_z has_m positions → (spot : ℕ) → c.spots ≡ spot ∷ []
      → (plan : ListingValue) → plan.many ≡ false → plan.parameters ≡ c.parameters → plan.coverages ≡ planned_at s i c spot ∷ []
      → listing_document i.grid plan ≡ Some (document s q)
  plan_at_point has_z has_m positions points spot spot_is plan many parameters coverages =
      parts plan false (planned_at s i c spot ∷ []) many parameters coverages ∙ ap Some (sym (document_at_point has_z has_m positions points spot spot_is))

  -- of several points, at one time and at most one level
  pub plan_along : (has_z has_m : Bool) (positions : List Position) → geometry ≡ Points true has_z has_m positions → (t z : ℕ) → c.times ≡ t ∷ [] → c.levels ≡ z ∷ []
      → (plan : ListingValue) → plan.many ≡ false → plan.parameters ≡ c.parameters → plan.coverages ≡ planned_along s i c t z ∷ []
      → listing_document i.grid plan ≡ Some (document s q)
  plan_along has_z has_m positions points t z time_is level_is plan many parameters coverages =
      parts plan false (planned_along s i c t z ∷ []) many parameters coverages ∙ ap Some (sym (document_along has_z has_m positions points t z time_is level_is))

  -- of several points, at several times or levels
  pub plan_apart : (has_z has_m : Bool) (positions : List Position) → geometry ≡ Points true has_z has_m positions → ¬ ((length c.times ≡ 1) × (length c.levels ≡ 1))
      → (plan : ListingValue) → plan.many ≡ true → plan.parameters ≡ c.parameters → plan.coverages ≡ map (planned_at s i c) c.spots
      → listing_document i.grid plan ≡ Some (document s q)
  plan_apart has_z has_m positions points several plan many parameters coverages =
      parts plan true (map (planned_at s i c) c.spots) many parameters coverages ∙ ap Some (sym (document_apart has_z has_m positions points several))
