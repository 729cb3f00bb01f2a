-- A trajectory's plan: it is refused where no node is on its route or where it is too large, and else a listing over its turns stands for it.
use Rattle.std.proofs.Common.{◌≡◌, ◌≢◌, ℕ, ◌<◌, Bool, true, false, List, [], inl, inr, length, Some, None, refl, ap, ap₂, sym, ◌∙◌, subst, eqb, All}
use Rattle.std.specs.Prelude.{not, ◌||◌, ◌↔◌, nat_lt, IsTrue}
use Rattle.std.proofs.lemmas.Bool.{false≢true, false_from_ne_true, not-false, eqb-true, eq-eqb}
use Rattle.edr_base.specs.declared.refusals.Refusal.TheVariants.{NoSamples, TooLarge}
use Rattle.edr_wkt.specs.declared.geometry.Geometry.{Geometry}
use Rattle.edr_wkt.specs.Faults.{IsGeometry}
use Rattle.covjson_value.specs.Coverages.{IsValidDocument}
use Rattle.edr_edition.specs.Values.{InstanceValue, CollectionValue}
use Rattle.edr_edition.specs.Stores.{Subject}
use Rattle.edr_query.specs.declared.shapes.Shape.TheVariants as at
use Rattle.edr_query.specs.Queries.{IsShape}
use Rattle.edr_query.specs.Values.{QueryValue}
use Rattle.edr_select.specs.declared.plans.Reply.TheVariants.{Listed}
use Rattle.edr_select.specs.Checks.{refused_query, grid_of}
use Rattle.edr_select.specs.Choices.{parameter_places}
use Rattle.edr_select.specs.Documents.{document}
use Rattle.edr_select.specs.GridLaws.{IsGrid}
use Rattle.edr_select.specs.Heads.{is_some_stored}
use Rattle.edr_select.specs.KeptLaws.{kept_below}
use Rattle.edr_select.specs.Limits.{value_limit, coverage_limit}
use Rattle.edr_select.specs.ListLaws.{some_member}
use Rattle.edr_select.specs.Listings.{PlannedValue, ListingValue, place_at, listing_document, IsListing}
use Rattle.edr_select.specs.Plans.{IsReplyTo}
use Rattle.edr_select.specs.ReplyLaws.{document_valid}
use Rattle.edr_select.specs.Samples.{Stored, id_at}
use Rattle.edr_select.specs.Selections.{is_asked, picked}
use Rattle.edr_select.specs.Steps.{IsPlanIn, refused_sizes, lacks_levels}
use Rattle.edr_lines.specs.Asked.{IsAskedAlong}
use Rattle.edr_lines.specs.Routes.{RouteValue, route_at, HasTurns, turned, nodes_on, lists_on, planned_turn, planned_turns, turn_count, value_count}
use Rattle.edr_lines.proofs.LineGrids.{grid_from, all_from_members, length-flat_map}
use Rattle.edr_lines.proofs.LineRefusals.{some_picked, none_picked, refused_samples, known_samples, refused_size, known_size}
use Rattle.edr_lines.proofs.RouteLists.{turns_decided}
use Rattle.edr_lines.proofs.StackPicks.{one_picked}
use Rattle.edr_lines.proofs.TestedPicks.{found_pick}
use Rattle.edr_lines.proofs.TrajectoryCounts.{size_is}
use Rattle.edr_lines.proofs.TrajectoryDocuments.{listing_is}
use Rattle.edr_lines.proofs.TrajectoryPicks.{on_route, selects, none_on, parameter_within, taken}
use Rattle.edr_lines.proofs.TrajectoryTiles.{listing_chunks}
use Rattle.edr_lines.proofs.TrajectoryValid as valid

-- ---- what was tested

pub no_turns : (b : Bool) (route wanted : RouteValue) → b ≡ false → (IsTrue b ↔ HasTurns route) → route ≡ wanted → ¬ (HasTurns wanted)
no_turns b route wanted e test is has = false≢true (sym e ∙ test.1 (subst HasTurns (sym is) has))

pub has_turns : (b : Bool) (route wanted : RouteValue) → b ≡ true → (IsTrue b ↔ HasTurns route) → route ≡ wanted → HasTurns wanted
has_turns b route wanted e test is = subst HasTurns is (test.0 e)

-- there are more values or coverages than one reply may have
abbrev exceeds : List ℕ → RouteValue → Bool
exceeds names route = nat_lt value_limit (value_count names route) || nat_lt coverage_limit (turn_count route)

pub tested : (b d : Bool) (names asked : List ℕ) (route wanted : RouteValue) → b ≡ exceeds names route → b ≡ d → names ≡ asked → route ≡ wanted → exceeds asked wanted ≡ d
tested b d names asked route wanted test e named is = ap₂ exceeds (sym named) (sym is) ∙ (sym test ∙ e)

-- one coverage alone, or several
pub is_one : (n : ℕ) → not (eqb n 1) ≡ false → n ≡ 1
is_one n e = eqb-true n 1 (not-false (eqb n 1) e)

pub one_is : (n : ℕ) → n ≡ 1 → not (eqb n 1) ≡ false
one_is n e = ap not (eq-eqb n 1 e)

pub asked_below : (names : List ℕ) (q : QueryValue) (i : InstanceValue) → names ≡ parameter_places q.parameters i.parameters → All (λ p. p < length i.parameters) names
asked_below names q i is =
    subst (λ (ps : List ℕ). All (λ p. p < length i.parameters) ps) (sym is)
    (all_from_members (λ p. p < length i.parameters) (parameter_places q.parameters i.parameters) (λ p m. kept_below (λ p. is_asked q.parameters (id_at i.parameters p)) (length i.parameters) p m))

module _ (c : CollectionValue) (q : QueryValue) (i : InstanceValue) (line : Geometry) (along : IsAskedAlong c q i) (shape : q.shape ≡ at.Trajectory line) (levels : lacks_levels q i ≡ false) where
  abbrev s : Subject
  s = grid_of c i

  abbrev r : RouteValue
  r = route_at i q line

  abbrev asked : List ℕ
  asked = parameter_places q.parameters i.parameters

  g : IsGrid i
  g = grid_from i along.grid

  geometry : IsGeometry line
  geometry = (subst IsShape shape along.shape).0

  -- ---- samples

  no_sample : (¬ (HasTurns r)) → is_some_stored (picked s q) ≡ true → ⊥
  no_sample none some =
      let f = one_picked s q i refl g (on_route s q i line refl shape along.grid levels) (selects s q i line refl shape along.grid levels) some in
      false≢true (sym (none_on s q i line refl shape along.grid levels none f.place.t f.place.z f.place.y f.place.x) ∙ f.taken.node)

  pub refused_none : (¬ (HasTurns r)) → refused_sizes q s ≡ Some NoSamples
  refused_none none = refused_samples q s (false_from_ne_true (is_some_stored (picked s q)) (no_sample none))

  module _ (some : asked ≢ []) (has : HasTurns r) where
    picked_some : is_some_stored (picked s q) ≡ true
    picked_some =
        let p = some_member asked some in
        let t = some_member r.times has.times in
        let z = some_member r.levels has.levels in
        let n = some_member r.steps has.steps in
        sym (some_picked (picked s q))
        ∙ found_pick s q i refl g (on_route s q i line refl shape along.grid levels) (selects s q i line refl shape along.grid levels) (λ (x : Stored). true)
        (place_at p.item (turned r t.item z.item n.item))
        (parameter_within s q i line refl shape along.grid levels has p.item t.item z.item n.item p.among t.among z.among n.among)
        (taken s q i line refl shape along.grid levels has p.item t.item z.item n.item p.among t.among z.among n.among) refl

    -- ---- sizes

    pub refused_large_one : exceeds asked r ≡ true → refused_sizes q s ≡ Some TooLarge
    refused_large_one large = known_samples q s picked_some ∙ refused_size q s (size_is s q i line refl shape along.grid levels has ∙ large)

    none_refused : exceeds asked r ≡ false → refused_sizes q s ≡ None
    none_refused fits = known_samples q s picked_some ∙ known_size q s (size_is s q i line refl shape along.grid levels has ∙ fits)

    -- ---- a listing over the turns

    abbrev all_planned : List PlannedValue
    all_planned = planned_turns c.referencing i asked r

    planned_count : length all_planned ≡ turn_count r
    planned_count = length-flat_map (planned_turn c.referencing i asked r) r.times r.levels

    lists_count : length (lists_on i r) ≡ turn_count r
    lists_count = length-flat_map (nodes_on i r) r.times r.levels

    module _ (listing : ListingValue) (same : listing.shape ≡ i.grid.shape) (parameters : listing.parameters ≡ asked) (coverages : listing.coverages ≡ all_planned)
        (one : listing.many ≡ false → length listing.coverages ≡ 1) (alone : length listing.coverages ≡ 1 → listing.many ≡ false) where
      counted : length listing.coverages ≡ turn_count r
      counted = ap (λ (all : List PlannedValue). length all) coverages ∙ planned_count

      pub is_listing : IsListing listing
      is_listing =
          valid.is_listing s q i line shape along.grid levels has geometry along.is_collection.referencing some listing same parameters coverages
          (λ many. planned_count ∙ (sym counted ∙ one many))

      pub document_is : listing_document i.grid listing ≡ Some (document s q)
      document_is =
          listing_is s q i line refl shape along.grid levels has listing parameters coverages
          (λ many. lists_count ∙ (sym counted ∙ one many)) (λ count. alone (counted ∙ (sym lists_count ∙ count)))

      stands : IsReplyTo (Listed listing) q s
      stands = record {
        instance = i;
        held = refl;
        shape = same;
        document = document_is;
        chunks = listing_chunks s q i line refl shape along.grid levels has listing same parameters coverages;
      }

      -- no refusal is left where the reply isn't too large
      pub is_plan : refused_query c q ≡ refused_sizes q s → exceeds asked r ≡ false
          → IsPlanIn c q i (record { query = q; reply = Listed listing })
      is_plan left fits = record {
        none = left ∙ none_refused fits;
        query_is = refl;
        valid = document_valid i.grid listing (document s q) is_listing along.grid.samples document_is;
        stands = stands;
      }

  -- where something is picked the document is valid
  module _ (some : is_some_stored (picked s q) ≡ true) where
    some_asked : asked ≢ []
    some_asked none = false≢true (sym (none_picked c q i along none) ∙ some)

    has_some : HasTurns r
    has_some = elim (turns_decided r) [ inl has ↦ has | inr none ↦ absurd (no_sample none some) ]

    abbrev over_turns : ListingValue
    over_turns =
        let all : List PlannedValue = planned_turns c.referencing i asked r in record { shape = i.grid.shape; parameters = asked; many = not (eqb (length all) 1); coverages = all }

    pub valid_where_some : IsValidDocument (document s q)
    valid_where_some =
        let n : ℕ = length (planned_turns c.referencing i asked r) in
        document_valid i.grid over_turns (document s q)
        (is_listing some_asked has_some over_turns refl refl refl (is_one n) (one_is n)) along.grid.samples
        (document_is some_asked has_some over_turns refl refl refl (is_one n) (one_is n))
