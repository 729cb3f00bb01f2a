-- The document of a query of an area is one coverage over a frame.
use Rattle.std.proofs.Common.{◌≡◌, ℕ, List, ap, sym, ◌∙◌, Contains, Option, None, Some, ℤ}
use Rattle.std.specs.Prelude.{map, option_map}
use Rattle.std.specs.List.{flat_map, range_with_len}
use Rattle.std.proofs.lemmas.List.Folds.{flat_map-map}
use Rattle.edr_axes.specs.Axes.{value_at}
use Rattle.covjson_value.specs.declared.domains.Domain.{Domain}
use Rattle.covjson_value.specs.declared.coverages.Parameter.{Parameter}
use Rattle.covjson_value.specs.declared.coverages.NdArray.{NdArray}
use Rattle.covjson_value.specs.declared.coverages.Document.TheVariants.{One}
use Rattle.covjson_value.specs.Samples.{Node, node, nodes_of, values_or_absent}
use Rattle.edr_chunk.specs.AllPlaces.{at}
use Rattle.edr_edition.specs.Values.{InstanceValue}
use Rattle.edr_edition.specs.Stores.{of_grid, Subject}
use Rattle.edr_query.specs.Values.{QueryValue}
use Rattle.edr_select.specs.Samples.{Stored, id_at, node_at}
use Rattle.edr_select.specs.Wanted.{levels_asked}
use Rattle.edr_select.specs.Selections.{picked}
use Rattle.edr_select.specs.Heads.{without_id}
use Rattle.edr_select.specs.Documents.{coverage_over, value_in, document, document_over}
use Rattle.edr_select.specs.Choices.{TakesEach, Chosen, chosen, IsSome}
use Rattle.edr_corridor.specs.Boxes.{level_at}
use Rattle.edr_select.specs.Framings.{FrameValue, FramingValue, cell_at, cell_value, framed_range, framed_coverage}
use Rattle.edr_select.specs.Masks.{IsArea, MaskValue, IsMask, frame_with}
use Rattle.edr_select.specs.AreaPlans.{domain_over}
use Rattle.edr_select.specs.ListLaws.{flat_map_agree, map-map, map_agree_in}
use Rattle.edr_select.specs.BoxLaws.{rows_of, planes_of, boxed, boxed_agree, map_boxed}
use Rattle.edr_select.specs.GridLaws.{IsGrid}
use Rattle.edr_select.proofs.Picks.{picks_at, picked_is}
use Rattle.edr_select.specs.NodeLaws.{one_level, levels_shown}
use Rattle.edr_select.specs.ParameterLaws.{parameter_at, same_id, parameters_are}
use Rattle.edr_select.specs.HeadLaws.{coverage_with}
use Rattle.edr_select.proofs.Coverages.{chosen_parameters, head_over}
use Rattle.edr_select.proofs.FrameValues.{value_at_node}
use Rattle.edr_select.proofs.FrameHeads.{heads_are}

-- the nodes along axes, by their places
nodes_boxed : (tv zv : ℕ → Option ℤ) (yv xv : ℕ → ℤ) (ts zs ys xs : List ℕ)
    → flat_map (λ t. flat_map (λ z. flat_map (λ y. map (λ x. node t z y x) (map xv xs)) (map yv ys)) (map zv zs)) (map tv ts)
    ≡ boxed (λ t z y x. node (tv t) (zv z) (yv y) (xv x)) ts zs ys xs
nodes_boxed tv zv yv xv ts zs ys xs =
    flat_map-map (λ t. flat_map (λ z. flat_map (λ y. map (λ x. node t z y x) (map xv xs)) (map yv ys)) (map zv zs)) tv ts
    ∙ flat_map_agree (λ t. flat_map (λ z. flat_map (λ y. map (λ x. node (tv t) z y x) (map xv xs)) (map yv ys)) (map zv zs))
    (λ t. planes_of (λ z y x. node (tv t) (zv z) (yv y) (xv x)) zs ys xs) (λ t. planes t) ts
  where
    rows : (t z : ℕ) → flat_map (λ y. map (λ x. node (tv t) (zv z) y x) (map xv xs)) (map yv ys) ≡ rows_of (λ y x. node (tv t) (zv z) (yv y) (xv x)) ys xs
    rows t z =
        flat_map-map (λ y. map (λ x. node (tv t) (zv z) y x) (map xv xs)) yv ys
        ∙ flat_map_agree (λ y. map (λ x. node (tv t) (zv z) (yv y) x) (map xv xs)) (λ y. map (λ x. node (tv t) (zv z) (yv y) (xv x)) xs)
        (λ y. map-map (λ x. node (tv t) (zv z) (yv y) x) xv xs) ys

    planes : (t : ℕ) → flat_map (λ z. flat_map (λ y. map (λ x. node (tv t) z y x) (map xv xs)) (map yv ys)) (map zv zs) ≡ planes_of (λ z y x. node (tv t) (zv z) (yv y) (xv x)) zs ys xs
    planes t =
        flat_map-map (λ z. flat_map (λ y. map (λ x. node (tv t) z y x) (map xv xs)) (map yv ys)) zv zs
        ∙ flat_map_agree (λ z. flat_map (λ y. map (λ x. node (tv t) (zv z) y x) (map xv xs)) (map yv ys)) (λ z. rows_of (λ y x. node (tv t) (zv z) (yv y) (xv x)) ys xs)
        (rows t) zs

-- the coverages over a domain, by their values
abbrev range_with : List (Option ℤ) → NdArray
range_with values = record { values = values }

module _ (s : Subject) (q : QueryValue) (i : InstanceValue) (held : s.held ≡ of_grid i) (each : TakesEach q.shape) (g : IsGrid i) (mask : MaskValue) (m : IsMask i q.shape mask)
    (some : IsSome (chosen i q)) where
  abbrev c : Chosen
  c = chosen i q

  abbrev frame : FrameValue
  frame = frame_with i q mask

  abbrev domain : Domain
  domain = domain_over i frame

  abbrev rows : List ℕ
  rows = range_with_len mask.row mask.rows

  abbrev columns : List ℕ
  columns = range_with_len mask.column mask.columns

  -- all nodes of the frame
  pub nodes_are : nodes_of domain ≡ boxed (λ t z y x. node_at i (at 0 t z y x)) c.times c.levels rows columns
  nodes_are =
      ap (λ (ts : List (Option ℤ)). flat_map (λ t. flat_map (λ z. flat_map (λ y. map (λ x. node t z y x) (map (value_at i.xs) columns)) (map (value_at i.ys) rows))
      (values_or_absent (option_map (λ values. map (value_at values) c.levels) i.zs))) ts) (map-map Some (value_at i.ts) c.times)
      ∙ (ap (λ (zs : List (Option ℤ)). flat_map (λ t. flat_map (λ z. flat_map (λ y. map (λ x. node t z y x) (map (value_at i.xs) columns)) (map (value_at i.ys) rows)) zs)
      (map (λ t. Some (value_at i.ts t)) c.times)) (levels_shown i.zs c.levels (λ none. one_level (levels_asked q) i.zs none some.levels))
      ∙ nodes_boxed (λ t. Some (value_at i.ts t)) (level_at i.zs) (value_at i.ys) (value_at i.xs) c.times c.levels rows columns)

  abbrev found : ℕ → Node → Option ℤ
  found p = value_in (picks_at i q) None (id_at i.parameters p)

  abbrev range_of : Parameter → NdArray
  range_of p = range_with (map (value_in (picks_at i q) None p.id) (nodes_of domain))

  one_range : (p : ℕ) → Contains c.parameters p → range_of (parameter_at i.parameters p) ≡ framed_range i.grid frame p
  one_range p mp =
      ap range_with
      (ap (λ (id : List ℕ). map (value_in (picks_at i q) None id) (nodes_of domain)) (same_id i.parameters p)
      ∙ (ap (map (found p)) nodes_are
      ∙ (map_boxed (found p) (λ t z y x. node_at i (at 0 t z y x)) c.times c.levels rows columns
      ∙ (boxed_agree (λ t z y x. found p (node_at i (at 0 t z y x))) (λ t z y x. cell_value i.grid p (cell_at frame t z y x)) c.times c.levels rows columns
      (λ t z y x mt mz my mx. value_at_node i q each g mask m p t z y x mp mt mz my mx)
      ∙ sym (map_boxed (cell_value i.grid p) (cell_at frame) c.times c.levels rows columns)))))

  -- a framing of what the query takes
  abbrev pub framing : FramingValue
  framing = record { shape = i.grid.shape; parameters = c.parameters; head = head_over s i c domain; frame = frame }

  pub coverage_is : coverage_over s q (picked s q) (without_id domain) ≡ framed_coverage i.grid framing
  coverage_is =
      ap (λ (picks : List Stored). coverage_over s q picks (without_id domain)) (picked_is s q i held each)
      ∙ (ap (λ (ps : List Parameter). coverage_with s domain ps (map range_of ps)) (parameters_are s q i held)
      ∙ ap (coverage_with s domain (chosen_parameters i c))
      (map-map range_of (parameter_at i.parameters) c.parameters
      ∙ map_agree_in (λ p. range_of (parameter_at i.parameters p)) (framed_range i.grid frame) c.parameters one_range))

  pub document_is : IsArea q.shape → document s q ≡ One (framed_coverage i.grid framing)
  document_is area = ap (document_over (coverage_over s q (picked s q))) (heads_are i q each g mask m some s held area) ∙ ap One coverage_is
