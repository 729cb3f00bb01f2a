-- The document of a query that selects by a test of nodes is one coverage over the stack of these.
use Rattle.std.proofs.Common.{◌≡◌, ℕ, ◌<◌, Bool, true, false, List, length, refl, ap, sym, ◌∙◌, ℤ, None, Contains}
use Rattle.std.specs.declared.option.Option.{Option}
use Rattle.std.specs.Prelude.{map}
use Rattle.std.specs.List.{range_with_len}
use Rattle.covjson_value.specs.declared.domains.Domain.{Domain}
use Rattle.covjson_value.specs.declared.coverages.Parameter.{Parameter}
use Rattle.covjson_value.specs.declared.coverages.NdArray.{NdArray}
use Rattle.covjson_value.specs.declared.coverages.Document.{Document}
use Rattle.covjson_value.specs.declared.coverages.Document.TheVariants.{One}
use Rattle.covjson_value.specs.Samples.{Node, nodes_of}
use Rattle.edr_chunk.specs.AllPlaces.{at}
use Rattle.edr_edition.specs.Values.{InstanceValue}
use Rattle.edr_edition.specs.Stores.{of_grid, Subject}
use Rattle.edr_query.specs.Values.{QueryValue}
use Rattle.edr_select.specs.Samples.{id_at, node_at}
use Rattle.edr_select.specs.Selections.{is_asked, picked}
use Rattle.edr_select.specs.Heads.{alone, without_id, frame_of, heads_of}
use Rattle.edr_select.specs.Documents.{coverage_over, value_in, document, document_over}
use Rattle.edr_select.specs.Choices.{parameter_places}
use Rattle.edr_select.specs.Planned.{head_of, parameters_at}
use Rattle.edr_select.specs.Framings.{cell_value}
use Rattle.edr_select.specs.Stacks.{SidesValue, StackValue, StackingValue, stacked_range, stacked_coverage}
use Rattle.edr_select.specs.ListLaws.{Member, map-map, map_agree_in}
use Rattle.edr_select.specs.KeptLaws.{kept_below, kept_passes}
use Rattle.edr_select.specs.BoxLaws.{boxed, boxed_agree, map_boxed}
use Rattle.edr_select.specs.GridLaws.{IsGrid}
use Rattle.edr_select.specs.ParameterLaws.{parameter_at, same_id, parameters_are}
use Rattle.edr_select.specs.HeadLaws.{coverage_with}
use Rattle.edr_lines.specs.Plans.{axes_of, domain_over}
use Rattle.edr_lines.specs.Taken.{counts_of, NodeTest, AreSidesOf, HasBits}
use Rattle.edr_lines.proofs.TestedPicks.{SelectsBy, value_at_place, absent_at_place}
use Rattle.edr_lines.proofs.TestedFrames.{frame_is}
use Rattle.edr_lines.proofs.StackSides.{IsAmong, among_within, one_level}
use Rattle.edr_lines.proofs.StackCells.{node_if, cell_of, cells_boxed}
use Rattle.edr_lines.proofs.BoxedNodes.{nodes_over}

abbrev range_with : List (Option ℤ) → NdArray
range_with values = record { values = values }

-- the places of the parameters that are asked
abbrev pub asked_places : QueryValue → InstanceValue → List ℕ
asked_places q i = parameter_places q.parameters i.parameters

-- a stacking of the parameters that are asked over a stack
abbrev pub stacking_over : Subject → QueryValue → InstanceValue → StackValue → StackingValue
stacking_over s q i stack = record {
  shape = i.grid.shape;
  parameters = asked_places q i;
  head = head_of s.collection.referencing (parameters_at i.parameters (asked_places q i)) (domain_over i stack.sides);
  stack = stack;
}

-- its document
abbrev pub document_of : Subject → QueryValue → InstanceValue → StackValue → Document
document_of s q i stack = One (stacked_coverage i.grid (stacking_over s q i stack))

-- ---- its domain

module _ (s : Subject) (q : QueryValue) (i : InstanceValue) (held : s.held ≡ of_grid i) (g : IsGrid i) (takes : NodeTest) (selects : SelectsBy s q i takes)
    (sides : SidesValue) (are : AreSidesOf (counts_of (axes_of i)) takes sides) where
  -- all nodes of the sides
  pub nodes_are : nodes_of (domain_over i sides)
      ≡ boxed (λ t z y x. node_at i (at 0 t z y x)) sides.times sides.levels (range_with_len sides.row sides.rows) (range_with_len sides.column sides.columns)
  nodes_are = nodes_over i sides.times sides.levels (range_with_len sides.row sides.rows) (range_with_len sides.column sides.columns) (one_level i g takes sides are)

  -- the document is one coverage over them
  pub document_over_sides : Member (asked_places q i) → heads_of s.held q (picked s q) ≡ alone (without_id (frame_of i (picked s q)))
      → document s q ≡ One (coverage_over s q (picked s q) (without_id (domain_over i sides)))
  document_over_sides some heads =
      ap (document_over (coverage_over s q (picked s q)))
      (heads ∙ ap (λ (d : Domain). alone (without_id d)) (frame_is s q i held g takes selects some sides are))

-- ---- its values

module _ (s : Subject) (q : QueryValue) (i : InstanceValue) (held : s.held ≡ of_grid i) (g : IsGrid i) (takes : NodeTest) (selects : SelectsBy s q i takes)
    (stack : StackValue) (are : AreSidesOf (counts_of (axes_of i)) takes stack.sides) (bits : HasBits takes stack) where
  abbrev domain : Domain
  domain = domain_over i stack.sides

  abbrev times : List ℕ
  times = stack.sides.times

  abbrev levels : List ℕ
  levels = stack.sides.levels

  abbrev rows : List ℕ
  rows = range_with_len stack.sides.row stack.sides.rows

  abbrev columns : List ℕ
  columns = range_with_len stack.sides.column stack.sides.columns

  -- the value at a node
  pub value_at_node : (p t z y x : ℕ) → Contains (asked_places q i) p → IsAmong stack.sides t z y x
      → value_in (picked s q) None (id_at i.parameters p) (node_at i (at 0 t z y x)) ≡ cell_value i.grid p (cell_of takes t z y x)
  value_at_node p t z y x mp m = here (takes t z y x) refl
    where
      below : p < length i.parameters
      below = kept_below (λ k. is_asked q.parameters (id_at i.parameters k)) (length i.parameters) p mp

      here : (b : Bool) → takes t z y x ≡ b → value_in (picked s q) None (id_at i.parameters p) (node_at i (at 0 t z y x)) ≡ cell_value i.grid p (cell_of takes t z y x)
      here true e =
          value_at_place s q i held g takes selects (at p t z y x) (among_within i g takes stack.sides are p t z y x below m)
          (record { asked = kept_passes (λ k. is_asked q.parameters (id_at i.parameters k)) (length i.parameters) p mp; node = e })
          ∙ sym (ap (λ (b : Bool). cell_value i.grid p (node_if t z y x b)) e)
      here false e =
          absent_at_place s q i held g takes selects (at p t z y x) (among_within i g takes stack.sides are p t z y x below m) e
          ∙ sym (ap (λ (b : Bool). cell_value i.grid p (node_if t z y x b)) e)

  abbrev found : ℕ → Node → Option ℤ
  found p = value_in (picked s q) None (id_at i.parameters p)

  abbrev range_of : Parameter → NdArray
  range_of p = range_with (map (value_in (picked s q) None p.id) (nodes_of domain))

  one_range : (p : ℕ) → Contains (asked_places q i) p → range_of (parameter_at i.parameters p) ≡ stacked_range i.grid stack p
  one_range p mp =
      ap range_with
      (ap (λ (id : List ℕ). map (value_in (picked s q) None id) (nodes_of domain)) (same_id i.parameters p)
      ∙ (ap (map (found p)) (nodes_are s q i held g takes selects stack.sides are)
      ∙ (map_boxed (found p) (λ t z y x. node_at i (at 0 t z y x)) times levels rows columns
      ∙ (boxed_agree (λ t z y x. found p (node_at i (at 0 t z y x))) (λ t z y x. cell_value i.grid p (cell_of takes t z y x)) times levels rows columns
      (λ t z y x mt mz my mx. value_at_node p t z y x mp (record { t_in = mt; z_in = mz; y_in = my; x_in = mx }))
      ∙ (sym (map_boxed (cell_value i.grid p) (cell_of takes) times levels rows columns)
      ∙ sym (ap (map (cell_value i.grid p)) (cells_boxed takes stack bits)))))))

  pub coverage_is : coverage_over s q (picked s q) (without_id domain) ≡ stacked_coverage i.grid (stacking_over s q i stack)
  coverage_is =
      ap (λ (ps : List Parameter). coverage_with s domain ps (map range_of ps)) (parameters_are s q i held)
      ∙ ap (coverage_with s domain (parameters_at i.parameters (asked_places q i)))
      (map-map range_of (parameter_at i.parameters) (asked_places q i)
      ∙ map_agree_in (λ p. range_of (parameter_at i.parameters p)) (stacked_range i.grid stack) (asked_places q i) one_range)

  pub document_is : Member (asked_places q i) → heads_of s.held q (picked s q) ≡ alone (without_id (frame_of i (picked s q)))
      → document s q ≡ document_of s q i stack
  document_is some heads = document_over_sides s q i held g takes selects stack.sides are some heads ∙ ap One coverage_is
