-- How many values and coverages the document of a query has that selects by a test of nodes.
use Rattle.std.proofs.Common.{◌≡◌, ℕ, suc, ◌+◌, ◌*◌, List, [], ◌∷◌, length, ap, ap₂, sym, ◌∙◌, arith, add-zero, sum_by, None}
use Rattle.std.specs.Prelude.{map}
use Rattle.std.specs.List.{range_with_len}
use Rattle.std.proofs.Math.Nat.{mul_assoc}
use Rattle.std.proofs.lemmas.List.{length-map}
use Rattle.std.proofs.lemmas.List.FromFn.{length-range_with_len}
use Rattle.std.proofs.lemmas.List.Sums.{sum_by-cons}
use Rattle.covjson_value.specs.declared.coverages.Parameter.{Parameter}
use Rattle.covjson_value.specs.declared.coverages.NdArray.{NdArray}
use Rattle.covjson_value.specs.declared.coverages.Coverage.{Coverage}
use Rattle.covjson_value.specs.declared.coverages.Document.{Document}
use Rattle.covjson_value.specs.declared.coverages.Document.TheVariants.{One}
use Rattle.covjson_value.specs.Samples.{Node, nodes_of}
use Rattle.edr_chunk.specs.AllPlaces.{at}
use Rattle.edr_edition.specs.Values.{InstanceValue}
use Rattle.edr_edition.specs.Stores.{of_grid, Subject}
use Rattle.edr_query.specs.Values.{QueryValue}
use Rattle.edr_select.specs.Samples.{node_at}
use Rattle.edr_select.specs.Selections.{picked}
use Rattle.edr_select.specs.Heads.{alone, without_id, frame_of, heads_of}
use Rattle.edr_select.specs.Documents.{coverage_over, value_in, parameters_asked, document, values_in}
use Rattle.covjson_value.specs.Coverages.{coverages_in}
use Rattle.edr_select.specs.Stacks.{SidesValue, stack_count}
use Rattle.edr_select.specs.ListLaws.{Member}
use Rattle.edr_select.specs.BoxLaws.{length_boxed}
use Rattle.edr_select.specs.GridLaws.{IsGrid}
use Rattle.edr_select.specs.ParameterLaws.{parameter_at, parameters_are}
use Rattle.edr_lines.specs.Plans.{axes_of, domain_over, stacked_count}
use Rattle.edr_lines.specs.Taken.{counts_of, NodeTest, AreSidesOf}
use Rattle.edr_lines.proofs.TestedPicks.{SelectsBy}
use Rattle.edr_lines.proofs.StackCoverages.{asked_places, nodes_are, document_over_sides}

abbrev range_length : NdArray → ℕ
range_length range = length range.values

abbrev coverage_length : Coverage → ℕ
coverage_length coverage = sum_by range_length coverage.ranges

count_one : (coverage : Coverage) → values_in (One coverage) ≡ coverage_length coverage
count_one coverage = sum_by-cons coverage_length coverage [] ∙ add-zero (coverage_length coverage)

-- ranges of as many values
count_ranges : (range_of : Parameter → NdArray) (n : ℕ) → ((p : Parameter) → range_length (range_of p) ≡ n) → (ps : List Parameter) → sum_by range_length (map range_of ps) ≡ length ps * n
count_ranges range_of n each [] = omega arith
count_ranges range_of n each (p ∷ ps) =
    sum_by-cons range_length (range_of p) (map range_of ps)
    ∙ (ap₂ (λ a b. a + b) (each p) (count_ranges range_of n each ps) ∙ more (length ps) n)
  where
    more : (n k : ℕ) → k + n * k ≡ suc n * k
    more n k = omega arith

module _ (s : Subject) (q : QueryValue) (i : InstanceValue) (held : s.held ≡ of_grid i) (g : IsGrid i) (takes : NodeTest) (selects : SelectsBy s q i takes)
    (sides : SidesValue) (are : AreSidesOf (counts_of (axes_of i)) takes sides) where
  abbrev rows : List ℕ
  rows = range_with_len sides.row sides.rows

  abbrev columns : List ℕ
  columns = range_with_len sides.column sides.columns

  pub count_nodes : length (nodes_of (domain_over i sides)) ≡ stack_count sides
  count_nodes =
      ap (λ (ns : List Node). length ns) (nodes_are s q i held g takes selects sides are)
      ∙ (length_boxed (λ t z y x. node_at i (at 0 t z y x)) sides.times sides.levels rows columns
      ∙ (ap₂ (λ a b. length sides.times * (length sides.levels * (a * b))) (length-range_with_len sides.row sides.rows) (length-range_with_len sides.column sides.columns)
      ∙ sym (mul_assoc (length sides.times) (length sides.levels) (sides.rows * sides.columns))))

  count_asked : length (parameters_asked s q) ≡ length (asked_places q i)
  count_asked = ap (λ (ps : List Parameter). length ps) (parameters_are s q i held) ∙ length-map (asked_places q i) (parameter_at i.parameters)

  abbrev range_of : Parameter → NdArray
  range_of p = record { values = map (value_in (picked s q) None p.id) (nodes_of (domain_over i sides)) }

  module _ (some : Member (asked_places q i)) (heads : heads_of s.held q (picked s q) ≡ alone (without_id (frame_of i (picked s q)))) where
    pub values_are : values_in (document s q) ≡ stacked_count (asked_places q i) sides
    values_are =
        ap values_in (document_over_sides s q i held g takes selects sides are some heads)
        ∙ (count_one (coverage_over s q (picked s q) (without_id (domain_over i sides)))
        ∙ (count_ranges range_of (stack_count sides) (λ p. length-map (nodes_of (domain_over i sides)) (value_in (picked s q) None p.id) ∙ count_nodes) (parameters_asked s q)
        ∙ ap (λ (n : ℕ). n * stack_count sides) count_asked))

    pub coverages_are : length (coverages_in (document s q)) ≡ 1
    coverages_are = ap (λ (d : Document). length (coverages_in d)) (document_over_sides s q i held g takes selects sides are some heads)
