-- How many values and coverages the document of a query of an area has.
use Rattle.std.proofs.Common.{◌≡◌, ℕ, suc, ◌+◌, ◌*◌, List, [], ◌∷◌, length, ap, ap₂, ◌∙◌, arith, add-zero, sum_by}
use Rattle.std.specs.Prelude.{map}
use Rattle.std.specs.List.{range_with_len}
use Rattle.std.proofs.lemmas.List.{length-map}
use Rattle.std.proofs.lemmas.List.FromFn.{length-range_with_len}
use Rattle.std.proofs.lemmas.List.Sums.{sum_by-cons}
use Rattle.covjson_value.specs.declared.coverages.NdArray.{NdArray}
use Rattle.covjson_value.specs.declared.coverages.Coverage.{Coverage}
use Rattle.covjson_value.specs.declared.coverages.Document.{Document}
use Rattle.covjson_value.specs.declared.coverages.Document.TheVariants.{One}
use Rattle.edr_chunk.specs.Grids as chunk
use Rattle.edr_edition.specs.Values.{InstanceValue}
use Rattle.edr_edition.specs.Stores.{of_grid, Subject}
use Rattle.edr_query.specs.Values.{QueryValue}
use Rattle.edr_select.specs.Documents.{document, values_in}
use Rattle.covjson_value.specs.Coverages.{coverages_in}
use Rattle.edr_select.specs.Choices.{TakesEach, Chosen, chosen, IsSome}
use Rattle.edr_select.specs.Framings.{FrameValue, cell_at, cell_value, frame_cells, framed_range, framed_coverage, node_count}
use Rattle.edr_select.specs.Masks.{IsArea, MaskValue, IsMask, frame_with}
use Rattle.edr_select.specs.AreaPlans.{framed_count}
use Rattle.edr_select.specs.BoxLaws.{length_boxed}
use Rattle.edr_select.specs.GridLaws.{IsGrid}
use Rattle.edr_select.proofs.FrameCoverages.{framing, document_is}

abbrev range_length : NdArray → ℕ
range_length range = length range.values

abbrev coverage_length : Coverage → ℕ
coverage_length coverage = sum_by range_length coverage.ranges

-- the nodes of a frame
pub count_cells : (frame : FrameValue) → length (frame_cells frame) ≡ node_count frame
count_cells frame =
    length_boxed (cell_at frame) frame.times frame.levels (range_with_len frame.row frame.rows) (range_with_len frame.column frame.columns)
    ∙ ap₂ (λ a b. length frame.times * (length frame.levels * (a * b))) (length-range_with_len frame.row frame.rows) (length-range_with_len frame.column frame.columns)

-- the values of one range
pub count_range : (grid : chunk.Values) (frame : FrameValue) (p : ℕ) → length (framed_range grid frame p).values ≡ node_count frame
count_range grid frame p = length-map (frame_cells frame) (cell_value grid p) ∙ count_cells frame

count_ranges : (grid : chunk.Values) (frame : FrameValue) (ps : List ℕ) → sum_by range_length (map (framed_range grid frame) ps) ≡ framed_count ps frame
count_ranges grid frame [] = omega arith
count_ranges grid frame (p ∷ ps) =
    sum_by-cons range_length (framed_range grid frame p) (map (framed_range grid frame) ps)
    ∙ (ap₂ (λ a b. a + b) (count_range grid frame p) (count_ranges grid frame ps) ∙ more (length ps) (node_count frame))
  where
    more : (n k : ℕ) → k + n * k ≡ suc n * k
    more n k = omega arith

count_one : (coverage : Coverage) → values_in (One coverage) ≡ coverage_length coverage
count_one coverage = sum_by-cons coverage_length coverage [] ∙ add-zero (coverage_length coverage)

module _ (s : Subject) (q : QueryValue) (i : InstanceValue) (held : s.held ≡ of_grid i) (each : TakesEach q.shape) (g : IsGrid i) (mask : MaskValue) (m : IsMask i q.shape mask)
    (some : IsSome (chosen i q)) (area : IsArea q.shape) where
  abbrev c : Chosen
  c = chosen i q

  pub values_are : values_in (document s q) ≡ framed_count c.parameters (frame_with i q mask)
  values_are =
      ap values_in (document_is s q i held each g mask m some area)
      ∙ (count_one (framed_coverage i.grid (framing s q i held each g mask m some)) ∙ count_ranges i.grid (frame_with i q mask) c.parameters)

  pub coverages_are : length (coverages_in (document s q)) ≡ 1
  coverages_are = ap (λ (d : Document). length (coverages_in d)) (document_is s q i held each g mask m some area)
