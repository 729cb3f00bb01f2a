-- Laws of replies: the documents of listings and of framings are valid, and a frame has as many cells as its sides say.
use Rattle.std.proofs.Common.{◌≡◌, ℕ, ◌*◌, Bool, true, false, List, [], ◌∷◌, length, get_or, All, ℤ, Option, None, Some, refl, ap, sym, ◌∙◌, subst, arith, inl, inr}
use Rattle.std.specs.Prelude.{map, IfSome}
use Rattle.std.proofs.Math.Nat.{mul_assoc}
use Rattle.std.specs.List.{flat_map, range_with_len}
use Rattle.std.proofs.lemmas.Bool.{cases_lt}
use Rattle.std.proofs.lemmas.List.{length-map, get_or_past}
use Rattle.std.proofs.lemmas.List.Elements.{All-nil, All-cons, All-head, All-tail, All-append, All-get_or}
use Rattle.std.proofs.lemmas.List.FromFn.{length-range_with_len}
use Rattle.covjson_value.specs.declared.coverages.NdArray.{NdArray}
use Rattle.covjson_value.specs.declared.coverages.Coverage.{Coverage}
use Rattle.covjson_value.specs.declared.coverages.Document.{Document}
use Rattle.covjson_value.specs.declared.coverages.Document.TheVariants.{One, Many}
use Rattle.edr_base.specs.Limits.{IsSample, AreSamples, HasSample}
use Rattle.covjson_value.specs.Coverages.{IsRange, IsValid, IsValidDocument, coverages_in}
use Rattle.covjson_value.specs.Domains.{count_of}
use Rattle.covjson_write.specs.Pieces.{is_many}
use Rattle.edr_chunk.specs.declared.shapes.GridShape.{GridShape}
use Rattle.edr_chunk.specs.Places.{number}
use Rattle.edr_chunk.specs.Grids as chunk
use Rattle.edr_chunk.specs.Grids.{value}
use Rattle.edr_edition.specs.Values.{InstanceValue}
use Rattle.edr_edition.specs.Instances.{IsInstance, values_of}
use Rattle.edr_select.specs.declared.plans.GridNode.{GridNode}
use Rattle.edr_select.specs.Listings.{PlannedValue, ListingValue, IsPlanned, IsListing, place_at, range_over, coverage_of, document_of, listing_document}
use Rattle.edr_select.specs.Stacks.{StackValue, StackingValue, IsStacking, plane_at, time_at, level_at, cells_of_plane, cells_of_time, stack_cells, stack_count, stacked_range, stacked_coverage}
use Rattle.edr_select.specs.Framings.{FrameValue, FramingValue, IsFraming, cell_at, row_cells, plane_cells, frame_cells, node_count, cell_value, framed_range, framed_coverage}
use Rattle.edr_select.specs.BoxLaws.{length_of_same}

-- ---- validity

pub sample_at : (values : List (Option ℤ)) (n : ℕ) → AreSamples values → IfSome (get_or values n None) IsSample
sample_at values n all = elim (cases_lt n (length values)) [
  | inl inside ↦ All-get_or HasSample values n None inside all
  | inr past ↦ subst HasSample (sym (get_or_past values n None past)) tt
]

samples_at : (grid : chunk.Values) (parameter : ℕ) (cells : List GridNode) → AreSamples grid.values → AreSamples (map (λ cell. value grid (place_at parameter cell)) cells)
samples_at grid parameter [] all = All-nil HasSample
samples_at grid parameter (cell ∷ cells) all =
    All-cons HasSample (value grid (place_at parameter cell)) (map (λ cell. value grid (place_at parameter cell)) cells)
    (sample_at grid.values (number grid.shape (place_at parameter cell)) all) (samples_at grid parameter cells all)

ranges_valid : (grid : chunk.Values) (planned : PlannedValue) (parameters : List ℕ) → AreSamples grid.values → length planned.cells ≡ count_of planned.head.domain
    → All (IsRange planned.head.domain) (map (range_over grid planned.cells) parameters)
ranges_valid grid planned [] all count = All-nil (IsRange planned.head.domain)
ranges_valid grid planned (p ∷ parameters) all count =
    All-cons (IsRange planned.head.domain) (range_over grid planned.cells p) (map (range_over grid planned.cells) parameters)
    (record { count = length-map planned.cells (λ cell. value grid (place_at p cell)) ∙ count; samples = samples_at grid p planned.cells all })
    (ranges_valid grid planned parameters all count)

coverage_valid : (grid : chunk.Values) (shape : GridShape) (parameters : List ℕ) (planned : PlannedValue) → AreSamples grid.values → IsPlanned shape parameters planned
    → IsValid (coverage_of grid parameters planned)
coverage_valid grid shape parameters planned all is =
    let v = is.head.valid in
    record {
      id = v.id;
      axes = v.axes;
      tuples = v.tuples;
      referencing = v.referencing;
      vertical = v.vertical;
      some = v.some;
      parameters = v.parameters;
      ascending = v.ascending;
      as_many = length-map parameters (range_over grid planned.cells) ∙ sym is.as_many;
      ranges = ranges_valid grid planned parameters all (sym is.count);
    }

coverages_valid : (grid : chunk.Values) (shape : GridShape) (parameters : List ℕ) (coverages : List PlannedValue) → AreSamples grid.values → All (IsPlanned shape parameters) coverages
    → All IsValid (map (coverage_of grid parameters) coverages)
coverages_valid grid shape parameters [] all are = All-nil IsValid
coverages_valid grid shape parameters (planned ∷ coverages) all are =
    All-cons IsValid (coverage_of grid parameters planned) (map (coverage_of grid parameters) coverages)
    (coverage_valid grid shape parameters planned all (All-head (IsPlanned shape parameters) planned coverages are))
    (coverages_valid grid shape parameters coverages all (All-tail (IsPlanned shape parameters) planned coverages are))

ranges_samples : (domain_is : NdArray → Type 0) (ranges : List NdArray) → ((range : NdArray) → domain_is range → AreSamples range.values) → All domain_is ranges → AreSamples (values_of ranges)
ranges_samples domain_is [] each all = All-nil HasSample
ranges_samples domain_is (range ∷ ranges) each all =
    All-append HasSample range.values (values_of ranges) (each range (All-head domain_is range ranges all)) (ranges_samples domain_is ranges each (All-tail domain_is range ranges all))

-- the values of an instance are samples
pub instance_samples : (instance : InstanceValue) → IsInstance instance → AreSamples instance.grid.values
instance_samples instance is =
    subst (λ (i : InstanceValue). AreSamples i.grid.values) (sym is.is)
    (ranges_samples (IsRange is.coverage.domain) is.coverage.ranges (λ range r. r.samples) is.grid.valid.ranges)

-- ---- the document of a listing

pub record Told (many : Bool) (coverages : List Coverage) (d : Document) : Type 0 where
  pub many_is : is_many d ≡ many
  pub coverages_is : coverages_in d ≡ coverages
  pub valid : All IsValid coverages → IsValidDocument d

pub told_by : (many : Bool) (coverages : List Coverage) (d : Document) → (many ≡ false → length coverages ≡ 1) → document_of many coverages ≡ Some d → Told many coverages d
told_by true coverages d one e = subst (λ (d : Document). Told true coverages d) (some_is e) (record { many_is = refl; coverages_is = refl; valid = λ all. all })
  where
    some_is : {d : Document} → Some (Many coverages) ≡ Some d → Many coverages ≡ d
    some_is e = grind (arith, e)
told_by false [] d one e = absurd (omega (arith, one refl))
told_by false (coverage ∷ []) d one e = subst (λ (d : Document). Told false (coverage ∷ []) d) (some_is e) (record { many_is = refl; coverages_is = refl; valid = λ all. All-head IsValid coverage [] all })
  where
    some_is : {d : Document} → Some (One coverage) ≡ Some d → One coverage ≡ d
    some_is e = grind (arith, e)
told_by false (coverage ∷ (other ∷ coverages)) d one e = absurd (omega (arith, one refl))

-- that of a listing over a grid
pub told_of : (grid : chunk.Values) (plan : ListingValue) (d : Document) → IsListing plan → listing_document grid plan ≡ Some d → Told plan.many (map (coverage_of grid plan.parameters) plan.coverages) d
told_of grid plan d is f =
    told_by plan.many (map (coverage_of grid plan.parameters) plan.coverages) d (λ one. length-map plan.coverages (coverage_of grid plan.parameters) ∙ is.alone one) f

-- the listing's document is valid
pub document_valid : (grid : chunk.Values) (plan : ListingValue) (d : Document) → IsListing plan → AreSamples grid.values → listing_document grid plan ≡ Some d → IsValidDocument d
document_valid grid plan d is samples f =
    let told = told_of grid plan d is f in told.valid (coverages_valid grid plan.shape plan.parameters plan.coverages samples is.coverages)

-- ---- how many cells there are
row_count : (frame : FrameValue) (t z y : ℕ) → length (row_cells frame t z y) ≡ frame.columns
row_count frame t z y = length-map (range_with_len frame.column frame.columns) (cell_at frame t z y) ∙ length-range_with_len frame.column frame.columns

plane_count : (frame : FrameValue) (t z : ℕ) → length (plane_cells frame t z) ≡ frame.rows * frame.columns
plane_count frame t z =
    length_of_same (row_cells frame t z) frame.columns (row_count frame t z) (range_with_len frame.row frame.rows) ∙ ap (λ (n : ℕ). n * frame.columns) (length-range_with_len frame.row frame.rows)

pub cells_count : (frame : FrameValue) → length (frame_cells frame) ≡ node_count frame
cells_count frame =
    length_of_same (λ t. flat_map (plane_cells frame t) frame.levels) (length frame.levels * (frame.rows * frame.columns))
    (λ t. length_of_same (plane_cells frame t) (frame.rows * frame.columns) (plane_count frame t) frame.levels) frame.times

cells_of_plane_count : (stack : StackValue) (i j : ℕ) → length (cells_of_plane stack i j) ≡ stack.sides.rows * stack.sides.columns
cells_of_plane_count stack i j = plane_count (plane_at stack i j) (time_at stack.sides i) (level_at stack.sides j)

cells_of_time_count : (stack : StackValue) (i : ℕ) → length (cells_of_time stack i) ≡ length stack.sides.levels * (stack.sides.rows * stack.sides.columns)
cells_of_time_count stack i =
    length_of_same (cells_of_plane stack i) (stack.sides.rows * stack.sides.columns) (cells_of_plane_count stack i) (range_with_len 0 (length stack.sides.levels))
    ∙ ap (λ (n : ℕ). n * (stack.sides.rows * stack.sides.columns)) (length-range_with_len 0 (length stack.sides.levels))

-- how many cells a stack has
pub stack_cells_count : (stack : StackValue) → length (stack_cells stack) ≡ stack_count stack.sides
stack_cells_count stack =
    length_of_same (cells_of_time stack) (length stack.sides.levels * (stack.sides.rows * stack.sides.columns)) (cells_of_time_count stack) (range_with_len 0 (length stack.sides.times))
    ∙ (ap (λ (n : ℕ). n * (length stack.sides.levels * (stack.sides.rows * stack.sides.columns))) (length-range_with_len 0 (length stack.sides.times))
    ∙ sym (mul_assoc (length stack.sides.times) (length stack.sides.levels) (stack.sides.rows * stack.sides.columns)))

-- ---- the document of a framing

samples_in : (grid : chunk.Values) (p : ℕ) (cells : List (Option GridNode)) → AreSamples grid.values → AreSamples (map (cell_value grid p) cells)
samples_in grid p [] all = All-nil HasSample
samples_in grid p (None ∷ cells) all = All-cons HasSample None (map (cell_value grid p) cells) tt (samples_in grid p cells all)
samples_in grid p (Some cell ∷ cells) all =
    All-cons HasSample (cell_value grid p (Some cell)) (map (cell_value grid p) cells) (sample_at grid.values (number grid.shape (place_at p cell)) all) (samples_in grid p cells all)

framed_ranges_valid : (grid : chunk.Values) (framing : FramingValue) (ps : List ℕ) → IsFraming framing → AreSamples grid.values → All (IsRange framing.head.domain) (map (framed_range grid framing.frame) ps)
framed_ranges_valid grid framing [] is all = All-nil (IsRange framing.head.domain)
framed_ranges_valid grid framing (p ∷ ps) is all =
    All-cons (IsRange framing.head.domain) (framed_range grid framing.frame p) (map (framed_range grid framing.frame) ps)
    (record {
      count = length-map (frame_cells framing.frame) (cell_value grid p) ∙ cells_count framing.frame ∙ sym is.count;
      samples = samples_in grid p (frame_cells framing.frame) all;
    })
    (framed_ranges_valid grid framing ps is all)

-- the coverage over a frame is valid
pub framed_valid : (grid : chunk.Values) (framing : FramingValue) → IsFraming framing → AreSamples grid.values → IsValid (framed_coverage grid framing)
framed_valid grid framing is all =
    let v = is.head.valid in
    record {
      id = v.id;
      axes = v.axes;
      tuples = v.tuples;
      referencing = v.referencing;
      vertical = v.vertical;
      some = v.some;
      parameters = v.parameters;
      ascending = v.ascending;
      as_many = length-map framing.parameters (framed_range grid framing.frame) ∙ sym is.as_many;
      ranges = framed_ranges_valid grid framing framing.parameters is all;
    }

-- ---- the document of a stacking

stacked_ranges_valid : (grid : chunk.Values) (stacking : StackingValue) (ps : List ℕ) → IsStacking stacking → AreSamples grid.values
    → All (IsRange stacking.head.domain) (map (stacked_range grid stacking.stack) ps)
stacked_ranges_valid grid stacking [] is all = All-nil (IsRange stacking.head.domain)
stacked_ranges_valid grid stacking (p ∷ ps) is all =
    All-cons (IsRange stacking.head.domain) (stacked_range grid stacking.stack p) (map (stacked_range grid stacking.stack) ps)
    (record {
      count = length-map (stack_cells stacking.stack) (cell_value grid p) ∙ stack_cells_count stacking.stack ∙ sym is.count;
      samples = samples_in grid p (stack_cells stacking.stack) all;
    })
    (stacked_ranges_valid grid stacking ps is all)

-- the coverage over a stack is valid
pub stacked_valid : (grid : chunk.Values) (stacking : StackingValue) → IsStacking stacking → AreSamples grid.values → IsValid (stacked_coverage grid stacking)
stacked_valid grid stacking is all =
    let v = is.head.valid in
    record {
      id = v.id;
      axes = v.axes;
      tuples = v.tuples;
      referencing = v.referencing;
      vertical = v.vertical;
      some = v.some;
      parameters = v.parameters;
      ascending = v.ascending;
      as_many = length-map stacking.parameters (stacked_range grid stacking.stack) ∙ sym is.as_many;
      ranges = stacked_ranges_valid grid stacking stacking.parameters is all;
    }
