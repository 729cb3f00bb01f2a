-- The refusals of a query of an area, and the plan that stands for it.
use Rattle.std.proofs.Common.{◌≡◌, ◌≢◌, ℕ, ◌*◌, ◌<◌, ◌≤◌, ◌||◌, Bool, true, false, List, [], length, Some, refl, ap, ap₂, sym, ◌∙◌, subst, mod-lt, All}
use Rattle.std.specs.Prelude.{◌↔◌, IsTrue, nat_lt}
use Rattle.std.proofs.lemmas.Bool.{false≢true}
use Rattle.std.proofs.lemmas.Nat.{div_below}
use Rattle.edr_base.specs.declared.refusals.Refusal.TheVariants.{NoSamples, TooLarge}
use Rattle.covjson_value.specs.declared.coverages.Coverage.{Coverage}
use Rattle.covjson_value.specs.Coverages.{IsValidDocument, coverages_in}
use Rattle.edr_chunk.specs.declared.shapes.GridShape.{GridShape}
use Rattle.edr_edition.specs.Values.{InstanceValue, CollectionValue}
use Rattle.edr_edition.specs.Stores.{Subject}
use Rattle.edr_query.specs.Values.{QueryValue}
use Rattle.edr_select.specs.declared.plans.Reply.TheVariants.{Framed}
use Rattle.edr_select.specs.Limits.{value_limit, coverage_limit}
use Rattle.edr_select.specs.Documents.{document, values_in}
use Rattle.edr_select.specs.Checks.{refused_query, grid_of}
use Rattle.edr_select.specs.Choices.{takes_node, chosen, IsSome, parameter_places, time_places, level_places, row_of, column_of}
use Rattle.edr_select.specs.Planned.{head_of, parameters_at}
use Rattle.edr_select.specs.Framings.{FrameValue, FramingValue, IsFrame, IsFraming}
use Rattle.edr_select.specs.Masks.{IsArea, NoneTaken, MaskValue, IsMask, frame_at}
use Rattle.edr_select.specs.Wanted.{levels_asked}
use Rattle.edr_select.specs.Plans.{IsReplyTo}
use Rattle.edr_select.specs.Steps.{IsAsked, refused_sizes}
use Rattle.edr_select.specs.AreaPlans.{domain_over, TakesSome, HasNodes, framed_count, IsFramed, IsFramingIn}
use Rattle.edr_select.specs.ListLaws.{some_member}
use Rattle.edr_select.specs.KeptLaws.{kept_below, kept_passes}
use Rattle.edr_select.specs.GridLaws.{IsGrid}
use Rattle.edr_select.proofs.Instances.{grid_from}
use Rattle.edr_select.proofs.ChosenLaws as laws
use Rattle.edr_select.proofs.PlanSteps.{refused_samples, known_samples, refused_size, known_size}
use Rattle.edr_select.proofs.PlanForms.{all_from_members}
use Rattle.edr_select.proofs.FrameMasks.{mask_of}
use Rattle.edr_select.proofs.FrameValues.{some_spots, no_spots}
use Rattle.edr_select.proofs.FrameCoverages as coverages
use Rattle.edr_select.proofs.FrameCounts as counts
use Rattle.edr_select.proofs.FrameChunks.{frame_chunks}
use Rattle.edr_select.proofs.FrameValid as valid
use Rattle.edr_select.specs.ReplyLaws.{framed_valid}

or_false : (b : Bool) → (b || false) ≡ b
or_false true = refl
or_false false = refl

abbrev as_framing : GridShape → List ℕ → Coverage → FrameValue → FramingValue
as_framing shape parameters head frame = record { shape = shape; parameters = parameters; head = head; frame = frame }

module _ (c : CollectionValue) (q : QueryValue) (i : InstanceValue) (asked : IsAsked c q i) where
  abbrev s : Subject
  s = grid_of c i

  g : IsGrid i
  g = grid_from i asked.grid

  -- ---- no samples

  pub refused_nodes : NoneTaken i q.shape → refused_sizes q s ≡ Some NoSamples
  refused_nodes none = refused_samples c q i asked (λ some. some.spots (no_spots i q.shape g none))

  -- ---- what is taken

  module _ (parameters times levels : List ℕ) (are : parameters ≡ parameter_places q.parameters i.parameters)
      (times_are : times ≡ time_places q.times i.ts) (levels_are : levels ≡ level_places (levels_asked q) i.zs) where
    takes_some : IsSome (chosen i q) → TakesSome parameters times levels
    takes_some some = record {
      parameters_some = subst (λ (ps : List ℕ). ps ≢ []) (sym are) some.parameters;
      times_some = subst (λ (ts : List ℕ). ts ≢ []) (sym times_are) some.times;
      levels_some = subst (λ (zs : List ℕ). zs ≢ []) (sym levels_are) some.levels;
    }

    pub refused_some : (b : Bool) → b ≡ false → (IsTrue b ↔ TakesSome parameters times levels) → refused_sizes q s ≡ Some NoSamples
    refused_some b e test = refused_samples c q i asked (λ some. false≢true (sym e ∙ test.1 (takes_some some)))

    some_taken : TakesSome parameters times levels → (mask : MaskValue) → IsMask i q.shape mask → IsSome (chosen i q)
    some_taken some mask m = record {
      parameters = subst (λ (ps : List ℕ). ps ≢ []) are some.parameters_some;
      times = subst (λ (ts : List ℕ). ts ≢ []) times_are some.times_some;
      levels = subst (λ (zs : List ℕ). zs ≢ []) levels_are some.levels_some;
      spots = some_spots i q asked.each g mask m;
    }

    pub framed : (b : Bool) → b ≡ true → (IsTrue b ↔ TakesSome parameters times levels) → (mask : MaskValue) → IsMask i q.shape mask
        → refused_query c q ≡ refused_sizes q s → IsFramed c q i parameters (frame_at times levels mask)
    framed b e test mask m left =
        let some = some_taken (test.0 e) mask m in
        record {
          parameters_are = are;
          frame_is = record { mask = mask; is_mask = m; is = ap₂ (λ (ts zs : List ℕ). frame_at ts zs mask) times_are levels_are };
          some = some;
          refused_is = left ∙ known_samples c q i asked some;
        }

  -- ---- the document

  abbrev mask_framing : (mask : MaskValue) → IsMask i q.shape mask → IsSome (chosen i q) → FramingValue
  mask_framing mask m some = coverages.framing s q i refl asked.each g mask m some

  document_valid : (mask : MaskValue) → IsMask i q.shape mask → IsSome (chosen i q) → IsArea q.shape → IsValidDocument (document s q)
  document_valid mask m some area =
      subst IsValidDocument (sym (coverages.document_is s q i refl asked.each g mask m some area))
      (framed_valid i.grid (mask_framing mask m some) (valid.framing_is s q i asked.each asked.grid asked.is_collection.referencing mask m some) asked.grid.samples)

  -- the document of what is taken is valid
  pub area_valid : IsArea q.shape → IsSome (chosen i q) → IsValidDocument (document s q)
  area_valid area some =
      let spot = some_member (chosen i q).spots some.spots in
      let below : spot.item < length i.ys * length i.xs =
      kept_below (λ n. takes_node i q.shape (row_of i.xs n) (column_of i.xs n)) (length i.ys * length i.xs) spot.item spot.among in
      let m = mask_of i q.shape (row_of i.xs spot.item) (column_of i.xs spot.item) (div_below spot.item (length i.xs) (length i.ys) g.xs.some below) (mod-lt spot.item g.xs.some)
      (kept_passes (λ n. takes_node i q.shape (row_of i.xs n) (column_of i.xs n)) (length i.ys * length i.xs) spot.item spot.among) in
      document_valid m.0 m.1 some area

  -- ---- the plan

  module _ (area : IsArea q.shape) (parameters : List ℕ) (frame : FrameValue) (made : IsFramed c q i parameters frame) where
    abbrev mask : MaskValue
    mask = made.frame_is.mask

    abbrev m : IsMask i q.shape mask
    m = made.frame_is.is_mask

    pub takes : TakesSome parameters frame.times frame.levels
    takes =
        takes_some parameters frame.times frame.levels made.parameters_are (ap (λ (f : FrameValue). f.times) made.frame_is.is)
        (ap (λ (f : FrameValue). f.levels) made.frame_is.is) made.some

    pub has_nodes : HasNodes frame
    has_nodes = record {
      times = takes.times_some;
      levels = takes.levels_some;
      rows = subst (λ (f : FrameValue). 1 ≤ f.rows) (sym made.frame_is.is) m.some_rows;
      columns = subst (λ (f : FrameValue). 1 ≤ f.columns) (sym made.frame_is.is) m.some_columns;
    }

    pub frame_inside : IsFrame i.grid.shape frame
    frame_inside =
        subst (IsFrame i.grid.shape) (sym made.frame_is.is) (valid.frame_is s q i asked.each asked.grid asked.is_collection.referencing mask m made.some)

    pub parameters_inside : All (λ p. p < length i.parameters) parameters
    parameters_inside =
        subst (λ (ps : List ℕ). All (λ p. p < length i.parameters) ps) (sym made.parameters_are)
        (all_from_members (λ p. p < length i.parameters) (chosen i q).parameters (laws.parameter_below i q asked.each g))

    -- ---- sizes

    size_is : (nat_lt value_limit (values_in (document s q)) || nat_lt coverage_limit (length (coverages_in (document s q))))
        ≡ nat_lt value_limit (framed_count parameters frame)
    size_is =
        ap₂ (λ values covs. nat_lt value_limit values || nat_lt coverage_limit covs)
        (counts.values_are s q i refl asked.each g mask m made.some area
        ∙ ap₂ (λ ps f. framed_count ps f) (sym made.parameters_are) (sym made.frame_is.is))
        (counts.coverages_are s q i refl asked.each g mask m made.some area)
        ∙ or_false (nat_lt value_limit (framed_count parameters frame))

    pub too_large : nat_lt value_limit (framed_count parameters frame) ≡ true → refused_query c q ≡ Some TooLarge
    too_large large = made.refused_is ∙ refused_size c q i asked (size_is ∙ large)

    -- ---- framings

    abbrev head : Coverage
    head = head_of c.referencing (parameters_at i.parameters parameters) (domain_over i frame)

    same_framing : as_framing i.grid.shape parameters head frame ≡ mask_framing mask m made.some
    same_framing =
        ap₂ (λ (ps : List ℕ) (f : FrameValue). as_framing i.grid.shape ps (head_of c.referencing (parameters_at i.parameters ps) (domain_over i f)) f)
        made.parameters_are made.frame_is.is

    framing_is : IsFraming (as_framing i.grid.shape parameters head frame)
    framing_is = subst IsFraming (sym same_framing) (valid.framing_is s q i asked.each asked.grid asked.is_collection.referencing mask m made.some)

    reply_is : IsReplyTo (Framed (as_framing i.grid.shape parameters head frame)) q s
    reply_is =
        subst (λ (f : FramingValue). IsReplyTo (Framed f) q s) (sym same_framing) (record {
          instance = i;
          held = refl;
          shape = refl;
          document = ap Some (sym (coverages.document_is s q i refl asked.each g mask m made.some area));
          chunks = frame_chunks i q asked.each g mask m s refl;
        })

    -- no refusal is left where the reply isn't too large
    plan_made : nat_lt value_limit (framed_count parameters frame) ≡ false
        → IsFramingIn c q i (as_framing i.grid.shape parameters head frame)
    plan_made fits = record {
      none = made.refused_is ∙ known_size c q i asked (size_is ∙ fits);
      query_is = refl;
      valid = document_valid mask m made.some area;
      stands = reply_is;
    }

    -- a framing with these parts

    module _ (shape : GridShape) (places : List ℕ) (whole : Coverage) (shape_is : shape ≡ i.grid.shape) (places_are : places ≡ parameters) (whole_is : whole ≡ head) where
      parts : as_framing shape places whole frame ≡ as_framing i.grid.shape parameters head frame
      parts =
          ap (λ (d : GridShape). as_framing d places whole frame) shape_is
          ∙ ap₂ (λ (ps : List ℕ) (h : Coverage). as_framing i.grid.shape ps h frame) places_are whole_is

      pub framing_valid : IsFraming (as_framing shape places whole frame)
      framing_valid = subst IsFraming (sym parts) framing_is

      pub framing_in : nat_lt value_limit (framed_count parameters frame) ≡ false → IsFramingIn c q i (as_framing shape places whole frame)
      framing_in fits = subst (IsFramingIn c q i) (sym parts) (plan_made fits)
