-- The refusals of a corridor of a grid, and the plan that stands for it.
use Rattle.std.proofs.Common.{ℤ, ◌≡◌, ◌≢◌, ℕ, Bool, true, false, List, [], length, refl, ap, ap₂, sym, ◌∙◌, subst, arith, Some}
use Rattle.std.specs.declared.option.Option.{Option}
use Rattle.std.specs.Prelude.{◌||◌, nat_lt}
use Rattle.std.proofs.lemmas.Bool.{false≢true, false_from_ne_true}
use Rattle.edr_base.specs.declared.refusals.Refusal.TheVariants.{NoSamples, TooLarge}
use Rattle.edr_wkt.specs.declared.geometry.Geometry.{Geometry}
use Rattle.covjson_value.specs.declared.coverages.Coverage.{Coverage}
use Rattle.covjson_value.specs.Coverages.{IsValidDocument, coverages_in}
use Rattle.edr_chunk.specs.declared.shapes.GridShape.{GridShape}
use Rattle.edr_edition.specs.Values.{InstanceValue, CollectionValue}
use Rattle.edr_edition.specs.Stores.{Held, of_grid, Subject}
use Rattle.edr_query.specs.declared.shapes.Shape.{Shape}
use Rattle.edr_query.specs.declared.shapes.Shape.TheVariants as at
use Rattle.edr_query.specs.Values.{QueryValue}
use Rattle.edr_select.specs.declared.plans.Reply.TheVariants.{Stacked}
use Rattle.edr_select.specs.Limits.{value_limit, coverage_limit}
use Rattle.edr_select.specs.Selections.{picked}
use Rattle.edr_select.specs.Heads.{is_some_stored, alone, without_id, frame_of, heads_on_grid, heads_of}
use Rattle.edr_select.specs.Documents.{document, values_in}
use Rattle.edr_select.specs.Checks.{refused_query, grid_of}
use Rattle.edr_select.specs.Planned.{head_of, parameters_at}
use Rattle.edr_select.specs.Plans.{IsReplyTo}
use Rattle.edr_select.specs.Stacks.{SidesValue, StackValue, StackingValue, IsStacking}
use Rattle.edr_select.specs.Steps.{IsPlanIn, refused_sizes, refused_large}
use Rattle.edr_select.specs.ListLaws.{Member, some_member}
use Rattle.edr_select.specs.GridLaws.{IsGrid}
use Rattle.edr_select.specs.ReplyLaws.{stacked_valid}
use Rattle.edr_lines.specs.Corridors as corridors
use Rattle.edr_lines.specs.Corridors.{CorridorValue}
use Rattle.edr_lines.specs.Plans.{axes_of, domain_over, stacked_count}
use Rattle.edr_lines.specs.Taken.{Counts, counts_of, NodeTest, NoneTaken, AreSidesOf, HasBits}
use Rattle.edr_lines.proofs.LineGrids.{grid_from}
use Rattle.edr_lines.proofs.LineRefusals.{refused_samples, known_samples, refused_size, known_size}
use Rattle.edr_lines.proofs.CorridorSelects.{corridor_selects}
use Rattle.edr_lines.proofs.CorridorSteps.{IsCorridorIn}
use Rattle.edr_lines.proofs.TestedPicks.{SelectsBy}
use Rattle.edr_lines.proofs.StackSides.{same_levels}
use Rattle.edr_lines.proofs.StackPicks.{one_picked, some_sample}
use Rattle.edr_lines.proofs.StackCoverages as coverages
use Rattle.edr_lines.proofs.StackCoverages.{asked_places, stacking_over}
use Rattle.edr_lines.proofs.StackCounts as counts
use Rattle.edr_lines.proofs.StackChunks.{stack_chunks}
use Rattle.edr_lines.proofs.StackValid.{stacking_is}

or_false : (b : Bool) → (b || false) ≡ b
or_false true = refl
or_false false = refl

-- the document has one coverage, over a frame
pub one_head : (s : Subject) (q : QueryValue) (i : InstanceValue) (line : Geometry) (width : ℤ) (height : Option ℤ) → s.held ≡ of_grid i → q.shape ≡ at.Corridor line width height
    → heads_of s.held q (picked s q) ≡ alone (without_id (frame_of i (picked s q)))
one_head s q i line width height held shape =
    ap (λ (h : Held). heads_of h q (picked s q)) held ∙ ap (λ (shape : Shape). heads_on_grid i q shape (picked s q)) shape

abbrev pub as_stacking : GridShape → List ℕ → Coverage → StackValue → StackingValue
as_stacking shape parameters head stack = record { shape = shape; parameters = parameters; head = head; stack = stack }

module _ (c : CollectionValue) (q : QueryValue) (i : InstanceValue) (corridor : CorridorValue) (along : IsCorridorIn c q i corridor) where
  abbrev s : Subject
  s = grid_of c i

  abbrev n : Counts
  n = counts_of (axes_of i)

  abbrev takes : NodeTest
  takes = corridors.takes corridor (axes_of i)

  g : IsGrid i
  g = grid_from i along.asked.grid

  selects : SelectsBy s q i takes
  selects = corridor_selects along.cut s q i along.line along.width along.height corridor along.shape g along.is

  -- ---- no samples

  pub refused_nodes : NoneTaken n takes → refused_sizes q s ≡ Some NoSamples
  refused_nodes none =
      refused_samples q s (false_from_ne_true (is_some_stored (picked s q)) (λ some.
      let f = one_picked s q i refl g takes selects some in
      let absent : takes f.place.t f.place.z f.place.y f.place.x ≡ false =
      none f.place.t f.place.z f.place.y f.place.x (omega (arith, f.within.t, g.times)) (omega (arith, f.within.z, g.levels, same_levels i.zs)) (omega (arith, f.within.y, g.rows))
      (omega (arith, f.within.x, g.columns)) in
      false≢true (sym absent ∙ f.taken.node)))

  -- ---- what is taken

  head_alone : heads_of s.held q (picked s q) ≡ alone (without_id (frame_of i (picked s q)))
  head_alone = one_head s q i along.line along.width along.height refl along.shape

  module _ (parameters : List ℕ) (parameters_are : parameters ≡ asked_places q i) (some : parameters ≢ []) (sides : SidesValue) (are : AreSidesOf n takes sides)
      (left : refused_query c q ≡ refused_sizes q s) where
    one : Member (asked_places q i)
    one = subst (λ (ps : List ℕ). Member ps) parameters_are (some_member parameters some)

    refused_is : refused_query c q ≡ refused_large q s
    refused_is = left ∙ known_samples q s (some_sample s q i refl g takes selects one sides are)

    -- ---- sizes

    size_is : (nat_lt value_limit (values_in (document s q)) || nat_lt coverage_limit (length (coverages_in (document s q)))) ≡ nat_lt value_limit (stacked_count parameters sides)
    size_is =
        ap₂ (λ values covs. nat_lt value_limit values || nat_lt coverage_limit covs)
        (counts.values_are s q i refl g takes selects sides are one head_alone ∙ ap (λ (ps : List ℕ). stacked_count ps sides) (sym parameters_are))
        (counts.coverages_are s q i refl g takes selects sides are one head_alone)
        ∙ or_false (nat_lt value_limit (stacked_count parameters sides))

    pub too_large : nat_lt value_limit (stacked_count parameters sides) ≡ true → refused_query c q ≡ Some TooLarge
    too_large large = refused_is ∙ refused_size q s (size_is ∙ large)

    -- ---- stackings

    module _ (stack : StackValue) (sides_are : stack.sides ≡ sides) (bits : HasBits takes stack) where
      stack_are : AreSidesOf n takes stack.sides
      stack_are = subst (λ (v : SidesValue). AreSidesOf n takes v) (sym sides_are) are

      made_is : IsStacking (stacking_over s q i stack)
      made_is = stacking_is s q i along.asked.grid along.asked.is_collection.referencing takes stack stack_are bits one

      document_is : document s q ≡ coverages.document_of s q i stack
      document_is = coverages.document_is s q i refl g takes selects stack stack_are bits one head_alone

      document_valid : IsValidDocument (document s q)
      document_valid = subst IsValidDocument (sym document_is) (stacked_valid i.grid (stacking_over s q i stack) made_is along.asked.grid.samples)

      reply_is : IsReplyTo (Stacked (stacking_over s q i stack)) q s
      reply_is = record {
        instance = i;
        held = refl;
        shape = refl;
        document = ap Some (sym document_is);
        chunks = stack_chunks s q i refl g takes selects stack stack_are bits;
      }

      -- with these parts

      module _ (shape : GridShape) (places : List ℕ) (head : Coverage) (shape_is : shape ≡ i.grid.shape) (places_are : places ≡ parameters)
          (head_is : head ≡ head_of c.referencing (parameters_at i.parameters parameters) (domain_over i sides)) where
        parts : as_stacking shape places head stack ≡ stacking_over s q i stack
        parts =
            ap₂ (λ (d : GridShape) (h : Coverage). as_stacking d places h stack) shape_is head_is
            ∙ (ap (λ (v : SidesValue). as_stacking i.grid.shape places (head_of c.referencing (parameters_at i.parameters parameters) (domain_over i v)) stack) (sym sides_are)
            ∙ ap₂ (λ (ps os : List ℕ). as_stacking i.grid.shape ps (head_of c.referencing (parameters_at i.parameters os) (domain_over i stack.sides)) stack) (places_are ∙ parameters_are) parameters_are)

        pub stacking_valid : IsStacking (as_stacking shape places head stack)
        stacking_valid = subst IsStacking (sym parts) made_is

        -- no refusal is left where the reply isn't too large
        pub plan_made : nat_lt value_limit (stacked_count parameters sides) ≡ false
            → IsPlanIn c q i (record { query = q; reply = Stacked (as_stacking shape places head stack) })
        plan_made fits =
            subst (λ (v : StackingValue). IsPlanIn c q i (record { query = q; reply = Stacked v })) (sym parts) (record {
              none = refused_is ∙ known_size q s (size_is ∙ fits);
              query_is = refl;
              valid = document_valid;
              stands = reply_is;
            })
