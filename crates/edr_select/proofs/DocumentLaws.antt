-- The document of a query of grids that selects something is that of a reply, and so it is valid.
use Rattle.std.proofs.Common.{◌≡◌, ℕ, Bool, true, false, List, [], ◌∷◌, length, refl, sym, ◌∙◌, subst, arith, inl, inr}
use Rattle.std.specs.Prelude.{◌⊎◌}
use Rattle.std.proofs.lemmas.Bool.{false≢true}
use Rattle.covjson_value.specs.Coverages.{IsValidDocument}
use Rattle.edr_wkt.specs.declared.geometry.Geometry.{Geometry}
use Rattle.edr_edition.specs.Values.{InstanceValue, CollectionValue}
use Rattle.edr_query.specs.declared.shapes.Shape.{Shape}
use Rattle.edr_query.specs.declared.shapes.Shape.TheVariants as at
use Rattle.edr_query.specs.Values.{QueryValue}
use Rattle.edr_select.specs.declared.forms.Form.{Form}
use Rattle.edr_select.specs.declared.forms.Form.TheVariants.{AtPoint, Along, Apart}
use Rattle.edr_select.specs.Selections.{picked}
use Rattle.edr_select.specs.Heads.{is_some_stored}
use Rattle.edr_select.specs.Documents.{document}
use Rattle.edr_select.specs.DocumentLaws.{GridDocumentsAreValid}
use Rattle.edr_select.specs.Checks.{grid_of}
use Rattle.edr_select.specs.Choices.{TakesEach, Chosen, chosen, IsSome}
use Rattle.edr_select.specs.Listings.{ListingValue}
use Rattle.edr_select.specs.Masks.{IsArea}
use Rattle.edr_wkt.specs.Geometries.{is_multi_point}
use Rattle.edr_select.specs.Steps.{IsAsked, IsForm, is_many, planned_in}
use Rattle.edr_select.specs.GridLaws.{IsGrid}
use Rattle.edr_select.proofs.Instances.{grid_from}
use Rattle.edr_select.proofs.PickLaws as picks
use Rattle.edr_select.proofs.PlanForms.{spot_alone, listing_valid}
use Rattle.edr_select.proofs.FramePlans.{area_valid}

-- ---- the form of a reply

record HasForm (geometry : Geometry) (choice : Chosen) : Type 0 where
  form : Form
  is : IsForm geometry choice form

one_number : (numbers : List ℕ) → ((number : ℕ) × (numbers ≡ number ∷ [])) ⊎ (¬ (length numbers ≡ 1))
one_number [] = inr (λ e. absurd (omega (arith, e)))
one_number (number ∷ []) = inl (number, refl)
one_number (number ∷ other ∷ numbers) = inr (λ e. absurd (omega (arith, e)))

form_at : (geometry : Geometry) (choice : Chosen) (several : Bool) → is_multi_point geometry ≡ several → (is_multi_point geometry ≡ false → length choice.spots ≡ 1) → HasForm geometry choice
form_at geometry choice false e alone = elim (one_number choice.spots) [
  | inl spot ↦ record { form = AtPoint spot.0; is = (e, spot.1) }
  | inr none ↦ absurd (none (alone e))
]
form_at geometry choice true e alone = elim (one_number choice.times) [
  | inl t ↦ elim (one_number choice.levels) [
    | inl z ↦ record { form = Along t.0 z.0; is = (e, (t.1, z.1)) }
    | inr none ↦ record { form = Apart; is = (e, λ one. none one.1) }
  ]
  | inr none ↦ record { form = Apart; is = (e, λ one. none one.0) }
]

-- ---- the document

module _ (c : CollectionValue) (q : QueryValue) (i : InstanceValue) (asked : IsAsked c q i) where
  some_taken : is_some_stored (picked (grid_of c i) q) ≡ true → IsSome (chosen i q)
  some_taken some =
      let g : IsGrid i = grid_from i asked.grid in
      record {
        parameters = λ e. false≢true (sym (picks.none_without_parameters (grid_of c i) q i refl asked.each g e) ∙ some);
        times = λ e. false≢true (sym (picks.none_without_times (grid_of c i) q i refl asked.each g e) ∙ some);
        levels = λ e. false≢true (sym (picks.none_without_levels (grid_of c i) q i refl asked.each g e) ∙ some);
        spots = λ e. false≢true (sym (picks.none_without_spots (grid_of c i) q i refl asked.each g e) ∙ some);
      }

  -- of a position
  valid_position : (geometry : Geometry) → q.shape ≡ at.Position geometry → IsSome (chosen i q) → IsValidDocument (document (grid_of c i) q)
  valid_position geometry shape some =
      let h = form_at geometry (chosen i q) (is_multi_point geometry) refl (spot_alone c q i geometry asked shape some) in
      let listing : ListingValue = record {
        shape = i.grid.shape;
        parameters = (chosen i q).parameters;
        many = is_many h.form;
        coverages = planned_in c.referencing i (chosen i q) h.form;
      } in
      listing_valid c q i geometry asked shape some h.form h.is listing refl refl refl refl

  valid_taken : (shape : Shape) → q.shape ≡ shape → TakesEach shape → IsSome (chosen i q) → IsValidDocument (document (grid_of c i) q)
  valid_taken (at.Position geometry) is each some = valid_position geometry is some
  valid_taken (at.Radius geometry within) is each some = area_valid c q i asked (subst IsArea (sym is) tt) some
  valid_taken (at.Area geometry) is each some = area_valid c q i asked (subst IsArea (sym is) tt) some
  valid_taken (at.Cube lo hi levels) is each some = area_valid c q i asked (subst IsArea (sym is) tt) some
  valid_taken (at.Trajectory geometry) is each some = absurd each
  valid_taken (at.Corridor geometry width height) is each some = absurd each
  valid_taken (at.Location id) is each some = absurd each

pub grid_documents_are_valid : GridDocumentsAreValid
grid_documents_are_valid c q i asked picked = valid_taken c q i asked q.shape refl asked.each (some_taken c q i asked picked)
