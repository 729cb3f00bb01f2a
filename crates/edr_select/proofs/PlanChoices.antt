-- What is planned for a query, by the choice that was made.
use Rattle.std.proofs.Common.{◌≡◌, true, false, length, ap, ◌∙◌, sym, subst, Some}
use Rattle.std.specs.Prelude.{◌||◌, nat_lt}
use Rattle.edr_base.specs.declared.refusals.Refusal.TheVariants.{TooLarge}
use Rattle.edr_wkt.specs.declared.geometry.Geometry.{Geometry}
use Rattle.edr_edition.specs.Values.{InstanceValue, CollectionValue}
use Rattle.edr_query.specs.declared.shapes.Shape.TheVariants as at
use Rattle.edr_query.specs.Values.{QueryValue}
use Rattle.edr_select.specs.declared.forms.Form.{Form}
use Rattle.edr_select.specs.declared.plans.Reply.TheVariants.{Listed}
use Rattle.edr_select.specs.Limits.{value_limit, coverage_limit}
use Rattle.edr_select.specs.Checks.{refused_query}
use Rattle.edr_select.specs.Choices.{Chosen, chosen, IsSome}
use Rattle.edr_select.specs.Planned.{IsInside, AreAxes}
use Rattle.edr_select.specs.Listings.{ListingValue, IsListing}
use Rattle.edr_wkt.specs.Geometries.{is_multi_point}
use Rattle.edr_select.specs.Steps.{IsAsked, IsChoice, IsForm, IsPlanIn, is_many, value_count, coverage_count, planned_in}
use Rattle.edr_select.proofs.PlanForms.{spot_alone, inside, axes, is_listing, is_plan_in, is_refused_in}

module _ (c : CollectionValue) (q : QueryValue) (i : InstanceValue) (asked : IsAsked c q i) (choice : Chosen) (made : IsChoice c q i choice) where
  pub some_chosen : IsSome (chosen i q)
  some_chosen = subst IsSome made.is made.some

  pub choice_inside : IsInside i choice
  choice_inside = subst (IsInside i) (sym made.is) (inside c q i asked)

  pub choice_axes : AreAxes i choice
  choice_axes = subst (AreAxes i) (sym made.is) (axes c q i asked some_chosen)

  -- ---- positions

  module _ (geometry : Geometry) (shape : q.shape ≡ at.Position geometry) where
    pub choice_alone : is_multi_point geometry ≡ false → length choice.spots ≡ 1
    choice_alone e = ap (λ (ch : Chosen). length ch.spots) made.is ∙ spot_alone c q i geometry asked shape some_chosen e

    pub too_large : (form : Form) → IsForm geometry choice form
        → (nat_lt value_limit (value_count choice) || nat_lt coverage_limit (coverage_count choice form)) ≡ true → refused_query c q ≡ Some TooLarge
    too_large form =
        subst (λ (ch : Chosen). IsForm geometry ch form → (nat_lt value_limit (value_count ch) || nat_lt coverage_limit (coverage_count ch form)) ≡ true
        → refused_query c q ≡ Some TooLarge) (sym made.is)
        (λ is large. is_refused_in c q i geometry asked shape some_chosen form is made.refused_is large)

    pub listing_valid : (form : Form) → IsForm geometry choice form → (listing : ListingValue) → listing.shape ≡ i.grid.shape → listing.parameters ≡ choice.parameters
        → listing.many ≡ is_many form → listing.coverages ≡ planned_in c.referencing i choice form → IsListing listing
    listing_valid form h listing same parameters many are =
        subst (λ (ch : Chosen). IsForm geometry ch form → listing.parameters ≡ ch.parameters → listing.coverages ≡ planned_in c.referencing i ch form → IsListing listing) (sym made.is)
        (λ is parameters are. is_listing c q i geometry asked shape some_chosen form is listing same parameters many are) h parameters are

    pub plan_made : (form : Form) → IsForm geometry choice form
        → (nat_lt value_limit (value_count choice) || nat_lt coverage_limit (coverage_count choice form)) ≡ false
        → (listing : ListingValue) → listing.shape ≡ i.grid.shape → listing.parameters ≡ choice.parameters → listing.many ≡ is_many form
        → listing.coverages ≡ planned_in c.referencing i choice form → IsPlanIn c q i (record { query = q; reply = Listed listing })
    plan_made form h fits listing same parameters many are =
        subst (λ (ch : Chosen). IsForm geometry ch form → (nat_lt value_limit (value_count ch) || nat_lt coverage_limit (coverage_count ch form)) ≡ false
        → listing.parameters ≡ ch.parameters → listing.coverages ≡ planned_in c.referencing i ch form → IsPlanIn c q i (record { query = q; reply = Listed listing })) (sym made.is)
        (λ is fits parameters are. is_plan_in c q i geometry asked shape some_chosen form is listing same parameters many are made.refused_is fits) h fits parameters are
