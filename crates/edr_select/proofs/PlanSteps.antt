-- The refusals of a query from step to step, from those of names on.
use Rattle.std.proofs.Common.{◌≡◌, Bool, true, false, cond, List, length, Option, Some, None, refl, ap, sym, ◌∙◌, subst}
use Rattle.std.specs.Prelude.{◌↔◌, IsTrue, not, ◌||◌, nat_lt}
use Rattle.std.specs.List.{find}
use Rattle.std.proofs.lemmas.Bool.{false≢true, false_from_ne_true}
use Rattle.edr_base.specs.declared.refusals.Refusal.{Refusal}
use Rattle.edr_base.specs.declared.refusals.Refusal.TheVariants.{UnknownParameterName, BadCrs, NoLevels, NoSamples, TooLarge}
use Rattle.covjson_value.specs.declared.coverages.Parameter.{Parameter}
use Rattle.covjson_value.specs.Coverages.{ids_of, coverages_in}
use Rattle.edr_edition.specs.Values.{InstanceValue, CollectionValue}
use Rattle.edr_edition.specs.Stores.{Subject}
use Rattle.edr_query.specs.Values.{QueryValue}
use Rattle.edr_select.specs.Limits.{value_limit, coverage_limit}
use Rattle.edr_select.specs.Refusals.{applies_if, applies_to_query, applies_to_subject, names_other, crs_is_other}
use Rattle.edr_select.specs.Selections.{picked}
use Rattle.edr_select.specs.Heads.{is_some_stored}
use Rattle.edr_select.specs.Documents.{document, values_in}
use Rattle.edr_select.specs.Checks.{of_data, refused_data, refused_query, grid_of}
use Rattle.edr_select.specs.Choices.{Chosen, chosen, IsSome}
use Rattle.edr_select.specs.Steps.{IsAsked, IsAskedOf, refused_known, refused_sizes, refused_large, lacks_levels}
use Rattle.edr_select.specs.ListLaws.{all_member}
use Rattle.edr_select.specs.NamedLaws.{named_member, subject_found}
use Rattle.edr_select.proofs.Instances.{grid_from}
use Rattle.edr_select.proofs.PickLaws as picks

-- ---- a refusal that applies, and one that doesn't

stops : (b : Bool) (refusal : Refusal) (rest : Option Refusal) → b ≡ true → cond b (Some refusal) rest ≡ Some refusal
stops b refusal rest e = ap (λ b. cond b (Some refusal) rest) e

passes : (b : Bool) (refusal : Refusal) (rest : Option Refusal) → b ≡ false → cond b (Some refusal) rest ≡ rest
passes b refusal rest e = ap (λ b. cond b (Some refusal) rest) e

-- what is asked is asked of such an instance
pub of_asked : (c : CollectionValue) (q : QueryValue) (i : InstanceValue) → IsAsked c q i → IsAskedOf c q i
of_asked c q i asked = record { is_collection = asked.is_collection; kind = asked.kind; instance_is = asked.instance_is }

module _ (c : CollectionValue) (q : QueryValue) (i : InstanceValue) (asked : IsAskedOf c q i) where
  abbrev s : Subject
  s = grid_of c i

  -- ---- names

  same_parameters : i.parameters ≡ c.parameters
  same_parameters =
      all_member (λ (o : InstanceValue). o.parameters ≡ c.parameters) c.instances i asked.is_collection.instances.same
      (named_member q.instance c.instances i asked.instance_is)

  names_are : applies_to_query c q UnknownParameterName ≡ names_other q.parameters (ids_of i.parameters)
  names_are = ap (λ (ps : List Parameter). names_other q.parameters (ids_of ps)) (sym same_parameters)

  pub refused_names : names_other q.parameters (ids_of i.parameters) ≡ true → refused_query c q ≡ Some UnknownParameterName
  refused_names h = stops (applies_to_query c q UnknownParameterName) UnknownParameterName (refused_known c q) (names_are ∙ h)

  pub known_names : names_other q.parameters (ids_of i.parameters) ≡ false → refused_query c q ≡ refused_known c q
  known_names h = passes (applies_to_query c q UnknownParameterName) UnknownParameterName (refused_known c q) (names_are ∙ h)

  -- ---- the reference system, and levels

  data_is : find (applies_to_query c q) of_data ≡ refused_data q s
  data_is = ap (λ (found : Option Subject). find (λ refusal. applies_if (applies_to_subject q refusal) found) of_data) (subject_found c q i asked.kind asked.instance_is)

  pub refused_crs : crs_is_other q.crs c.referencing.crs ≡ true → refused_known c q ≡ Some BadCrs
  refused_crs h = stops (crs_is_other q.crs c.referencing.crs) BadCrs (find (applies_to_query c q) of_data) h

  known_crs : crs_is_other q.crs c.referencing.crs ≡ false → refused_known c q ≡ refused_data q s
  known_crs h = passes (crs_is_other q.crs c.referencing.crs) BadCrs (find (applies_to_query c q) of_data) h ∙ data_is

  pub refused_levels : crs_is_other q.crs c.referencing.crs ≡ false → lacks_levels q i ≡ true → refused_known c q ≡ Some NoLevels
  refused_levels crs h = known_crs crs ∙ stops (lacks_levels q i) NoLevels (refused_sizes q s) h

  pub known_levels : crs_is_other q.crs c.referencing.crs ≡ false → lacks_levels q i ≡ false → refused_known c q ≡ refused_sizes q s
  known_levels crs h = known_crs crs ∙ passes (lacks_levels q i) NoLevels (refused_sizes q s) h

-- ---- samples

module _ (c : CollectionValue) (q : QueryValue) (i : InstanceValue) (asked : IsAsked c q i) where
  abbrev held : Subject
  held = grid_of c i

  none_picked : (¬ (IsSome (chosen i q))) → is_some_stored (picked held q) ≡ false
  none_picked none =
      let g = grid_from i asked.grid in
      false_from_ne_true (is_some_stored (picked held q)) (λ h. none (record {
        parameters = λ e. false≢true (sym (picks.none_without_parameters held q i refl asked.each g e) ∙ h);
        times = λ e. false≢true (sym (picks.none_without_times held q i refl asked.each g e) ∙ h);
        levels = λ e. false≢true (sym (picks.none_without_levels held q i refl asked.each g e) ∙ h);
        spots = λ e. false≢true (sym (picks.none_without_spots held q i refl asked.each g e) ∙ h);
      }))

  pub refused_samples : (¬ (IsSome (chosen i q))) → refused_sizes q held ≡ Some NoSamples
  refused_samples none = stops (not (is_some_stored (picked held q))) NoSamples (refused_large q held) (ap not (none_picked none))

  pub known_samples : IsSome (chosen i q) → refused_sizes q held ≡ refused_large q held
  known_samples some =
      passes (not (is_some_stored (picked held q))) NoSamples (refused_large q held)
      (ap not (picks.some_picked held q i refl asked.each (grid_from i asked.grid) some))

  -- ---- sizes

  pub refused_size : (nat_lt value_limit (values_in (document held q)) || nat_lt coverage_limit (length (coverages_in (document held q)))) ≡ true → refused_large q held ≡ Some TooLarge
  refused_size h = stops (applies_to_subject q TooLarge held) TooLarge None h

  pub known_size : (nat_lt value_limit (values_in (document held q)) || nat_lt coverage_limit (length (coverages_in (document held q)))) ≡ false → refused_large q held ≡ None
  known_size h = passes (applies_to_subject q TooLarge held) TooLarge None h

-- ---- what was tested

pub none_chosen : (b : Bool) (choice wanted : Chosen) → b ≡ false → (IsTrue b ↔ IsSome choice) → choice ≡ wanted → ¬ (IsSome wanted)
none_chosen b choice wanted e test is some = false≢true (sym e ∙ test.1 (subst IsSome (sym is) some))

pub some_chosen : (b : Bool) (choice : Chosen) → b ≡ true → (IsTrue b ↔ IsSome choice) → IsSome choice
some_chosen b choice e test = test.0 e
