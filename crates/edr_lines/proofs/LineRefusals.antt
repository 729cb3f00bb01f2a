-- The refusals of a query along a line from step to step, from those of names on.
use Rattle.std.proofs.Common.{◌≡◌, Bool, true, false, cond, List, [], ◌∷◌, length, Option, Some, None, refl, ap, sym, ◌∙◌, arith}
use Rattle.std.specs.Prelude.{not, ◌&&◌, ◌||◌, nat_lt}
use Rattle.std.specs.List.{list_any}
use Rattle.std.proofs.lemmas.Bool.{false_from_ne_true, and_parts}
use Rattle.edr_base.specs.declared.refusals.Refusal.{Refusal}
use Rattle.edr_base.specs.declared.refusals.Refusal.TheVariants.{NoSamples, TooLarge}
use Rattle.covjson_value.specs.Coverages.{coverages_in}
use Rattle.edr_chunk.specs.AllPlaces.{places}
use Rattle.edr_edition.specs.Values.{InstanceValue, CollectionValue}
use Rattle.edr_edition.specs.Stores.{Subject}
use Rattle.edr_query.specs.Values.{QueryValue}
use Rattle.edr_select.specs.Checks.{grid_of}
use Rattle.edr_select.specs.Choices.{parameter_places}
use Rattle.edr_select.specs.Documents.{document, values_in}
use Rattle.edr_select.specs.GridLaws.{IsGrid}
use Rattle.edr_select.specs.Heads.{is_some_stored}
use Rattle.edr_select.specs.KeptLaws.{contains_kept}
use Rattle.edr_select.specs.Limits.{value_limit, coverage_limit}
use Rattle.edr_select.specs.ListLaws.{any-filter, any-map, no_member}
use Rattle.edr_select.specs.PlaceLaws.{found_place}
use Rattle.edr_select.specs.Refusals.{applies_to_subject}
use Rattle.edr_select.specs.Samples.{Stored, id_at, stored_at, grid_samples}
use Rattle.edr_select.specs.Selections.{is_asked, takes, wants, picked}
use Rattle.edr_select.specs.Steps.{IsAskedOf, refused_sizes, refused_large}
use Rattle.edr_lines.specs.Asked.{IsAskedAlong}
use Rattle.edr_lines.proofs.LineGrids.{grid_from}

-- ---- a refusal that applies, and one that doesn't

stops : (b : Bool) (refusal : Refusal) (rest : Option Refusal) → b ≡ true → cond b (Some refusal) rest ≡ Some refusal
stops b refusal rest e = ap (λ b. cond b (Some refusal) rest) e

passes : (b : Bool) (refusal : Refusal) (rest : Option Refusal) → b ≡ false → cond b (Some refusal) rest ≡ rest
passes b refusal rest e = ap (λ b. cond b (Some refusal) rest) e

-- ---- samples and sizes

pub refused_samples : (q : QueryValue) (s : Subject) → is_some_stored (picked s q) ≡ false → refused_sizes q s ≡ Some NoSamples
refused_samples q s none = stops (not (is_some_stored (picked s q))) NoSamples (refused_large q s) (ap not none)

pub known_samples : (q : QueryValue) (s : Subject) → is_some_stored (picked s q) ≡ true → refused_sizes q s ≡ refused_large q s
known_samples q s some = passes (not (is_some_stored (picked s q))) NoSamples (refused_large q s) (ap not some)

pub refused_size : (q : QueryValue) (s : Subject) → (nat_lt value_limit (values_in (document s q)) || nat_lt coverage_limit (length (coverages_in (document s q)))) ≡ true → refused_large q s ≡ Some TooLarge
refused_size q s h = stops (applies_to_subject q TooLarge s) TooLarge None h

pub known_size : (q : QueryValue) (s : Subject) → (nat_lt value_limit (values_in (document s q)) || nat_lt coverage_limit (length (coverages_in (document s q)))) ≡ false → refused_large q s ≡ None
known_size q s h = passes (applies_to_subject q TooLarge s) TooLarge None h

-- some sample is picked where one passes a test
pub some_picked : (picks : List Stored) → list_any (λ (x : Stored). true) picks ≡ is_some_stored picks
some_picked [] = refl
some_picked (x ∷ picks) = refl

-- what is asked is asked of an instance of grids
pub of_asked : (c : CollectionValue) (q : QueryValue) (i : InstanceValue) → IsAskedAlong c q i → IsAskedOf c q i
of_asked c q i asked = record { is_collection = asked.is_collection; kind = asked.kind; instance_is = asked.instance_is }

module _ (c : CollectionValue) (q : QueryValue) (i : InstanceValue) (asked : IsAskedAlong c q i) where
  abbrev s : Subject
  s = grid_of c i

  -- ---- without a parameter no sample is picked

  g : IsGrid i
  g = grid_from i asked.grid

  pub none_picked : parameter_places q.parameters i.parameters ≡ [] → is_some_stored (picked s q) ≡ false
  none_picked none =
      sym (some_picked (picked s q))
      ∙ (any-filter (λ (x : Stored). true) (wants s q) (grid_samples i)
      ∙ (any-map (λ (x : Stored). wants s q x && true) (stored_at i) (places i.grid.shape)
      ∙ false_from_ne_true (list_any (λ a. wants s q (stored_at i a) && true) (places i.grid.shape)) (λ h.
      let f = found_place (λ a. wants s q (stored_at i a) && true) i.grid.shape h in
      let wanted = and_parts (wants s q (stored_at i f.place)) true f.passes in
      let named = and_parts (is_asked q.parameters (id_at i.parameters f.place.parameter)) (takes s q q.shape (stored_at i f.place)) wanted.0 in
      no_member (parameter_places q.parameters i.parameters) f.place.parameter none
      (contains_kept (λ p. is_asked q.parameters (id_at i.parameters p)) (length i.parameters) f.place.parameter (omega (arith, f.within.parameter, g.parameters)) named.0))))

  pub refused_without : parameter_places q.parameters i.parameters ≡ [] → refused_sizes q s ≡ Some NoSamples
  refused_without none = refused_samples q s (none_picked none)
