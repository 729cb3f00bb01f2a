-- What is known of stations before samples are counted: where no parameter is asked nothing is picked, and levels that are needed are there.
use Rattle.std.proofs.Common.{All, Bool, IsSome, List, None, Some, [], ap, cond, false, inl, inr, is_some, length, refl, sym, true, ℤ, ◌||◌, ◌∙◌, ◌≡◌}
use Rattle.std.specs.List.{list_any}
use Rattle.std.specs.Prelude.{not, ◌&&◌}
use Rattle.std.specs.declared.option.Option.{Option}
use Rattle.std.proofs.lemmas.Bool.{and_parts, false_from_ne_true, false≢true, or_cases}
use Rattle.edr_axes.specs.declared.levels.Levels.{Levels}
use Rattle.edr_base.specs.declared.refusals.Refusal.{Refusal}
use Rattle.edr_base.specs.declared.refusals.Refusal.TheVariants.{NoSamples}
use Rattle.edr_corridor.specs.Values.{SegmentsValue, needs_level}
use Rattle.edr_edition.specs.Editions.{AreAlike, IsCollection}
use Rattle.edr_edition.specs.Values.{CollectionValue}
use Rattle.edr_query.specs.Queries.{box_of, coords_of, has_levels, has_z}
use Rattle.edr_query.specs.Values.{QueryValue}
use Rattle.edr_query.specs.declared.shapes.Shape.{Shape}
use Rattle.edr_select.specs.Checks.{stations_in}
use Rattle.edr_select.specs.Choices.{parameter_places}
use Rattle.edr_select.specs.Heads.{is_some_stored}
use Rattle.edr_select.specs.KeptLaws.{contains_kept}
use Rattle.edr_select.specs.Lines.{single_level}
use Rattle.edr_select.specs.ListLaws.{no_member}
use Rattle.edr_select.specs.Refusals.{asks_levels}
use Rattle.edr_select.specs.Samples.{id_at}
use Rattle.edr_select.specs.Selections.{is_asked, picked}
use Rattle.edr_select.specs.Steps.{refused_sizes}
use Rattle.edr_station.specs.Stations.{StationValue}
use Rattle.edr_wkt.specs.Wkt.{has_z_of}
use Rattle.edr_plan.specs.CorridorPlans.{HasLevelsWanted, IsLineOf, LineValue}
use Rattle.edr_plan.specs.StationPlans.{lacks_levels}
use Rattle.edr_plan.proofs.SelectedSamples.{some_stored, wanted_found}
use Rattle.edr_plan.proofs.StationLevels.{none_have}

-- ---- truth values

pub stops : (b : Bool) (refusal : Refusal) (rest : Option Refusal) → b ≡ true → cond b (Some refusal) rest ≡ Some refusal
stops b refusal rest e = ap (λ b. cond b (Some refusal) rest) e

pub or_left : (b d : Bool) → b ≡ true → (b || d) ≡ true
or_left b d e = ap (λ b. b || d) e

pub or_right : (b d : Bool) → d ≡ true → (b || d) ≡ true
or_right true d e = refl
or_right false d e = e

-- ---- parameters

module _ (c : CollectionValue) (q : QueryValue) (is : IsCollection c) (none : parameter_places q.parameters c.parameters ≡ []) where
  -- where no parameter is asked nothing is picked
  pub nothing_picked : is_some_stored (picked (stations_in c) q) ≡ false
  nothing_picked =
      some_stored (picked (stations_in c) q)
      ∙ false_from_ne_true (list_any (λ x. true) (picked (stations_in c) q)) (λ h.
      let f = wanted_found (stations_in c) q c.parameters c.stations refl is.stations.are.each (λ x. true) h in
      no_member (parameter_places q.parameters c.parameters) f.parameter none
      (contains_kept (λ p. is_asked q.parameters (id_at c.parameters p)) (length c.parameters) f.parameter f.place.parameter
      (and_parts (is_asked q.parameters (id_at c.parameters f.parameter)) _ f.wanted).0))

  pub nothing_asked : refused_sizes q (stations_in c) ≡ Some NoSamples
  nothing_asked = stops (not (is_some_stored (picked (stations_in c) q))) NoSamples _ (ap not nothing_picked)

-- ---- levels

single_some : (asked : Option Levels) (height : Option ℤ) → is_some (single_level asked height) ≡ true → is_some asked ≡ true
single_some None height h = cc
single_some (Some asked) height h = refl

all_have : (ss : List StationValue) → AreAlike ss → list_any (λ (s : StationValue). is_some s.zs) ss ≡ true → All (λ (s : StationValue). IsSome s.zs) ss
all_have ss (inl each) h = each
all_have ss (inr none) h = absurd (false≢true (sym (none_have ss none) ∙ h))

not_lacking : (asked have : Bool) → (asked && not have) ≡ false → asked ≡ true → have ≡ true
not_lacking true true h e = refl
not_lacking true false h e = sym h
not_lacking false have h e = cc

-- levels that the segments of a line need are there, where none are asked that aren't there
pub levels_wanted : (c : CollectionValue) (q : QueryValue) (line : LineValue) → IsCollection c → IsLineOf q line → lacks_levels q c ≡ false → HasLevelsWanted c.stations line.segments
levels_wanted c q line is of lacks needs =
    all_have c.stations is.stations.alike (not_lacking (asks_levels q) (list_any (λ (s : StationValue). is_some s.zs) c.stations) lacks asked)
  where
    along : (has_z (coords_of q.shape) || has_levels (box_of q.shape)) ≡ (has_z_of line.corridor.line || false)
    along = ap (λ (shape : Shape). has_z (coords_of shape) || has_levels (box_of shape)) of.shape

    needs_of : (has_z_of line.corridor.line || is_some (single_level q.levels line.corridor.height)) ≡ true
    needs_of = sym (ap (λ (s : SegmentsValue). needs_level s) of.segments) ∙ needs

    asked : asks_levels q ≡ true
    asked =
        elim (or_cases (has_z_of line.corridor.line) (is_some (single_level q.levels line.corridor.height)) needs_of) [
          | inl there ↦ or_right (is_some q.levels) _ (along ∙ or_left (has_z_of line.corridor.line) false there)
          | inr single ↦ or_left (is_some q.levels) _ (single_some q.levels line.corridor.height single)
        ]
