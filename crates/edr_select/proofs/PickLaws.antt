-- What a query wants and picks of a grid, by the places that are chosen: the laws for the proof of its plan.
use Rattle.std.proofs.Common.{◌≡◌, ℕ, true, false, List, [], ap, sym, ◌∙◌, Some, None, Contains}
use Rattle.std.specs.Prelude.{map, ◌&&◌, option_map}
use Rattle.edr_axes.specs.Axes.{value_at}
use Rattle.edr_chunk.specs.declared.shapes.GridPlace.{GridPlace}
use Rattle.edr_chunk.specs.Grids.{value}
use Rattle.edr_chunk.specs.Places.{Within}
use Rattle.edr_edition.specs.Values.{InstanceValue}
use Rattle.edr_edition.specs.Stores.{of_grid, Subject}
use Rattle.edr_query.specs.Values.{QueryValue}
use Rattle.edr_select.specs.Samples.{Stored, id_at, node_at, stored_at}
use Rattle.edr_select.specs.Wanted.{takes_time, takes_level, levels_asked}
use Rattle.edr_select.specs.Selections.{is_asked, wants, picked}
use Rattle.edr_select.specs.Heads.{times_in, levels_in, spots_in, is_some_stored}
use Rattle.edr_select.specs.Documents.{value_in}
use Rattle.edr_select.specs.Choices.{TakesEach, takes_node, Chosen, chosen, IsSome, node_of, times_of, levels_of, spot_of}
use Rattle.edr_corridor.specs.Boxes.{level_at}
use Rattle.edr_select.specs.Listings.{place_at}
use Rattle.edr_select.specs.GridLaws.{IsGrid}
use Rattle.edr_select.proofs.Picks.{picks_at, picked_is, wants_is, taken_product, taken_from, from_taken}
use Rattle.edr_select.proofs.ChosenLaws as laws
use Rattle.edr_select.proofs.ChosenLaws.{IsChosenAt}
use Rattle.edr_select.proofs.Occurring as occurring

module _ (s : Subject) (q : QueryValue) (i : InstanceValue) (held : s.held ≡ of_grid i) (each : TakesEach q.shape) where
  abbrev c : Chosen
  c = chosen i q

  is_picked : picked s q ≡ picks_at i q
  is_picked = picked_is s q i held each

  -- a sample is wanted where its parameter, its time, its level and its node are taken, each by itself
  pub product : (a : GridPlace) → wants s q (stored_at i a)
      ≡ (is_asked q.parameters (id_at i.parameters a.parameter) && (takes_time q.times (Some (value_at i.ts a.t)) && (takes_level (levels_asked q) (level_at i.zs a.z)
      && takes_node i q.shape a.y a.x)))
  product a = wants_is s q i held each (stored_at i a) ∙ taken_product i q each a

  module _ (g : IsGrid i) where
    -- and so where each of its parts is chosen
    pub wanted_chosen : (a : GridPlace) → Within i.grid.shape a → wants s q (stored_at i a) ≡ true → IsChosenAt i c a
    wanted_chosen a within h = laws.taken_chosen i q each g a within (taken_from i q each a (sym (wants_is s q i held each (stored_at i a)) ∙ h))

    pub chosen_wanted : (p t z spot : ℕ) → Contains c.parameters p → Contains c.times t → Contains c.levels z → Contains c.spots spot
        → wants s q (stored_at i (place_at p (node_of i.xs spot t z))) ≡ true
    chosen_wanted p t z spot mp mt mz ms =
        wants_is s q i held each (stored_at i (place_at p (node_of i.xs spot t z)))
        ∙ from_taken i q each (place_at p (node_of i.xs spot t z)) (laws.chosen_taken i q each g p t z spot mp mt mz ms)

    -- the value of a chosen sample is found at its node
    pub value_found : (p t z spot : ℕ) → Contains c.parameters p → Contains c.times t → Contains c.levels z → Contains c.spots spot
        → value_in (picked s q) None (id_at i.parameters p) (node_at i (place_at p (node_of i.xs spot t z))) ≡ value i.grid (place_at p (node_of i.xs spot t z))
    value_found p t z spot mp mt mz ms =
        ap (λ (picks : List Stored). value_in picks None (id_at i.parameters p) (node_at i (place_at p (node_of i.xs spot t z)))) is_picked
        ∙ laws.value_at_cell i q each g p t z spot mp mt mz ms

    -- ---- something is picked exactly where something of each is chosen

    pub some_picked : IsSome c → is_some_stored (picked s q) ≡ true
    some_picked some = ap is_some_stored is_picked ∙ laws.some_picked i q each g some

    pub none_without_parameters : c.parameters ≡ [] → is_some_stored (picked s q) ≡ false
    none_without_parameters none = ap is_some_stored is_picked ∙ laws.none_without_parameters i q each g none

    pub none_without_times : c.times ≡ [] → is_some_stored (picked s q) ≡ false
    none_without_times none = ap is_some_stored is_picked ∙ laws.none_without_times i q each g none

    pub none_without_levels : c.levels ≡ [] → is_some_stored (picked s q) ≡ false
    none_without_levels none = ap is_some_stored is_picked ∙ laws.none_without_levels i q each g none

    pub none_without_spots : c.spots ≡ [] → is_some_stored (picked s q) ≡ false
    none_without_spots none = ap is_some_stored is_picked ∙ laws.none_without_spots i q each g none

    -- ---- what occurs is what is chosen

    pub times_are : IsSome c → times_in (picked s q) i.ts ≡ times_of i c
    times_are some = ap (λ (picks : List Stored). times_in picks i.ts) is_picked ∙ occurring.times_are i q each g some

    pub levels_are : IsSome c → option_map (levels_in (picked s q)) i.zs ≡ levels_of i c
    levels_are some = ap (λ (picks : List Stored). option_map (levels_in picks) i.zs) is_picked ∙ occurring.levels_are i q each g some

    pub spots_are : IsSome c → spots_in (picked s q) i.ys i.xs ≡ map (spot_of i) c.spots
    spots_are some = ap (λ (picks : List Stored). spots_in picks i.ys i.xs) is_picked ∙ occurring.spots_are i q each g some
