-- Whether something is picked of a grid.
use Rattle.std.proofs.Common.{◌≡◌, ◌<◌, true, length, refl, sym, ◌∙◌}
use Rattle.edr_chunk.specs.AllPlaces.{at}
use Rattle.edr_edition.specs.Values.{InstanceValue}
use Rattle.edr_edition.specs.Stores.{of_grid, Subject}
use Rattle.edr_query.specs.Values.{QueryValue}
use Rattle.edr_select.specs.Samples.{Stored, id_at}
use Rattle.edr_select.specs.Selections.{is_asked, picked}
use Rattle.edr_select.specs.Heads.{is_some_stored}
use Rattle.edr_select.specs.Choices.{parameter_places}
use Rattle.edr_select.specs.Stacks.{SidesValue}
use Rattle.edr_select.specs.ListLaws.{Member}
use Rattle.edr_select.specs.KeptLaws.{kept_below, kept_passes}
use Rattle.edr_select.specs.GridLaws.{IsGrid}
use Rattle.edr_lines.specs.Plans.{axes_of}
use Rattle.edr_lines.specs.Taken.{counts_of, NodeTest, AreSidesOf}
use Rattle.edr_lines.proofs.LineRefusals.{some_picked}
use Rattle.edr_lines.proofs.PassingNodes.{PassesAt}
use Rattle.edr_lines.proofs.TestedPicks.{SelectsBy, Pick, pick_found, found_pick}
use Rattle.edr_lines.proofs.StackSides.{among_within, one, one_among}

module _ (s : Subject) (q : QueryValue) (i : InstanceValue) (held : s.held ≡ of_grid i) (g : IsGrid i) (takes : NodeTest) (selects : SelectsBy s q i takes) where
  -- some sample is picked
  pub one_picked : is_some_stored (picked s q) ≡ true → Pick q i takes (λ (x : Stored). true)
  one_picked some = pick_found s q i held g takes selects (λ (x : Stored). true) (some_picked (picked s q) ∙ some)

  -- one of each node that passes
  pub some_sample : Member (parameter_places q.parameters i.parameters) → (sides : SidesValue) → AreSidesOf (counts_of (axes_of i)) takes sides → is_some_stored (picked s q) ≡ true
  some_sample some sides are =
      let o : PassesAt (counts_of (axes_of i)) takes = one (counts_of (axes_of i)) takes sides are in
      let below : some.item < length i.parameters = kept_below (λ p. is_asked q.parameters (id_at i.parameters p)) (length i.parameters) some.item some.among in
      sym (some_picked (picked s q))
      ∙ found_pick s q i held g takes selects (λ (x : Stored). true) (at some.item o.t o.z o.y o.x)
      (among_within i g takes sides are some.item o.t o.z o.y o.x below (one_among (counts_of (axes_of i)) takes sides are))
      (record { asked = kept_passes (λ p. is_asked q.parameters (id_at i.parameters p)) (length i.parameters) some.item some.among; node = o.passes }) refl
