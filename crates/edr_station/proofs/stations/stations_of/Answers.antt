use Rattle.std.proofs.Common.{◌≡◌, ◌++◌, ◌∷◌, [], List, sym, ap, ◌∙◌, subst, append_assoc, arith}
use Rattle.std.proofs.lemmas.List.{append-nil}
use Rattle.edr_ids.specs.Ids.{AscendBy}
use Rattle.edr_station.specs.declared.inputs.StationInput.{StationInput}
use Rattle.edr_station.specs.Stations.{station_id}
use Rattle.edr_station.specs.Inputs.{AreOf}
use Rattle.edr_station.proofs.MadeOf.{is_empty, made_more, none_yet}
use Rattle.edr_station.proofs.stations.stations_of.Goals as goal

pub loop-input-preserved : goal.loop-input-preserved
loop-input-preserved c =
    let done = c.loop-input.invariant.1.0 in
    let x = c.in-Some.input in
    let rest = c.next.new.self.rest.items in
    let items = c.loop-input.stations.stations in
    let whole : done ++ x ∷ rest ≡ c.args.inputs.items = ap (λ (l : List StationInput). done ++ l) (sym c.in-Some.ensures.steps.0) ∙ c.loop-input.invariant.1.1 in
    let up : AscendBy station_id items = c.stands.ensures.ascending in
    let none = none_yet c.args.inputs.items done rest x items whole c.requires.once c.loop-input.invariant.1.2 in
    let made = made_more c.items_are_by_id.ensures done x items up none c.loop-input.invariant.1.2 in (
      c.in_ok-set.ensures.parameters ∙ c.loop-input.invariant.0,
      (done ++ x ∷ [], append_assoc done (x ∷ []) rest ∙ whole, subst (AreOf (done ++ x ∷ [])) (sym c.in_ok-set.ensures.set) made),
    )

pub returns-clause-stations : goal.returns-clause-stations
returns-clause-stations c =
    let done = c.loop-input.invariant.1.0 in
    let none : c.loop-input.input-iterator.rest.items ≡ [] =
    is_empty c.loop-input.input-iterator.rest.items (omega (arith, c.loop-input.input-iterator.rest.ok.0, c.in-None.ensures.steps.0)) in
    let whole : done ≡ c.args.inputs.items = sym (append-nil done) ∙ (ap (λ (l : List StationInput). done ++ l) (sym none) ∙ c.loop-input.invariant.1.1) in
    subst (λ (l : List StationInput). AreOf l c.loop-input.stations.stations) whole c.loop-input.invariant.1.2
