use Rattle.std.proofs.Common.{◌≡◌, ◌+◌, ◌<◌, ℕ, Option, length, sym, ◌∙◌, subst, arith}
use Rattle.std.proofs.lemmas.Bool.{false≢true}
use Rattle.std.proofs.lemmas.List.{get_or_default}
use Rattle.edr_station.specs.declared.inputs.StationInput.{StationInput}
use Rattle.edr_station.specs.Inputs.{no_input, input_at, HasCounts}
use Rattle.edr_station.specs.Least.{IsMiscountedAt, IsLeastPlace}
use Rattle.edr_station.proofs.LeastIds.{least_yes, least_no}
use Rattle.edr_station.proofs.faults.least_miscounted.Goals as goal
use Rattle.edr_station.proofs.faults.least_miscounted.Goals.{then-is_miscounted, else-is_miscounted}

pub loop-place-preserved : goal.loop-place-preserved
loop-place-preserved c =
    let inputs = c.args.inputs.now in
    let place = c.loop-place.place in
    let parameters = c.args.parameters in
    let Is = IsMiscountedAt parameters inputs in
    let below : place < length inputs = omega (arith, c.loop-place-test.true) in
    let at : c.index-inputs-place.result ≡ input_at inputs place = c.index-inputs-place.is ∙ get_or_default inputs place c.index-inputs-place.result no_input below in
    elim c.if-is_miscounted.branch [
      | then-is_miscounted w ↦
          subst (λ (r : Option ℕ). IsLeastPlace inputs Is (place + 1) r) (sym w.least-is)
          (least_yes inputs Is place c.loop-place.least w.lesser-least.result
          (subst (λ (x : StationInput). ¬ (HasCounts parameters x)) at (c.is_miscounted.ensures.0 w.if-is_miscounted.true)) c.loop-place.invariant w.lesser-least.ensures)
      | else-is_miscounted w ↦
          subst (λ (r : Option ℕ). IsLeastPlace inputs Is (place + 1) r) (sym w.least-is)
          (least_no inputs Is place c.loop-place.least
          (λ so. false≢true (sym w.if-is_miscounted.false ∙ c.is_miscounted.ensures.1 (subst (λ (x : StationInput). ¬ (HasCounts parameters x)) (sym at) so))) c.loop-place.invariant)
    ]

pub returns : goal.returns
returns c =
    let inputs = c.args.inputs.now in
    let end : c.loop-place.place ≡ length inputs = omega (arith, c.loop-place-test.false, c.loop-place.auto.place-end) in
    subst (λ (n : ℕ). IsLeastPlace inputs (IsMiscountedAt c.args.parameters inputs) n c.loop-place.least) end c.loop-place.invariant
