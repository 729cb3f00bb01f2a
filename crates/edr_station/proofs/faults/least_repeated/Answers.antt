use Rattle.std.proofs.Common.{◌≡◌, ◌+◌, ℕ, Option, length, sym, ◌∙◌, subst, arith}
use Rattle.std.proofs.lemmas.Bool.{false≢true}
use Rattle.edr_station.specs.Least.{IsRepeatAt, IsLeastPlace}
use Rattle.edr_station.proofs.LeastIds.{least_yes, least_no}
use Rattle.edr_station.proofs.faults.least_repeated.Goals as goal
use Rattle.edr_station.proofs.faults.least_repeated.Goals.{then-branch, else-branch}

pub loop-place-preserved : goal.loop-place-preserved
loop-place-preserved c =
    let inputs = c.args.inputs.now in
    let place = c.loop-place.place in
    let Is = IsRepeatAt inputs in (
      elim c.if-branch.branch [
        | then-branch w ↦
            subst (λ (r : Option ℕ). IsLeastPlace inputs Is (place + 1) r) (sym w.least-is)
            (least_yes inputs Is place c.loop-place.least w.lesser-least.result (c.in_ok-is_repeat.ensures.repeat.0 w.if-branch.true) c.loop-place.invariant.0 w.lesser-least.ensures)
        | else-branch w ↦
            subst (λ (r : Option ℕ). IsLeastPlace inputs Is (place + 1) r) (sym w.least-is)
            (least_no inputs Is place c.loop-place.least (λ so. false≢true (sym w.if-branch.false ∙ c.in_ok-is_repeat.ensures.repeat.1 so)) c.loop-place.invariant.0)
      ],
      c.in_ok-is_repeat.ensures.seen,
    )

pub returns : goal.returns
returns c =
    let inputs = c.args.inputs.now in
    let end : c.loop-place.place ≡ length inputs = omega (arith, c.loop-place-test.false, c.loop-place.auto.place-end) in
    subst (λ (n : ℕ). IsLeastPlace inputs (IsRepeatAt inputs) n c.loop-place.least) end c.loop-place.invariant.0
