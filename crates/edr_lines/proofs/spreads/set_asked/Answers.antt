use Rattle.std.proofs.Common.{◌≡◌, ◌+◌, ◌<◌, ℕ, length, sym, subst, arith}
use Rattle.edr_lines.specs.Boxes.{SetAsked}
use Rattle.edr_lines.proofs.AskedPlaces.{none_set, set_more, set_same}
use Rattle.edr_lines.proofs.spreads.set_asked.Goals as goal
use Rattle.edr_lines.proofs.spreads.set_asked.Goals.{then-asked-place, else-asked-place}

pub loop-place-init : goal.loop-place-init
loop-place-init c = none_set c.args.asked.now c.args.range.0 c.args.set.now

pub loop-place-preserved : goal.loop-place-preserved
loop-place-preserved c =
    let asked = c.args.asked.now in let low : ℕ = c.args.range.0 in let place : ℕ = c.loop-place.place in
    elim c.if-asked-place.branch [
      | then-asked-place w ↦
          (let inside : place < length c.loop-place.set = omega arith in
          subst (SetAsked asked (low, place + 1) c.args.set.now) (sym w.set-is)
          (set_more asked low place c.loop-place.auto.place c.args.set.now c.loop-place.set c.loop-place.invariant inside w.if-asked-place.true))
      | else-asked-place w ↦
          subst (SetAsked asked (low, place + 1) c.args.set.now) (sym w.set-is)
          (set_same asked low place c.loop-place.auto.place c.args.set.now c.loop-place.set c.loop-place.invariant w.if-asked-place.false)
    ]

pub returns : goal.returns
returns c =
    let end : c.loop-place.place ≡ c.args.range.1 = omega arith in
    subst (λ k. SetAsked c.args.asked.now (c.args.range.0, k) c.args.set.now c.loop-place.set) end c.loop-place.invariant
