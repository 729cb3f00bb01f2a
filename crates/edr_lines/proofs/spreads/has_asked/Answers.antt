use Rattle.std.proofs.Common.{◌<◌, length, sym, arith}
use Rattle.edr_lines.proofs.AskedPlaces.{asked_here, none_asked}
use Rattle.edr_lines.proofs.spreads.has_asked.Goals as goal

pub returns-then-asked-place : goal.returns-then-asked-place
returns-then-asked-place c =
    let inside : c.loop-place.place < length c.args.asked.now = omega arith in
    sym (asked_here c.args.asked.now c.args.range.0 c.args.range.1 c.loop-place.place c.loop-place.auto.place c.loop-place-test.true inside c.if-asked-place.true)

pub returns : goal.returns
returns c = sym (none_asked c.args.asked.now c.args.range.0 c.args.range.1 (λ k low high. c.loop-place.invariant k low (omega arith)))
