use Rattle.std.proofs.Common.{◌≡◌, ◌∙◌, ◌+◌, ℕ, false, length, ap, subst, arith}
use Rattle.edr_lines.specs.Taken.{counts_of}
use Rattle.edr_lines.specs.Corridors.{CorridorValue, takes, takes_first}
use Rattle.edr_lines.proofs.Tests.{spread_same}
use Rattle.edr_lines.proofs.Firsts.{none_first, all_first}
use Rattle.edr_lines.proofs.spreads.spread_of.Goals as goal

pub loop-number-init : goal.loop-number-init
loop-number-init c =
    let corridor = c.args.corridor.now in let axes = c.args.axes.now in
    spread_same (counts_of axes) (λ t z y x. false) (takes_first corridor axes 0) (none_first corridor axes) c.in_ok-spread.spread c.in_ok-spread.ensures

pub add_segment-requires-clause-inside : goal.add_segment-requires-clause-inside
add_segment-requires-clause-inside c =
    let count : c.len-number-end.result + 1 ≡ length c.args.corridor.now.segments.line = c.len-number-end.ensures ∙ ap (λ (v : CorridorValue). length v.segments.line) c.corridor.view_is in
    omega (arith, count, c.loop-number-test.true)

pub loop-number-preserved : goal.loop-number-preserved
loop-number-preserved c = c.in_ok-add_segment.ensures

pub returns : goal.returns
returns c =
    let corridor = c.args.corridor.now in let axes = c.args.axes.now in let k : ℕ = c.loop-number.number in
    let end : k ≡ c.len-number-end.result = omega arith in
    let all : k + 1 ≡ length corridor.segments.line = ap (λ n. n + 1) end ∙ c.len-number-end.ensures ∙ ap (λ (v : CorridorValue). length v.segments.line) c.corridor.view_is in
    spread_same (counts_of axes) (takes_first corridor axes k) (takes corridor axes) (λ t z y x at level row column. all_first corridor axes k all t z y x) c.loop-number.spread c.loop-number.invariant
