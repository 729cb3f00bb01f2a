use Rattle.std.proofs.Common.{◌≡◌, ◌∙◌, ◌+◌, ℕ, true, false, length, ap, subst, arith}
use Rattle.edr_lines.specs.Taken.{counts_of}
use Rattle.edr_lines.specs.Corridors.{CorridorValue, takes, takes_first}
use Rattle.edr_lines.specs.Boxes.{IsSpreadOf}
use Rattle.edr_lines.proofs.Tests.{spread_same}
use Rattle.edr_lines.proofs.Firsts.{none_first, all_first}
use Rattle.edr_lines.proofs.MoreSides.{nodes_where, whole_found, first_found, nothing_taken}
use Rattle.edr_lines.proofs.stacks_taken.sides_within.Goals as goal

pub returns-then-asks_nothing : goal.returns-then-asks_nothing
returns-then-asks_nothing c = nothing_taken c.args.corridor.now c.args.axes.now (c.asks_nothing.ensures c.if-asks_nothing.true)

pub loop-number-init : goal.loop-number-init
loop-number-init c =
    let corridor = c.args.corridor.now in let axes = c.args.axes.now in let n = counts_of axes in
    spread_same n (λ t z y x. false) (takes_first corridor axes 0) (none_first corridor axes) c.in_ok-spread.spread c.in_ok-spread.ensures

pub sides_spread-requires-clause-spread : goal.sides_spread-requires-clause-spread
sides_spread-requires-clause-spread c = (takes_first c.args.corridor.now c.args.axes.now (c.loop-number.number + 1), c.in_ok-add_segment.ensures)

pub is_above-requires-clause-nodes : goal.is_above-requires-clause-nodes
is_above-requires-clause-nodes c =
    let axes = c.args.axes.now in let first = takes_first c.args.corridor.now axes (c.loop-number.number + 1) in
    nodes_where (counts_of axes) first c.in_ok-found.found (c.in_ok-found.ensures first c.in_ok-add_segment.ensures)

pub returns-then-is_above : goal.returns-then-is_above
returns-then-is_above c =
    let corridor = c.args.corridor.now in let axes = c.args.axes.now in let k : ℕ = c.loop-number.number in
    first_found c.args.parameters.now corridor axes (k + 1) c.in_ok-found.found c.is_above.result (c.in_ok-found.ensures (takes_first corridor axes (k + 1)) c.in_ok-add_segment.ensures) c.is_above.ensures c.if-is_above.true

pub add_segment-requires-clause-inside : goal.add_segment-requires-clause-inside
add_segment-requires-clause-inside c =
    let count : c.len-number-end.result + 1 ≡ length c.args.corridor.now.segments.line = c.len-number-end.ensures ∙ ap (λ (v : CorridorValue). length v.segments.line) c.corridor.view_is in
    omega (arith, count, c.loop-number-test.true)

pub loop-number-preserved : goal.loop-number-preserved
loop-number-preserved c = c.in_ok-add_segment.ensures

pub returns : goal.returns
returns c =
    let corridor = c.args.corridor.now in let axes = c.args.axes.now in let n = counts_of axes in
    let k : ℕ = c.loop-number.number in
    let end : k ≡ c.len-number-end.result = omega arith in
    let all : k + 1 ≡ length corridor.segments.line = ap (λ n. n + 1) end ∙ c.len-number-end.ensures ∙ ap (λ (v : CorridorValue). length v.segments.line) c.corridor.view_is in
    let whole : IsSpreadOf n (takes corridor axes) c.loop-number.spread =
    spread_same n (takes_first corridor axes k) (takes corridor axes) (λ t z y x at level row column. all_first corridor axes k all t z y x) c.loop-number.spread c.loop-number.invariant in
    whole_found c.args.parameters.now corridor axes c.in_ok-found-2.found (c.in_ok-found-2.ensures (takes corridor axes) whole)
