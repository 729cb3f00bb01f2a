use Rattle.std.proofs.Common.{◌+◌, ℕ, subst}
use Rattle.std.specs.Prelude.{option_map}
use Rattle.edr_corridor.specs.Boxes.{AddsNothing, GridAxes, TakesNodes}
use Rattle.edr_lines.specs.Taken.{counts_of, either}
use Rattle.edr_lines.specs.Corridors.{CorridorValue, takes_first}
use Rattle.edr_lines.specs.Boxes.{box_passes}
use Rattle.edr_lines.proofs.Tests.{spread_same}
use Rattle.edr_lines.proofs.Firsts.{first_more, first_same}
use Rattle.edr_lines.proofs.spreads.Spread.add_segment.Goals as goal

pub returns-in_ok-taken : goal.returns-in_ok-taken
returns-in_ok-taken c =
    let corridor = c.args.corridor.now in let axes = c.args.axes.now in let k : ℕ = c.args.number in let box = c.in_ok-taken.taken in
    let taken : TakesNodes corridor.segments k axes box =
    subst (λ (a : GridAxes). TakesNodes corridor.segments k a box) c.axes.view_is
    (subst (λ (v : CorridorValue). TakesNodes v.segments k (record { ts = c.axes.inside.ts.now; zs = option_map (λ zs. zs.now) c.axes.inside.zs; ys = c.axes.inside.ys.now; xs = c.axes.inside.xs.now }) box) c.corridor.view_is c.in_ok-taken.ensures.takes) in
    spread_same (counts_of axes) (either (takes_first corridor axes k) (box_passes corridor box)) (takes_first corridor axes (k + 1)) (first_more corridor axes k box taken) c.add.new.self
    (c.add.ensures (takes_first corridor axes k) c.requires.spread)

pub returns-else-adds : goal.returns-else-adds
returns-else-adds c =
    let corridor = c.args.corridor.now in let axes = c.args.axes.now in let k : ℕ = c.args.number in
    let nothing : AddsNothing corridor.segments k axes.ys axes.xs =
    subst (λ (a : GridAxes). AddsNothing corridor.segments k a.ys a.xs) c.axes.view_is
    (subst (λ (v : CorridorValue). AddsNothing v.segments k c.axes.inside.ys.now c.axes.inside.xs.now) c.corridor.view_is (c.adds.ensures c.if-adds.false)) in
    spread_same (counts_of axes) (takes_first corridor axes k) (takes_first corridor axes (k + 1)) (first_same corridor axes k nothing) c.args.self.now c.requires.spread
