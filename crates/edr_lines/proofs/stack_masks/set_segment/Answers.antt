use Rattle.std.proofs.Common.{ℕ, subst}
use Rattle.std.specs.Prelude.{option_map}
use Rattle.edr_corridor.specs.Boxes.{AddsNothing, GridAxes, LiesOn, TakesNodes}
use Rattle.edr_lines.specs.Corridors.{CorridorValue}
use Rattle.edr_lines.proofs.StackBits.{sides_rise, box_fits, bits_more, bits_same}
use Rattle.edr_lines.proofs.stack_masks.set_segment.Goals as goal

pub set_times-requires-clause-rise : goal.set_times-requires-clause-rise
set_times-requires-clause-rise c = sides_rise c.args.corridor.now c.args.axes.now c.args.sides.now c.requires.sides

pub set_times-requires-clause-fit : goal.set_times-requires-clause-fit
set_times-requires-clause-fit c =
    let corridor = c.args.corridor.now in let axes = c.args.axes.now in let sides = c.args.sides.now in let box = c.in_ok-taken.taken in let k : ℕ = c.args.number in
    let read : GridAxes = record { ts = c.axes.inside.ts.now; zs = option_map (λ zs. zs.now) c.axes.inside.zs; ys = c.axes.inside.ys.now; xs = c.axes.inside.xs.now } in
    let taken : TakesNodes corridor.segments k axes box =
    subst (λ (a : GridAxes). TakesNodes corridor.segments k a box) c.axes.view_is (subst (λ (v : CorridorValue). TakesNodes v.segments k read box) c.corridor.view_is c.in_ok-taken.ensures.takes) in
    let on : LiesOn axes box = subst (λ (a : GridAxes). LiesOn a box) c.axes.view_is c.in_ok-taken.ensures.on in
    box_fits corridor axes sides c.requires.sides k box taken c.requires.inside on

pub returns-in_ok-taken-clause-mask : goal.returns-in_ok-taken-clause-mask
returns-in_ok-taken-clause-mask c =
    let corridor = c.args.corridor.now in let axes = c.args.axes.now in let sides = c.args.sides.now in let box = c.in_ok-taken.taken in let k : ℕ = c.args.number in
    let read : GridAxes = record { ts = c.axes.inside.ts.now; zs = option_map (λ zs. zs.now) c.axes.inside.zs; ys = c.axes.inside.ys.now; xs = c.axes.inside.xs.now } in
    let taken : TakesNodes corridor.segments k axes box =
    subst (λ (a : GridAxes). TakesNodes corridor.segments k a box) c.axes.view_is (subst (λ (v : CorridorValue). TakesNodes v.segments k read box) c.corridor.view_is c.in_ok-taken.ensures.takes) in
    bits_more corridor axes sides c.requires.sides k box taken c.args.mask.now c.set_times.new.mask c.requires.mask c.set_times.ensures

pub returns-else-adds-clause-mask : goal.returns-else-adds-clause-mask
returns-else-adds-clause-mask c =
    let corridor = c.args.corridor.now in let axes = c.args.axes.now in let k : ℕ = c.args.number in
    let nothing : AddsNothing corridor.segments k axes.ys axes.xs =
    subst (λ (a : GridAxes). AddsNothing corridor.segments k a.ys a.xs) c.axes.view_is
    (subst (λ (v : CorridorValue). AddsNothing v.segments k c.axes.inside.ys.now c.axes.inside.xs.now) c.corridor.view_is (c.adds.ensures c.if-adds.false)) in
    bits_same corridor axes c.args.sides.now c.requires.sides k nothing c.args.mask.now c.requires.mask
