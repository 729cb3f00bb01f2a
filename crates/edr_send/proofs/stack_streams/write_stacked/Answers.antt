use Rattle.std.proofs.Common.{rules, ◌≡◌, ◌≤◌, ◌∙◌, ℕ, ap, subst, sym, refl, arith, length, get_or}
use Rattle.edr_base.specs.Limits.{node_limit}
use Rattle.edr_base.specs.KnownBytes.{front_none}
use Rattle.edr_chunk.specs.declared.shapes.GridShape.{GridShape}
use Rattle.edr_select.specs.Framings.{FrameValue, IsFrame, plane_cells}
use Rattle.edr_select.specs.Stacks.{StackValue, plane_at, time_at, level_at, cells_of_plane}
use Rattle.edr_send.proofs.Additions.{adds_same}
use Rattle.edr_send.proofs.TextSteps.{writes_fault}
use Rattle.edr_send.proofs.FrameSteps.{text_from, once_in}
use Rattle.edr_send.proofs.StackTiles.{few, plane_is_frame, plane_tiles}
use Rattle.edr_send.proofs.stack_streams.write_stacked.Goals as goal

pub plane_of-requires-clause-times : goal.plane_of-requires-clause-times
plane_of-requires-clause-times g c =
    let stacking = c.args.stacking.now in
    let same : c.stacking.inside.stack ≡ stacking.stack = search rules in
    let small = (c.sides_are_small.ensures stacking.shape c.stacking_stands.ensures.is.shape).times in
    let many = few stacking.stack.sides.times stacking.shape.times c.stacking_stands.ensures.is.stack.sides.times_rise c.stacking_stands.ensures.is.stack.sides.times in
    subst (λ (stack : StackValue). length stack.sides.times ≤ node_limit) (sym same) (omega (arith, small, many))

pub plane_of-requires-clause-levels : goal.plane_of-requires-clause-levels
plane_of-requires-clause-levels g c =
    let stacking = c.args.stacking.now in
    let same : c.stacking.inside.stack ≡ stacking.stack = search rules in
    let small = (c.sides_are_small.ensures stacking.shape c.stacking_stands.ensures.is.shape).levels in
    let many = few stacking.stack.sides.levels stacking.shape.levels c.stacking_stands.ensures.is.stack.sides.levels_rise c.stacking_stands.ensures.is.stack.sides.levels in
    subst (λ (stack : StackValue). length stack.sides.levels ≤ node_limit) (sym same) (omega (arith, small, many))

pub write_strips-requires-clause-frame : goal.write_strips-requires-clause-frame
write_strips-requires-clause-frame g c =
    let shape : GridShape = c.args.stacking.now.shape in
    let stack : StackValue = c.args.stacking.now.stack in
    let is : IsFrame shape (plane_at stack c.args.place.time c.args.place.level) = plane_is_frame shape stack c.stacking_stands.ensures.is.stack c.args.place.time c.args.place.level c.requires.time c.requires.level in
    let same : c.stacking.inside.stack ≡ stack = search rules in
    let plane : c.in_ok-plane.plane ≡ plane_at stack c.args.place.time c.args.place.level = c.in_ok-plane.ensures ∙ ap (λ (s : StackValue). plane_at s c.args.place.time c.args.place.level) same in
    let across : c.stacking-inside.inside.0.0 ≡ shape = search rules in
    subst (λ (s : GridShape). IsFrame s c.in_ok-plane.plane) (sym across) (subst (λ (x : FrameValue). IsFrame shape x) (sym plane) is)

pub returns-clause-reads : goal.returns-clause-reads
returns-clause-reads g c =
    let shape : GridShape = c.args.stacking.now.shape in
    let stack : StackValue = c.args.stacking.now.stack in
    let p : ℕ = c.args.parameter in
    let same : c.stacking.inside.stack ≡ stack = search rules in
    let plane : c.in_ok-plane.plane ≡ plane_at stack c.args.place.time c.args.place.level = c.in_ok-plane.ensures ∙ ap (λ (s : StackValue). plane_at s c.args.place.time c.args.place.level) same in
    let across : c.stacking-inside.inside.0.0 ≡ shape = search rules in
    let time : get_or c.items.result.now c.args.place.time 0 ≡ time_at stack.sides c.args.place.time = search rules in
    let level : get_or c.items-2.result.now c.args.place.level 0 ≡ level_at stack.sides c.args.place.level = search rules in
    adds_same c.write_strips.result (once_in c.stacking-inside.inside.0.0 p (plane_cells c.in_ok-plane.plane (get_or c.items.result.now c.args.place.time 0) (get_or c.items-2.result.now c.args.place.level 0))) (once_in shape p (cells_of_plane stack c.args.place.time c.args.place.level))
    c.args.store.now.numbers c.write_strips.new.store.numbers
    (plane_tiles c.stacking-inside.inside.0.0 shape c.in_ok-plane.plane (plane_at stack c.args.place.time c.args.place.level) (get_or c.items.result.now c.args.place.time 0) (time_at stack.sides c.args.place.time) (get_or c.items-2.result.now c.args.place.level 0) (level_at stack.sides c.args.place.level) p across plane time level)
    c.write_strips.ensures.reads

pub returns-in_err-plane-clause-bytes : goal.returns-in_err-plane-clause-bytes
returns-in_err-plane-clause-bytes g c =
    let written = g.K.Sink.written in
    let text = text_from c.args.writer.now.values c.args.store.now.subject c.args.parameter (cells_of_plane c.args.stacking.now.stack c.args.place.time c.args.place.level) in
    writes_fault c.from_residual.result text (written c.args.sink.now) (written c.args.sink.now) (search rules) (front_none (written c.args.sink.now) (written c.args.sink.now) text refl)
