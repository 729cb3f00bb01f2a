use Rattle.std.proofs.Common.{arith, Vec, Global, ap, sym, ◌∙◌}
use Rattle.edr_select.specs.declared.plans.GridNode.{GridNode}
use Rattle.edr_lines.specs.Vertices.{step_at}
use Rattle.edr_lines.proofs.Neighbours.{step_if, steps_more}
use Rattle.edr_lines.proofs.vertices.steps_of.Goals.{in-Some+in_ok-add_step, in_default}
use Rattle.edr_lines.proofs.vertices.steps_of.Goals as goal

pub loop-vertex-preserved : goal.loop-vertex-preserved
loop-vertex-preserved c =
    let line = c.line_of-has_z.result.0.now in
    let old = c.loop-vertex.steps.items in
    let new = c.match-step_of.steps.items in
    steps_more (step_at c.args.axes.now c.line_of-has_z.result.1 c.line_of-has_z.result.2) line c.loop-vertex.vertex-index _ old new c.step_of.result (omega arith)
    c.step_of.ensures c.loop-vertex.invariant (elim c.match-step_of.branch [
      | in-Some+in_ok-add_step w ↦ ap (λ (v : Vec GridNode Global). v.items) w.steps-is ∙ (w.in_ok-add_step.ensures ∙ ap (step_if old) (sym w.in-Some.is))
      | in_default w ↦ ap (λ (v : Vec GridNode Global). v.items) w.steps-is ∙ ap (step_if old) (sym w.in_default.is)
    ])
