use Rattle.std.proofs.Common.{◌-◌, length, arith, ◌∙◌, sym}
use Rattle.edr_lines.proofs.Neighbours.{ends_is}
use Rattle.edr_lines.proofs.vertices.ends_in.Goals as goal

pub returns-in-Some : goal.returns-in-Some
returns-in-Some c =
    let steps = c.args.steps.now in
    let item = c.in-Some.ensures.item in
    c.eq.ensures ∙ sym (ends_is steps c.in-Some.last.now c.args.step (length steps - 1) (omega (arith, item.3.0)) item.1)
