use Rattle.std.proofs.Common.{◌≡◌, ◌∙◌, false, length, replicate, ap}
use Rattle.edr_corridor.specs.Boxes.{GridAxes}
use Rattle.edr_lines.specs.Taken.{counts_of}
use Rattle.edr_lines.proofs.Filled.{filled}
use Rattle.edr_lines.proofs.BoxSpreads.{nothing_spreads}
use Rattle.edr_lines.proofs.spreads.no_spread.Goals as goal

pub returns : goal.returns
returns c =
    let n = counts_of c.args.axes.now in
    let many : c.len.result ≡ n.times = c.len.ensures.0 ∙ ap (λ (a : GridAxes). length a.ts) c.axes.view_is in
    let times : c.resize.new.self.items ≡ replicate n.times false =
    filled false c.len.result n.times c.new-times.result.len c.new-times.result.items c.resize.new.self.items c.new-times.ensures.items c.new-times.ensures.len many c.in_ok-resize.ensures.items in
    let levels : c.resize-2.new.self.items ≡ replicate n.levels false =
    filled false c.level_count.result n.levels c.new-levels.result.len c.new-levels.result.items c.resize-2.new.self.items c.new-levels.ensures.items c.new-levels.ensures.len c.level_count.ensures c.in_ok-resize-2.ensures.items in
    nothing_spreads n c.resize.new.self.items c.resize-2.new.self.items times levels
