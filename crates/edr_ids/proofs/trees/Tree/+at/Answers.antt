use Rattle.std.proofs.Common.{◌<◌, ◌∷◌, length, length-append, ap, ◌∙◌, arith}
use Rattle.std.specs.Arc.{arc_value}
use Rattle.edr_ids.proofs.Branches.{branch_is, at_before, at_item, at_behind}
use Rattle.edr_ids.proofs.trees.Tree.+at.Goals as goal

pub at-requires-else-place-before-2 : goal.at-requires-else-place-before-2
at-requires-else-place-before-2 g t c κs within =
    let branch = c.deref-branch.result.now in
    let is = branch_is c.args.self.now c.self.inside.top c.in-Some.branch branch c.self.view_is c.in-Some.is c.deref-branch.ensures in
    let long = ap length is in
    let sum = length-append branch.before (arc_value branch.item ∷ branch.behind) in
    (omega (arith, long, sum, c.decreases), (within, omega (arith, long, sum, c.requires, c.if-place-before-2.false)))

pub returns-then-place-before : goal.returns-then-place-before
returns-then-place-before g t c d =
    let branch = c.deref-branch.result.now in
    let is = branch_is c.args.self.now c.self.inside.top c.in-Some.branch branch c.self.view_is c.in-Some.is c.deref-branch.ensures in
    c.at.ensures d ∙ at_before c.args.self.now branch.before (arc_value branch.item) branch.behind c.args.place d is (omega (arith, c.if-place-before.true, c.len-before.ensures))

pub returns-then-place-before-2 : goal.returns-then-place-before-2
returns-then-place-before-2 g t c d =
    let branch = c.deref-branch.result.now in
    let is = branch_is c.args.self.now c.self.inside.top c.in-Some.branch branch c.self.view_is c.in-Some.is c.deref-branch.ensures in
    c.deref.ensures ∙ at_item c.args.self.now branch.before (arc_value branch.item) branch.behind c.args.place d is (c.if-place-before-2.true ∙ c.len-before.ensures)

pub returns-else-place-before-2 : goal.returns-else-place-before-2
returns-else-place-before-2 g t c d =
    let branch = c.deref-branch.result.now in
    let is = branch_is c.args.self.now c.self.inside.top c.in-Some.branch branch c.self.view_is c.in-Some.is c.deref-branch.ensures in
    let far : length branch.before < c.args.place = omega (arith, c.if-place-before.false, c.if-place-before-2.false, c.len-before.ensures) in
    let read = rw c.len-before.ensures at (c.at-else-place-before-2.ensures d) in
    read ∙ at_behind c.args.self.now branch.before (arc_value branch.item) branch.behind c.args.place d is far
