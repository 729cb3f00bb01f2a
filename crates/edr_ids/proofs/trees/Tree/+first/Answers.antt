use Rattle.std.proofs.Common.{◌++◌, ◌∷◌, ap, ◌∙◌}
use Rattle.std.specs.Arc.{arc_value}
use Rattle.edr_ids.proofs.Branches.{branch_is, first_is}
use Rattle.edr_ids.proofs.trees.Tree.+first.Goals as goal

pub returns-in-Some-first : goal.returns-in-Some-first
returns-in-Some-first g t c =
    let branch = c.deref-branch.result.now in
    let is = branch_is c.args.self.now c.self.inside.top c.in-Some.branch c.deref-branch.result.now c.self.view_is c.in-Some.is c.deref-branch.ensures in
    let front = rw c.in-Some-first.is at c.first.ensures in
    first_is c.args.self.now _ (arc_value c.in-Some-first.first.now) (is ∙ ap (λ list. list ++ arc_value branch.item ∷ branch.behind) front)

pub returns-in-None : goal.returns-in-None
returns-in-None g t c =
    let branch = c.deref-branch.result.now in
    let is = branch_is c.args.self.now c.self.inside.top c.in-Some.branch c.deref-branch.result.now c.self.view_is c.in-Some.is c.deref-branch.ensures in
    let front = rw c.in-None.is at c.first.ensures in
    first_is c.args.self.now branch.behind (arc_value branch.item) (is ∙ ap (λ list. list ++ arc_value branch.item ∷ branch.behind) front)
