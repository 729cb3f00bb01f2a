use Rattle.std.proofs.Common.{◌++◌, ◌∷◌, ap, ◌∙◌}
use Rattle.std.specs.Arc.{arc_value}
use Rattle.edr_ids.proofs.Branches.{branch_is, followed_is, behind_is}
use Rattle.edr_ids.proofs.trees.turned_to_front.Goals as goal

pub returns-in_default : goal.returns-in_default
returns-in_default g c = c.joined.ensures

pub returns-in_ok-front : goal.returns-in_ok-front
returns-in_ok-front g c =
    let branch = c.deref-branch.result.now in
    let is = branch_is c.args.behind.now c.behind.inside.top c.in-Some.branch branch c.behind.view_is c.in-Some.is c.deref-branch.ensures in
    followed_is _ _ _ c.joined-then-weight-saturating_mul-2.ensures (ap (λ list. list ++ arc_value branch.item ∷ branch.behind) c.in_ok-front.ensures
    ∙ behind_is c.args.before.now branch.before branch.behind c.args.behind.now (arc_value c.args.item.now) (arc_value branch.item) is)

pub returns-else-weight-saturating_mul : goal.returns-else-weight-saturating_mul
returns-else-weight-saturating_mul g c =
    let branch = c.deref-branch.result.now in
    let is = branch_is c.args.behind.now c.behind.inside.top c.in-Some.branch branch c.behind.view_is c.in-Some.is c.deref-branch.ensures in
    followed_is _ _ _ c.divided.ensures (behind_is c.args.before.now branch.before branch.behind c.args.behind.now (arc_value c.args.item.now) (arc_value branch.item) is)
