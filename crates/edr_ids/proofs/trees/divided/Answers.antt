use Rattle.std.proofs.Common.{◌++◌, ◌∷◌, ap, ◌∙◌}
use Rattle.std.specs.Arc.{arc_value}
use Rattle.edr_ids.proofs.Branches.{branch_is, followed_is, behind_is}
use Rattle.edr_ids.proofs.trees.divided.Goals as goal

pub returns-in_default : goal.returns-in_default
returns-in_default g c = c.joined_to_back.ensures

pub returns : goal.returns
returns g c =
    let branch = c.deref-branch.result.now in
    let is = branch_is c.args.inner.now c.inner.inside.top c.in-Some.branch branch c.inner.view_is c.in-Some.is c.deref-branch.ensures in
    followed_is _ _ _ c.joined_to_back-2.ensures
    (ap (λ list. list ++ arc_value c.args.top.now ∷ c.args.outer.now) (ap (λ list. list ++ arc_value branch.item ∷ branch.behind) c.in_ok-front.ensures
    ∙ behind_is c.args.before.now branch.before branch.behind c.args.inner.now (arc_value c.args.item.now) (arc_value branch.item) is))
