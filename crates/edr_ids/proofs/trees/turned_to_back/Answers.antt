use Rattle.std.proofs.Common.{◌++◌, ◌∷◌, ap, sym}
use Rattle.std.specs.Arc.{arc_value}
use Rattle.edr_ids.proofs.Branches.{branch_is, followed_is}
use Rattle.edr_ids.proofs.trees.turned_to_back.Goals as goal

pub returns-in_default : goal.returns-in_default
returns-in_default g c = c.joined.ensures

pub returns-then-weight-saturating_mul : goal.returns-then-weight-saturating_mul
returns-then-weight-saturating_mul g c =
    let is = branch_is c.args.front.now c.front.inside.top c.in-Some.branch c.deref-branch.result.now c.front.view_is c.in-Some.is c.deref-branch.ensures in
    followed_is _ _ _ c.joined_to_back.ensures (ap (λ list. list ++ arc_value c.args.item.now ∷ c.args.behind.now) (sym is))

pub returns-else-weight-saturating_mul : goal.returns-else-weight-saturating_mul
returns-else-weight-saturating_mul g c =
    let is = branch_is c.args.front.now c.front.inside.top c.in-Some.branch c.deref-branch.result.now c.front.view_is c.in-Some.is c.deref-branch.ensures in
    followed_is _ _ _ c.divided.ensures (ap (λ list. list ++ arc_value c.args.item.now ∷ c.args.behind.now) (sym is))
