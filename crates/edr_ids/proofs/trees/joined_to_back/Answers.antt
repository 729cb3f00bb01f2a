use Rattle.std.proofs.Common.{sym}
use Rattle.std.specs.Arc.{arc_value}
use Rattle.edr_ids.proofs.Branches.{followed_is, behind_is}
use Rattle.edr_ids.proofs.trees.joined_to_back.Goals as goal

pub returns : goal.returns
returns g c =
    followed_is _ _ _ c.joined-2.ensures (sym (behind_is c.args.before.now c.args.inner.now c.args.outer.now c.in_ok-back.back (arc_value c.args.item.now) (arc_value c.args.top.now) c.in_ok-back.ensures))
