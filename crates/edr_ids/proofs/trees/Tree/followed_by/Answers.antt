use Rattle.std.proofs.Common.{◌++◌, ◌∷◌, append-nil, ap, sym, ◌∙◌}
use Rattle.std.specs.Arc.{arc_value}
use Rattle.edr_ids.proofs.Branches.{followed_is}
use Rattle.edr_ids.proofs.trees.Tree.followed_by.Goals as goal

pub returns-in-None : goal.returns-in-None
returns-in-None g c =
    let none = rw c.in-None.is at c.first.ensures in
    followed_is _ _ _ c.share.ensures (sym (ap (λ list. c.args.self.now ++ list) none ∙ append-nil c.args.self.now))

pub returns-in_ok-others-in-Some : goal.returns-in_ok-others-in-Some
returns-in_ok-others-in-Some g c =
    let parts = rw c.in-Some.is at c.first.ensures in
    followed_is _ _ _ c.balanced.ensures (ap (λ list. c.args.self.now ++ list) (ap (λ list. arc_value c.in-Some.first.now ∷ list) c.in_ok-others-in-Some.ensures ∙ sym parts))
