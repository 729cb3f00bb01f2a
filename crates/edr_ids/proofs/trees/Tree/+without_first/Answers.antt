use Rattle.std.proofs.Common.{◌++◌, ◌∷◌, ap, sym, ◌∙◌}
use Rattle.std.specs.Arc.{arc_value}
use Rattle.edr_ids.proofs.Branches.{branch_is, followed_is, others_behind, others_before}
use Rattle.edr_ids.proofs.trees.Tree.+without_first.Goals as goal

pub returns-then-len-eq0 : goal.returns-then-len-eq0
returns-then-len-eq0 g t c =
    let branch = c.deref-branch.result.now in
    let is = branch_is c.args.self.now c.self.inside.top c.in-Some.branch c.deref-branch.result.now c.self.view_is c.in-Some.is c.deref-branch.ensures in
    followed_is _ _ _ c.share.ensures (others_behind c.args.self.now branch.before (arc_value branch.item) branch.behind is (sym c.len.ensures ∙ c.if-len-eq0.true))

pub returns : goal.returns
returns g t c =
    let branch = c.deref-branch.result.now in
    let rest = arc_value branch.item ∷ branch.behind in
    let is = branch_is c.args.self.now c.self.inside.top c.in-Some.branch c.deref-branch.result.now c.self.view_is c.in-Some.is c.deref-branch.ensures in
    followed_is _ _ _ c.balanced.ensures (ap (λ list. list ++ rest) c.in_ok-before.ensures ∙ others_before c.args.self.now branch.before rest is (λ none. c.if-len-eq0.false (c.len.ensures ∙ none)))
