use Rattle.std.proofs.Common.{◌≡◌, ◌++◌, ◌∷◌, Less, Equal, Greater, ap, sym, ◌∙◌, arith}
use Rattle.std.specs.Arc.{arc_value}
use Rattle.edr_base.specs.Names.{order}
use Rattle.edr_ids.specs.Ids.{with_item}
use Rattle.edr_ids.proofs.Branches.{at_branch, followed_is}
use Rattle.edr_ids.proofs.PartedLists.{with_item-less, with_item-equal, with_item-greater}
use Rattle.edr_ids.proofs.trees.Tree.+with.Goals as goal

pub with-requires : goal.with-requires
with-requires g t c κs within =
    let at = at_branch g.T.Identified.id_of c.args.self.now c.self.inside.top c.in-Some.branch c.deref-branch.result.now c.self.view_is c.in-Some.is c.deref-branch.ensures c.requires in
    (omega (arith, at.before_shorter, c.decreases), (within, at.parts.low))

pub with-requires-in-Greater : goal.with-requires-in-Greater
with-requires-in-Greater g t c κs within =
    let at = at_branch g.T.Identified.id_of c.args.self.now c.self.inside.top c.in-Some.branch c.deref-branch.result.now c.self.view_is c.in-Some.is c.deref-branch.ensures c.requires in
    (omega (arith, at.behind_shorter, c.decreases), (within, at.parts.high))

pub returns-in_ok-before-in-Less : goal.returns-in_ok-before-in-Less
returns-in_ok-before-in-Less g t c =
    let key = g.T.Identified.id_of in
    let new = arc_value c.args.item.now in
    let branch = c.deref-branch.result.now in
    let item = arc_value branch.item in
    let at = at_branch key c.args.self.now c.self.inside.top c.in-Some.branch branch c.self.view_is c.in-Some.is c.deref-branch.ensures c.requires in
    let found : c.cmp.result ≡ Less = c.in-Less.is in
    let less : order (key new) (key item) ≡ Less = ap (λ id. order id (key item)) (sym c.id.ensures) ∙ ap (order c.id.result.now) (sym c.id-2.ensures) ∙ sym c.cmp.ensures ∙ found in
    followed_is _ _ _ c.balanced.ensures (ap (λ list. list ++ item ∷ branch.behind) c.in_ok-before-in-Less.ensures ∙ sym (ap (with_item key new) at.is ∙ with_item-less key new branch.before item branch.behind at.parts less))

pub returns-in-Equal : goal.returns-in-Equal
returns-in-Equal g t c =
    let key = g.T.Identified.id_of in
    let new = arc_value c.args.item.now in
    let branch = c.deref-branch.result.now in
    let item = arc_value branch.item in
    let at = at_branch key c.args.self.now c.self.inside.top c.in-Some.branch branch c.self.view_is c.in-Some.is c.deref-branch.ensures c.requires in
    let found : c.cmp.result ≡ Equal = c.in-Equal.is in
    let same : order (key new) (key item) ≡ Equal = ap (λ id. order id (key item)) (sym c.id.ensures) ∙ ap (order c.id.result.now) (sym c.id-2.ensures) ∙ sym c.cmp.ensures ∙ found in
    followed_is _ _ _ c.joined-in-Equal.ensures (sym (ap (with_item key new) at.is ∙ with_item-equal key new branch.before item branch.behind at.parts same))

pub returns-in_ok-behind-in-Greater : goal.returns-in_ok-behind-in-Greater
returns-in_ok-behind-in-Greater g t c =
    let key = g.T.Identified.id_of in
    let new = arc_value c.args.item.now in
    let branch = c.deref-branch.result.now in
    let item = arc_value branch.item in
    let at = at_branch key c.args.self.now c.self.inside.top c.in-Some.branch branch c.self.view_is c.in-Some.is c.deref-branch.ensures c.requires in
    let found : c.cmp.result ≡ Greater = c.in-Greater.is in
    let more : order (key new) (key item) ≡ Greater = ap (λ id. order id (key item)) (sym c.id.ensures) ∙ ap (order c.id.result.now) (sym c.id-2.ensures) ∙ sym c.cmp.ensures ∙ found in
    followed_is _ _ _ c.balanced-in-Greater.ensures (ap (λ list. branch.before ++ item ∷ list) c.in_ok-behind-in-Greater.ensures ∙ sym (ap (with_item key new) at.is ∙ with_item-greater key new branch.before item branch.behind at.parts more))
