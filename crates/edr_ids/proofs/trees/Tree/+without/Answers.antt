use Rattle.std.proofs.Common.{◌≡◌, ◌++◌, ◌∷◌, Less, Equal, Greater, ap, sym, ◌∙◌, arith}
use Rattle.std.specs.Arc.{arc_value}
use Rattle.edr_base.specs.Names.{order}
use Rattle.edr_ids.specs.Ids.{without_id}
use Rattle.edr_ids.proofs.Branches.{at_branch, followed_is}
use Rattle.edr_ids.proofs.PartedLists.{without_id-less, without_id-equal, without_id-greater}
use Rattle.edr_ids.proofs.trees.Tree.+without.Goals as goal

pub without-requires : goal.without-requires
without-requires g t c κs within =
    let at = at_branch g.T.Identified.id_of c.args.self.now c.self.inside.top c.in-Some.branch c.deref-branch.result.now c.self.view_is c.in-Some.is c.deref-branch.ensures c.requires in
    (omega (arith, at.before_shorter, c.decreases), (within, at.parts.low))

pub without-requires-in-Greater : goal.without-requires-in-Greater
without-requires-in-Greater g t c κs within =
    let at = at_branch g.T.Identified.id_of c.args.self.now c.self.inside.top c.in-Some.branch c.deref-branch.result.now c.self.view_is c.in-Some.is c.deref-branch.ensures c.requires in
    (omega (arith, at.behind_shorter, c.decreases), (within, at.parts.high))

pub returns-in_ok-before-in-Less : goal.returns-in_ok-before-in-Less
returns-in_ok-before-in-Less g t c =
    let key = g.T.Identified.id_of in
    let id = c.args.id.now in
    let branch = c.deref-branch.result.now in
    let item = arc_value branch.item in
    let at = at_branch key c.args.self.now c.self.inside.top c.in-Some.branch branch c.self.view_is c.in-Some.is c.deref-branch.ensures c.requires in
    let less : order id (key item) ≡ Less = ap (order id) (sym c.id.ensures) ∙ sym c.cmp.ensures ∙ c.in-Less.is in
    followed_is _ _ _ c.balanced.ensures (ap (λ list. list ++ item ∷ branch.behind) c.in_ok-before-in-Less.ensures ∙ sym (ap (without_id key id) at.is ∙ without_id-less key id branch.before item branch.behind at.parts less))

pub returns-in-Equal : goal.returns-in-Equal
returns-in-Equal g t c =
    let key = g.T.Identified.id_of in
    let id = c.args.id.now in
    let branch = c.deref-branch.result.now in
    let item = arc_value branch.item in
    let at = at_branch key c.args.self.now c.self.inside.top c.in-Some.branch branch c.self.view_is c.in-Some.is c.deref-branch.ensures c.requires in
    let same : order id (key item) ≡ Equal = ap (order id) (sym c.id.ensures) ∙ sym c.cmp.ensures ∙ c.in-Equal.is in
    followed_is _ _ _ c.followed_by.ensures (sym (ap (without_id key id) at.is ∙ without_id-equal key id branch.before item branch.behind at.parts same))

pub returns-in_ok-behind-in-Greater : goal.returns-in_ok-behind-in-Greater
returns-in_ok-behind-in-Greater g t c =
    let key = g.T.Identified.id_of in
    let id = c.args.id.now in
    let branch = c.deref-branch.result.now in
    let item = arc_value branch.item in
    let at = at_branch key c.args.self.now c.self.inside.top c.in-Some.branch branch c.self.view_is c.in-Some.is c.deref-branch.ensures c.requires in
    let more : order id (key item) ≡ Greater = ap (order id) (sym c.id.ensures) ∙ sym c.cmp.ensures ∙ c.in-Greater.is in
    followed_is _ _ _ c.balanced-in-Greater.ensures (ap (λ list. branch.before ++ item ∷ list) c.in_ok-behind-in-Greater.ensures ∙ sym (ap (without_id key id) at.is ∙ without_id-greater key id branch.before item branch.behind at.parts more))
