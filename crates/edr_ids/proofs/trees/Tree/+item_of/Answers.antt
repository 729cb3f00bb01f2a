use Rattle.std.proofs.Common.{◌≡◌, Less, Equal, Greater, Some, ap, sym, ◌∙◌, arith}
use Rattle.std.specs.Arc.{arc_value}
use Rattle.edr_base.specs.Names.{order}
use Rattle.edr_ids.specs.Ids.{item_of}
use Rattle.edr_ids.proofs.Branches.{at_branch}
use Rattle.edr_ids.proofs.PartedLists.{item_of-less, item_of-equal, item_of-greater}
use Rattle.edr_ids.proofs.trees.Tree.+item_of.Goals as goal

pub item_of-requires : goal.item_of-requires
item_of-requires g t c κs within =
    let at = at_branch g.T.Identified.id_of c.args.self.now c.self.inside.top c.in-Some.branch c.deref-branch.result.now c.self.view_is c.in-Some.is c.deref-branch.ensures c.requires in
    (omega (arith, at.before_shorter, c.decreases), (within, at.parts.low))

pub item_of-requires-in-Greater : goal.item_of-requires-in-Greater
item_of-requires-in-Greater g t c κs within =
    let at = at_branch g.T.Identified.id_of c.args.self.now c.self.inside.top c.in-Some.branch c.deref-branch.result.now c.self.view_is c.in-Some.is c.deref-branch.ensures c.requires in
    (omega (arith, at.behind_shorter, c.decreases), (within, at.parts.high))

pub returns-in-Less : goal.returns-in-Less
returns-in-Less g t c =
    let key = g.T.Identified.id_of in
    let id = c.args.id.now in
    let branch = c.deref-branch.result.now in
    let at = at_branch key c.args.self.now c.self.inside.top c.in-Some.branch branch c.self.view_is c.in-Some.is c.deref-branch.ensures c.requires in
    let less : order id (key (arc_value branch.item)) ≡ Less = ap (order id) (sym c.id.ensures) ∙ sym c.cmp.ensures ∙ c.in-Less.is in
    c.item_of.ensures ∙ sym (ap (item_of key id) at.is ∙ item_of-less key id branch.before (arc_value branch.item) branch.behind at.parts less)

pub returns-in-Equal : goal.returns-in-Equal
returns-in-Equal g t c =
    let key = g.T.Identified.id_of in
    let id = c.args.id.now in
    let branch = c.deref-branch.result.now in
    let at = at_branch key c.args.self.now c.self.inside.top c.in-Some.branch branch c.self.view_is c.in-Some.is c.deref-branch.ensures c.requires in
    let same : order id (key (arc_value branch.item)) ≡ Equal = ap (order id) (sym c.id.ensures) ∙ sym c.cmp.ensures ∙ c.in-Equal.is in
    ap Some c.deref.ensures ∙ sym (ap (item_of key id) at.is ∙ item_of-equal key id branch.before (arc_value branch.item) branch.behind at.parts same)

pub returns-in-Greater : goal.returns-in-Greater
returns-in-Greater g t c =
    let key = g.T.Identified.id_of in
    let id = c.args.id.now in
    let branch = c.deref-branch.result.now in
    let at = at_branch key c.args.self.now c.self.inside.top c.in-Some.branch branch c.self.view_is c.in-Some.is c.deref-branch.ensures c.requires in
    let more : order id (key (arc_value branch.item)) ≡ Greater = ap (order id) (sym c.id.ensures) ∙ sym c.cmp.ensures ∙ c.in-Greater.is in
    c.item_of-in-Greater.ensures ∙ sym (ap (item_of key id) at.is ∙ item_of-greater key id branch.before (arc_value branch.item) branch.behind at.parts more)
