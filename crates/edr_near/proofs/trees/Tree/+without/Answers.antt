use Rattle.std.proofs.Common.{◌≡◌, ◌++◌, sym, ◌∙◌, subst}
use Rattle.edr_near.specs.Kept.{values_of, items_in, IsLeft}
use Rattle.edr_near.specs.Trees.{IsFramed}
use Rattle.edr_near.proofs.Sides.{if_ok, at_page, at_fork, both_of, left_of_both, all_left, outside}
use Rattle.edr_near.proofs.trees.Tree.+without.Goals as goal

pub returns-then-not-holds : goal.returns-then-not-holds
returns-then-not-holds g t c =
    let id_of = g.T.Identified.id_of in
    let spot_of = g.T.Placed.spot_of in
    let frame = c.self.inside.frame in
    let framed = subst (IsFramed spot_of frame) c.self.view_is c.self.invariant.1 in
    all_left id_of spot_of c.args.spot.now c.args.id.now c.args.self.now c.in_ok-share.field-0 c.in_ok-share.ensures
    (outside id_of spot_of c.args.spot.now c.args.id.now frame c.args.self.now framed (sym c.holds.ensures ∙ c.if-not-holds.true))

pub returns-in_ok-items-in-Items : goal.returns-in_ok-items-in-Items
returns-in_ok-items-in-Items g t c =
    let left_of = IsLeft g.T.Identified.id_of g.T.Placed.spot_of c.args.spot.now c.args.id.now in
    let items = values_of c.in_ok-items-in-Items.items.items in
    let page = at_page c.args.self.now c.self.inside.top c.in-Items.page c.deref.result.now c.deref-in-Items.result.now c.self.view_is c.in-Items.is c.deref.ensures c.deref-in-Items.ensures.value in
    if_ok (λ left. items_in left ≡ items) (λ left. left_of c.args.self.now (items_in left)) c.on_page_if_any.result c.on_page_if_any.ensures
    (λ left is. subst (left_of c.args.self.now) (sym is) (subst (λ l. left_of l items) page c.in_ok-items-in-Items.ensures))

pub returns-in_ok-behind-in-Sides : goal.returns-in_ok-behind-in-Sides
returns-in_ok-behind-in-Sides g t c =
    let id_of = g.T.Identified.id_of in
    let spot_of = g.T.Placed.spot_of in
    let fork = c.deref-fork.result.now in
    let at = at_fork c.args.self.now c.self.inside.top c.in-Sides.fork fork c.self.view_is c.in-Sides.is c.deref-fork.ensures c.self.invariant.0 in
    let front = items_in c.in_ok-before-in-Sides.before in
    let back = items_in c.in_ok-behind-in-Sides.behind in
    if_ok (λ left. items_in left ≡ front ++ back) (λ left. IsLeft id_of spot_of c.args.spot.now c.args.id.now c.args.self.now (items_in left)) c.rejoined.result c.rejoined.ensures
    (λ left is. left_of_both id_of spot_of c.args.spot.now c.args.id.now fork.before fork.behind c.args.self.now front back (items_in left)
    (both_of fork.before fork.behind c.args.self.now at.is) is c.in_ok-before-in-Sides.ensures c.in_ok-behind-in-Sides.ensures)
