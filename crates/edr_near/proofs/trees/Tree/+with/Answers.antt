use Rattle.std.proofs.Common.{◌≡◌, ◌++◌, ◌∷◌, [], ap, ◌∙◌}
use Rattle.std.specs.Arc.{arc_value}
use Rattle.edr_near.specs.Kept.{values_of, HasAll, IsMore}
use Rattle.edr_near.proofs.Sides.{if_ok, at_page, at_fork, both_of, turned_round, pushed_more, all_more, more_beside}
use Rattle.edr_near.proofs.trees.Tree.+with.Goals as goal

pub returns-in_ok-items-in-Items : goal.returns-in_ok-items-in-Items
returns-in_ok-items-in-Items g t c =
    let item = arc_value c.args.item.now in
    let items = values_of c.in_ok-items-in-Items.items.items in
    let page = at_page c.args.self.now c.self.inside.top c.in-Items.page c.deref.result.now c.deref-in-Items.result.now c.self.view_is c.in-Items.is c.deref.ensures c.deref-in-Items.ensures.value in
    if_ok (HasAll items) (IsMore c.args.self.now item) c.on_pages.result c.on_pages.ensures
    (λ tree all. all_more c.args.self.now item items tree (pushed_more c.args.self.now item items (c.in_ok-items-in-Items.ensures ∙ ap (λ l. l ++ item ∷ []) page)) all)

pub returns-in_ok-share-in-Before : goal.returns-in_ok-share-in-Before
returns-in_ok-share-in-Before g t c =
    let item = arc_value c.args.item.now in
    let fork = c.deref-fork.result.now in
    let at = at_fork c.args.self.now c.self.inside.top c.in-Sides.fork fork c.self.view_is c.in-Sides.is c.deref-fork.ensures c.self.invariant.0 in
    let more = c.in_ok-before-in-Before.before in
    let shared = c.in_ok-share-in-Before.field-0 in
    if_ok (λ tree. tree ≡ more ++ shared) (IsMore c.args.self.now item) c.joined-in-Before.result c.joined-in-Before.ensures
    (λ tree is. more_beside item fork.before more fork.behind c.args.self.now tree c.in_ok-before-in-Before.ensures (both_of fork.before fork.behind c.args.self.now at.is)
    (both_of more fork.behind tree (is ∙ ap (λ l. more ++ l) c.in_ok-share-in-Before.ensures)))

pub returns-in_ok-share-in-Behind : goal.returns-in_ok-share-in-Behind
returns-in_ok-share-in-Behind g t c =
    let item = arc_value c.args.item.now in
    let fork = c.deref-fork.result.now in
    let at = at_fork c.args.self.now c.self.inside.top c.in-Sides.fork fork c.self.view_is c.in-Sides.is c.deref-fork.ensures c.self.invariant.0 in
    let more = c.in_ok-behind-in-Behind.behind in
    let shared = c.in_ok-share-in-Behind.field-0 in
    if_ok (λ tree. tree ≡ shared ++ more) (IsMore c.args.self.now item) c.joined-in-Behind.result c.joined-in-Behind.ensures
    (λ tree is. more_beside item fork.behind more fork.before c.args.self.now tree c.in_ok-behind-in-Behind.ensures
    (turned_round fork.before fork.behind c.args.self.now (both_of fork.before fork.behind c.args.self.now at.is))
    (turned_round fork.before more tree (both_of fork.before more tree (is ∙ ap (λ l. l ++ more) c.in_ok-share-in-Behind.ensures))))
