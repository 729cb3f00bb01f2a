use Rattle.std.proofs.Common.{◌≡◌, ◌++◌, ◌∷◌, [], ap, ◌∙◌}
use Rattle.std.specs.Arc.{arc_value}
use Rattle.edr_near.specs.Kept.{IsMore}
use Rattle.edr_near.proofs.Sides.{if_ok, both_of, turned_round, more_alone}
use Rattle.edr_near.proofs.trees.beside.Goals as goal

pub returns-then-is_behind : goal.returns-then-is_behind
returns-then-is_behind g c =
    let tree = c.args.tree in
    let item = arc_value c.args.item.now in
    let page = c.in_ok-page.page in
    if_ok (λ more. more ≡ tree ++ page) (IsMore tree item) c.joined.result c.joined.ensures
    (λ more is. more_alone tree item more (both_of tree (item ∷ []) more (is ∙ ap (λ l. tree ++ l) c.in_ok-page.ensures)))

pub returns-else-is_behind : goal.returns-else-is_behind
returns-else-is_behind g c =
    let tree = c.args.tree in
    let item = arc_value c.args.item.now in
    let page = c.in_ok-page.page in
    if_ok (λ more. more ≡ page ++ tree) (IsMore tree item) c.joined-else-is_behind.result c.joined-else-is_behind.ensures
    (λ more is. more_alone tree item more (turned_round (item ∷ []) tree more (both_of (item ∷ []) tree more (is ∙ ap (λ l. l ++ tree) c.in_ok-page.ensures))))
