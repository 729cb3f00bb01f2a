use Rattle.std.proofs.Common.{◌≡◌, ◌++◌, ap₂, ◌∙◌, subst}
use Rattle.edr_near.specs.Kept.{values_of, HasAll, AreBoth}
use Rattle.edr_near.proofs.Sides.{if_ok, two_pages}
use Rattle.edr_near.proofs.trees.on_pages.Goals as goal

pub returns : goal.returns
returns g c =
    let items = values_of c.args.items.items in
    let front = values_of c.in_ok-before.before.items in
    let back = values_of c.in_ok-before.behind.items in
    let are = subst (λ l. AreBoth front back (values_of l)) c.deref-2.ensures.value c.in_ok-before.ensures in
    if_ok (λ tree. tree ≡ c.in_ok-on_page.field-0 ++ c.in_ok-on_page-2.field-0) (HasAll items) c.joined-2.result c.joined-2.ensures
    (λ tree is. two_pages front back items tree are (is ∙ ap₂ (λ a b. a ++ b) c.in_ok-on_page.ensures c.in_ok-on_page-2.ensures))
