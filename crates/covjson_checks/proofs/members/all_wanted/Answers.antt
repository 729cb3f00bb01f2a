use Rattle.std.proofs.Common.{refl, sym, ◌∙◌}
use Rattle.edr_samples.specs.Trees.{items_view}
use Rattle.covjson_checks.specs.Members.{is_wanted, all_wanted}
use Rattle.covjson_checks.specs.ItemTests.{item_passes, item_fails, items_passed}
use Rattle.covjson_checks.proofs.members.all_wanted.Goals as goal

pub returns-then-not-is_wanted : goal.returns-then-not-is_wanted
returns-then-not-is_wanted c =
    let xs = c.args.items.now.items in
    let wanted = c.args.wanted in
    let items_is = c.deref-item-items.ensures.value in
    let inside = rw items_is at c.loop-item-test.true in
    let is = rw items_is at c.item-item.is in
    item_fails (is_wanted wanted) (all_wanted wanted) (λ d ds. refl) xs c.loop-item.item-index (all_wanted wanted (items_view xs)) c.item-item.result inside is
    (sym c.if-not-is_wanted.true ∙ c.is_wanted.ensures) c.loop-item.invariant

pub loop-item-preserved : goal.loop-item-preserved
loop-item-preserved c =
    let xs = c.args.items.now.items in
    let wanted = c.args.wanted in
    let items_is = c.deref-item-items.ensures.value in
    let inside = rw items_is at c.loop-item-test.true in
    let is = rw items_is at c.item-item.is in
    item_passes (is_wanted wanted) (all_wanted wanted) (λ d ds. refl) xs c.loop-item.item-index (all_wanted wanted (items_view xs)) c.item-item.result inside is
    (sym c.if-not-is_wanted.false ∙ c.is_wanted.ensures) c.loop-item.invariant

pub returns : goal.returns
returns c =
    let xs = c.args.items.now.items in
    let wanted = c.args.wanted in
    items_passed (all_wanted wanted) refl xs c.loop-item.item-index (all_wanted wanted (items_view xs)) (rw c.deref-item-items.ensures.value at c.loop-item-test.false) c.loop-item.invariant
