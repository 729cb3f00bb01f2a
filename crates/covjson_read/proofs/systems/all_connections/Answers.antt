use Rattle.std.proofs.Common.{rules, ◌≡◌, true, false, refl}
use Rattle.edr_samples.specs.Trees.{tree_view}
use Rattle.covjson_checks.specs.ItemTests.{item_passes, item_fails, items_passed}
use Rattle.covjson_read.specs.SystemAnswers.{all_that, is_connection}
use Rattle.covjson_read.proofs.systems.all_connections.Goals as goal

pub returns-then-is_none : goal.returns-then-is_none
returns-then-is_none c =
    let items_is = c.deref-entry-items.ensures.value in
    let fails : false ≡ is_connection (tree_view c.entry-item.result) = search rules in
    item_fails is_connection (all_that is_connection) (λ d ds. refl) c.args.entries.now.items c.loop-entry.entry-index _ c.entry-item.result (rw items_is at c.loop-entry-test.true)
    (rw items_is at c.entry-item.is) fails c.loop-entry.invariant

pub loop-entry-preserved : goal.loop-entry-preserved
loop-entry-preserved c =
    let items_is = c.deref-entry-items.ensures.value in
    let passes : true ≡ is_connection (tree_view c.entry-item.result) = search rules in
    item_passes is_connection (all_that is_connection) (λ d ds. refl) c.args.entries.now.items c.loop-entry.entry-index _ c.entry-item.result (rw items_is at c.loop-entry-test.true)
    (rw items_is at c.entry-item.is) passes c.loop-entry.invariant

pub returns : goal.returns
returns c =
    items_passed (all_that is_connection) refl c.args.entries.now.items c.loop-entry.entry-index _ (rw c.deref-entry-items.ensures.value at c.loop-entry-test.false) c.loop-entry.invariant
