use Rattle.std.proofs.Common.{refl, sym, ◌∙◌}
use Rattle.serde_json.specs.Find.{as_array}
use Rattle.edr_samples.specs.Trees.{items_view}
use Rattle.covjson_checks.specs.ItemTests.{item_passes, item_fails, items_passed}
use Rattle.covjson_domains.specs.TupleAnswers.{list_passes, tuples_pass}
use Rattle.covjson_domains.proofs.tuples.tuples_pass.Goals as goal

pub returns-then-not-list_passes : goal.returns-then-not-list_passes
returns-then-not-list_passes c =
    let xs = c.args.items.now.items in
    let test = c.args.test in
    let names = c.args.names.now in
    let items_is = c.deref-tuple-items.ensures.value in
    let inside = rw items_is at c.loop-tuple-test.true in
    let is = rw items_is at c.tuple-item.is in
    item_fails (λ d. list_passes test names (as_array d)) (tuples_pass test names) (λ d ds. refl) xs c.loop-tuple.tuple-index (tuples_pass test names (items_view xs)) c.tuple-item.result inside is
    (sym c.if-not-list_passes.true ∙ c.list_passes.ensures) c.loop-tuple.invariant

pub loop-tuple-preserved : goal.loop-tuple-preserved
loop-tuple-preserved c =
    let xs = c.args.items.now.items in
    let test = c.args.test in
    let names = c.args.names.now in
    let items_is = c.deref-tuple-items.ensures.value in
    let inside = rw items_is at c.loop-tuple-test.true in
    let is = rw items_is at c.tuple-item.is in
    item_passes (λ d. list_passes test names (as_array d)) (tuples_pass test names) (λ d ds. refl) xs c.loop-tuple.tuple-index (tuples_pass test names (items_view xs)) c.tuple-item.result inside is
    (sym c.if-not-list_passes.false ∙ c.list_passes.ensures) c.loop-tuple.invariant

pub returns : goal.returns
returns c =
    let xs = c.args.items.now.items in
    let all = tuples_pass c.args.test c.args.names.now in
    items_passed all refl xs c.loop-tuple.tuple-index (all (items_view xs)) (rw c.deref-tuple-items.ensures.value at c.loop-tuple-test.false) c.loop-tuple.invariant
