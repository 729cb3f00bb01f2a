use Rattle.std.proofs.Common.{refl, sym, ◌∙◌}
use Rattle.serde_json.specs.Find.{as_str}
use Rattle.edr_json.specs.Trees.{is_text}
use Rattle.covjson_read.specs.SystemAnswers.{has_text}
use Rattle.covjson_read.proofs.ItemSteps.{any_found, any_later}
use Rattle.covjson_read.proofs.systems.has_text.Goals as goal

pub returns-then-is_text : goal.returns-then-is_text
returns-then-is_text c =
    let text = c.args.text.now in
    let items_is = c.deref-item-items.ensures.value in
    any_found (λ d. is_text text (as_str d)) (has_text text) (λ d ds. refl) c.args.items.now.items c.loop-item.item-index _ c.loop-item.invariant c.item-item.result (rw items_is at c.loop-item-test.true)
    (rw items_is at c.item-item.is) (sym c.if-is_text.true ∙ c.is_text.ensures)

pub loop-item-preserved : goal.loop-item-preserved
loop-item-preserved c =
    let text = c.args.text.now in
    let items_is = c.deref-item-items.ensures.value in
    any_later (λ d. is_text text (as_str d)) (has_text text) (λ d ds. refl) c.args.items.now.items c.loop-item.item-index _ c.loop-item.invariant c.item-item.result (rw items_is at c.loop-item-test.true)
    (rw items_is at c.item-item.is) (sym c.if-is_text.false ∙ c.is_text.ensures)
