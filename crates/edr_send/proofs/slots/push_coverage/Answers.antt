use Rattle.std.proofs.Common.{rules, ◌≡◌, ℕ, List, get_or, subst}
use Rattle.std.proofs.lemmas.List.{get_or_default}
use Rattle.edr_select.specs.declared.plans.GridNode.{GridNode}
use Rattle.edr_send.specs.Filling.{SlotsGrew}
use Rattle.edr_send.specs.Gathered.{places_of_range}
use Rattle.edr_send.proofs.SlotLists.{grew_item}
use Rattle.edr_send.proofs.slots.push_coverage.Goals as goal

pub loop-parameter-preserved : goal.loop-parameter-preserved
loop-parameter-preserved c =
    let parameters : List ℕ = c.args.parameters.now in
    let i : ℕ = c.loop-parameter.parameter-index in
    let cells : c.items.result.now ≡ c.args.planned.now.cells = search rules in
    grew_item c.args.shape (places_of_range c.args.planned.now.cells) parameters i (get_or parameters i 0) c.args.slots.now.items c.loop-parameter.slots.items c.push_range.new.slots.items c.loop-parameter-test.true
    (get_or_default parameters i 0 (get_or parameters i 0) c.loop-parameter-test.true) c.loop-parameter.invariant
    (subst (λ (l : List GridNode). SlotsGrew c.args.shape (places_of_range l (get_or parameters i 0)) c.loop-parameter.slots.items c.push_range.new.slots.items) cells c.in_ok-push_range.ensures)
