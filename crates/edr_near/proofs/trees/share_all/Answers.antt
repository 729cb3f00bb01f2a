use Rattle.std.proofs.Common.{◌≡◌, ◌++◌, ◌∷◌, [], sym, ap, ◌∙◌, take, append_assoc}
use Rattle.std.specs.Arc.{arc_value}
use Rattle.edr_near.specs.Kept.{values_of}
use Rattle.edr_near.proofs.SharedItems.{taken_more, pushed}
use Rattle.edr_near.proofs.trees.share_all.Goals as goal

pub loop-item-preserved : goal.loop-item-preserved
loop-item-preserved g c =
    let shared = c.args.items.now in
    let i = c.loop-item.item-index in
    let s = c.item-item.result in
    let first = values_of c.args.shared.now.items in
    let clone : arc_value c.in_ok-try_clone.field-0 ≡ arc_value s = c.in_ok-try_clone.ensures in
    ap values_of c.in_ok-push.ensures.items
    ∙ (pushed c.loop-item.shared.items c.in_ok-try_clone.field-0
    ∙ (ap (λ x. values_of c.loop-item.shared.items ++ x ∷ []) clone
    ∙ (ap (λ l. l ++ arc_value s ∷ []) c.loop-item.invariant
    ∙ (append_assoc first (take i (values_of shared)) (arc_value s ∷ [])
    ∙ ap (λ l. first ++ l) (sym (taken_more shared i s c.loop-item-test.true c.item-item.is))))))
