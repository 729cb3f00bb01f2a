use Rattle.std.proofs.Common.{◌≡◌, ◌+◌, ◌++◌, ◌∷◌, [], take, sym, ap, ◌∙◌, subst, arith}
use Rattle.std.proofs.lemmas.List.{take_all, length-map}
use Rattle.std.specs.Arc.{arc_value}
use Rattle.edr_near.specs.Kept.{values_of, AreBoth}
use Rattle.edr_near.proofs.SharedItems.{taken_more, pushed}
use Rattle.edr_near.proofs.Sides.{pushed_front, pushed_back, none_yet}
use Rattle.edr_near.proofs.trees.parted.Goals as goal
use Rattle.edr_near.proofs.trees.parted.Goals.{then-is_behind+in_ok-try_clone+in_ok-push, else-is_behind+in_ok-try_clone-2+in_ok-push-2}

pub loop-item-init : goal.loop-item-init
loop-item-init g c =
    none_yet (values_of c.in_ok-before.before.items) (values_of c.in_ok-behind.behind.items) (ap values_of c.in_ok-before.ensures.items) (ap values_of c.in_ok-behind.ensures.items)

pub loop-item-preserved : goal.loop-item-preserved
loop-item-preserved g c =
    let shared = c.args.items.now in
    let k = c.loop-item.item-index in
    let s = c.item-item.result in
    let item = arc_value s in
    let front = values_of c.loop-item.before.items in
    let back = values_of c.loop-item.behind.items in
    let all = take k (values_of shared) in
    let grown = sym (taken_more shared k s c.loop-item-test.true c.item-item.is) in
    elim c.if-is_behind.branch [
      | then-is_behind+in_ok-try_clone+in_ok-push w ↦
          (let same : values_of c.if-is_behind.before.items ≡ front = ap (λ o. values_of o.items) w.before-is in
          let more : values_of c.if-is_behind.behind.items ≡ back ++ item ∷ [] =
          ap (λ o. values_of o.items) w.behind-is
          ∙ (ap values_of w.in_ok-push.ensures.items
          ∙ (pushed c.loop-item.behind.items w.in_ok-try_clone.field-0 ∙ ap (λ x. back ++ x ∷ []) w.in_ok-try_clone.ensures)) in
          subst (λ l. AreBoth l (values_of c.if-is_behind.behind.items) (take (k + 1) (values_of shared))) (sym same)
          (subst (λ l. AreBoth front l (take (k + 1) (values_of shared))) (sym more) (subst (AreBoth front (back ++ item ∷ [])) grown (pushed_back front back all item c.loop-item.invariant))))
      | else-is_behind+in_ok-try_clone-2+in_ok-push-2 w ↦
          (let same : values_of c.if-is_behind.behind.items ≡ back = ap (λ o. values_of o.items) w.behind-is in
          let more : values_of c.if-is_behind.before.items ≡ front ++ item ∷ [] =
          ap (λ o. values_of o.items) w.before-is
          ∙ (ap values_of w.in_ok-push-2.ensures.items
          ∙ (pushed c.loop-item.before.items w.in_ok-try_clone-2.field-0 ∙ ap (λ x. front ++ x ∷ []) w.in_ok-try_clone-2.ensures)) in
          subst (λ l. AreBoth l (values_of c.if-is_behind.behind.items) (take (k + 1) (values_of shared))) (sym more)
          (subst (λ l. AreBoth (front ++ item ∷ []) l (take (k + 1) (values_of shared))) (sym same) (subst (AreBoth (front ++ item ∷ []) back) grown (pushed_front front back all item c.loop-item.invariant))))
    ]

pub returns : goal.returns
returns g c =
    let shared = c.args.items.now in
    let k = c.loop-item.item-index in
    let all : take k (values_of shared) ≡ values_of shared =
    take_all k (values_of shared) (omega (arith, c.loop-item-test.false, length-map shared (λ x. arc_value x))) in
    subst (AreBoth (values_of c.loop-item.before.items) (values_of c.loop-item.behind.items)) all c.loop-item.invariant
