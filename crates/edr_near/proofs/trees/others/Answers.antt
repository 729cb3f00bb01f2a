use Rattle.std.proofs.Common.{◌≡◌, ◌+◌, ◌++◌, ◌∷◌, [], take, sym, ap, ◌∙◌, subst, arith}
use Rattle.std.proofs.lemmas.List.{take_all, length-map}
use Rattle.std.specs.Arc.{arc_value}
use Rattle.edr_near.specs.Near.{is_it}
use Rattle.edr_near.specs.Kept.{values_of}
use Rattle.edr_near.proofs.Left.{Has, none_yet, keeps, leaves}
use Rattle.edr_near.proofs.SharedItems.{taken_more, pushed}
use Rattle.edr_near.proofs.trees.others.Goals as goal
use Rattle.edr_near.proofs.trees.others.Goals.{then-not-is_it+in_ok-try_clone+in_ok-push, else-not-is_it}

pub loop-item-init : goal.loop-item-init
loop-item-init g c = none_yet (is_it g.T.Identified.id_of g.T.Placed.spot_of c.args.spot.now c.args.id.now) (values_of c.in_ok-others.others.items) (ap values_of c.in_ok-others.ensures.items)

pub loop-item-preserved : goal.loop-item-preserved
loop-item-preserved g c =
    let test = is_it g.T.Identified.id_of g.T.Placed.spot_of c.args.spot.now c.args.id.now in
    let shared = c.args.items.now in
    let k = c.loop-item.item-index in
    let s = c.item-item.result in
    let item = arc_value s in
    let had = values_of c.loop-item.others.items in
    let all = take k (values_of shared) in
    let grown = sym (taken_more shared k s c.loop-item-test.true c.item-item.is) in
    let tested = ap test (sym c.deref.ensures) ∙ sym c.is_it.ensures in
    elim c.if-not-is_it.branch [
      | then-not-is_it+in_ok-try_clone+in_ok-push w ↦
          (let same : values_of c.if-not-is_it.others.items ≡ had ++ item ∷ [] =
          ap (λ o. values_of o.items) w.others-is
          ∙ (ap values_of w.in_ok-push.ensures.items
          ∙ (pushed c.loop-item.others.items w.in_ok-try_clone.field-0 ∙ ap (λ x. had ++ x ∷ []) w.in_ok-try_clone.ensures)) in
          subst (λ l. Has test l (take (k + 1) (values_of shared))) (sym same)
          (subst (λ l. Has test (had ++ item ∷ []) l) grown (keeps test had all item (tested ∙ w.if-not-is_it.true) c.loop-item.invariant)))
      | else-not-is_it w ↦
          (let same : values_of c.if-not-is_it.others.items ≡ had = ap (λ o. values_of o.items) w.others-is in
          subst (λ l. Has test l (take (k + 1) (values_of shared))) (sym same)
          (subst (λ l. Has test had l) grown (leaves test had all item (tested ∙ w.if-not-is_it.false) c.loop-item.invariant)))
    ]

pub returns : goal.returns
returns g c =
    let test = is_it g.T.Identified.id_of g.T.Placed.spot_of c.args.spot.now c.args.id.now in
    let shared = c.args.items.now in
    let k = c.loop-item.item-index in
    let all : take k (values_of shared) ≡ values_of shared =
    take_all k (values_of shared) (omega (arith, c.loop-item-test.false, length-map shared (λ x. arc_value x))) in
    subst (λ l. Has test (values_of c.loop-item.others.items) l) all c.loop-item.invariant
